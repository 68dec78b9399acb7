-- Chapter: the listing of all named types of an image, and its text.
use Rattle.std.specs.Prelude.{◌≡◌, ℕ, suc, ◌<◌, ◌⊎◌, ◌↔◌, Bool, true, false, List, [], ◌∷◌, ◌++◌}
use Rattle.std.specs.Prelude.{Option, Some, None, is_some, codes, ◌&&◌, nat_lt, if◌then◌else◌}
use Rattle.std.specs.Prelude.{length, slice_index, flat_map, Contains, AllPairs, IsPermutation}
use Rattle.std.specs.List.{range_with_len}
use Rattle.dw_image.specs.declared.image.Image.{Image}
use Rattle.dw_image.specs.Images.{entries_in, steps_in}
use Rattle.dw_types.specs.Paths.{Leads}
use Rattle.dw_types.specs.Graphs.{Graph, IsStep}
use Rattle.dw_types.specs.LongestRows.{IsLongest}
use Rattle.dw_cprint.specs.Declarations.{declaration_of}
use Rattle.dw_cprint.specs.Digits.{places}
use Rattle.dw_cprint.specs.EntryShapes.{shape_in, subject_in}
use Rattle.dw_cprint.specs.FaultTexts.{code_text, name_text}
use Rattle.dw_cprint.specs.LookUps.{entry_offset}
use Rattle.dw_cprint.specs.Refusals.{PrintFault, Refuses, IsPrinted}
use Rattle.dw_cprint.specs.Shapes.{SubjectOf, typedef_subject, defined_subject}
use Rattle.dw_cprint.specs.Steps.{first_steps}
use Rattle.dw_cprint.specs.Terms.{CDeclaration}
use Rattle.dw_cprint.specs.Writing.{written}

-- a typedef, or a structure, union or enumeration that is not declared, with a name
abbrev pub is_named_type : SubjectOf → Bool
is_named_type (typedef_subject name at) = is_some name
is_named_type (defined_subject name b) = is_some name
is_named_type _ = false

-- the entry of this number is a named type
abbrev pub IsNamedType : Image → ℕ → Type 0
IsNamedType image entry = (entry < length (entries_in image)) × (is_named_type (subject_in image entry) ≡ true)

-- a number, if the entry of this number is a named type
abbrev pub named_number : Image → ℕ → Option ℕ
named_number image k =
    if nat_lt k (length (entries_in image)) && is_named_type (subject_in image k) then Some k else None

-- the named types of an image, in rising offset
pub record AreNamedTypes (image : Image) (named : List ℕ) : Type 0 where
  pub all : (entry : ℕ) → Contains named entry ↔ IsNamedType image entry
  pub rising : AllPairs (λ a b. a < b) named

-- the spelling steps of some named types
abbrev pub named_steps : Image → List ℕ → List ℕ
named_steps image named = flat_map (λ id. first_steps (subject_in image id)) named

-- the level of each entry: how many steps by value the longest row of them has that starts there
abbrev pub AreLevels : Image → (ℕ → ℕ) → Type 0
AreLevels image level = (entry : ℕ) → entry < length (entries_in image) → IsLongest (steps_in image) entry (level entry)

-- some steps, at least one, lead from one node to another; if the steps are by value, the one holds the other
abbrev pub HoldsByValue : Graph → ℕ → ℕ → Type 0
HoldsByValue graph from to = (k : ℕ) × Leads (IsStep graph) (suc k) from to

-- one entry is before another: by rising level, then by rising offset
abbrev pub StandsBefore : (ℕ → ℕ) → ℕ → ℕ → Type 0
StandsBefore level a b = (level a < level b) ⊎ ((level a ≡ level b) × (a < b))

-- the numbers of named types, by rising level, then by rising offset
pub record AreRanked (image : Image) (named numbers : List ℕ) : Type 0 where
  pub level : ℕ → ℕ
  pub levels : AreLevels image level
  pub all : IsPermutation (range_with_len 0 (length named)) numbers
  pub by_level : AllPairs (λ j k. StandsBefore level (slice_index named j) (slice_index named k)) numbers

-- all named types: those that are printed by level and offset, and the others by offset, each with its refusal
pub record IsListing (image : Image) (order : List ℕ) (refused : List (ℕ × PrintFault)) : Type 0 where
  pub level : ℕ → ℕ
  pub levels : AreLevels image level
  pub printed : (entry : ℕ) → Contains order entry
      ↔ (IsNamedType image entry × IsPrinted (shape_in image) (subject_in image entry))
  pub by_level : AllPairs (λ a b. StandsBefore level a b) order
  pub others : (entry : ℕ) (rule : PrintFault) → Contains refused (entry, rule)
      ↔ (IsNamedType image entry × Refuses (shape_in image) (subject_in image entry) rule)
  pub by_offset : AllPairs (λ (a b : ℕ × PrintFault). a.0 < b.0) refused
  pub each : (entry : ℕ) → IsNamedType image entry
      → Contains order entry ⊎ ((rule : PrintFault) × Contains refused (entry, rule))

-- ---- the text

-- the text of a declaration, or nothing if there is none
abbrev pub text_if : Option CDeclaration → List ℕ
text_if None = []
text_if (Some d) = written d

-- the declaration and a line feed
abbrev pub declared_line : Image → ℕ → List ℕ
declared_line image entry = text_if (declaration_of (shape_in image) (subject_in image entry)) ++ 10 ∷ []

-- a comment with an offset and a refusal, and a line feed
abbrev pub refused_line : (offset : ℕ) → PrintFault → List ℕ
refused_line offset rule =
    codes "/* 0x" ++ places 8 offset ++ codes " " ++ code_text rule ++ codes " " ++ name_text rule
    ++ (codes " */" ++ 10 ∷ [])

-- the line of an entry that is refused
abbrev pub refused_line_in : Image → ℕ × PrintFault → List ℕ
refused_line_in image r = refused_line (entry_offset image r.0) r.1

-- the lines of those that are printed, and then of those that are refused
abbrev pub listing_text : Image → List ℕ → List (ℕ × PrintFault) → List ℕ
listing_text image order refused = flat_map (declared_line image) order ++ flat_map (refused_line_in image) refused

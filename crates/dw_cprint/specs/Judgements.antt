-- State: why declarations are refused, if they are, and the named types of an image by their numbers.
use Rattle.std.specs.Prelude.{◌≡◌, ℕ, ◌<◌, Bool, true, false, List, Option, Some, None, length}
use Rattle.std.specs.Prelude.{slice_get, slice_index, slice_index_or}
use Rattle.std.specs.Option.{option_map_or}
use Rattle.dw_image.specs.declared.image.Image.{Image}
use Rattle.dw_cprint.specs.EntryShapes.{body_in, shape_in, subject_in}
use Rattle.dw_cprint.specs.LookUps.{name_at}
use Rattle.dw_cprint.specs.Refusals.{PrintFault, HoldsNoneBelow, Refuses, IsPrinted}
use Rattle.dw_cprint.specs.Shapes.{ShapeOf, SubjectOf, defined_subject, typedef_subject}
use Rattle.dw_cprint.specs.declared.named.NamedKind.{NamedKind}
use Rattle.dw_cprint.specs.declared.named.NamedKind.TheVariants as kind
use Rattle.dw_cprint.specs.declared.words.Text.{Text}

-- why a declaration is refused; none if no rule with a smaller number holds
abbrev pub IsRefusalBelow : ℕ → (ℕ → ShapeOf) → SubjectOf → Option PrintFault → Type 0
IsRefusalBelow number shapes subject None = HoldsNoneBelow number shapes subject
IsRefusalBelow number shapes subject (Some rule) = Refuses shapes subject rule

-- why a declaration is refused; none if it is printed
abbrev pub IsRefusal : (ℕ → ShapeOf) → SubjectOf → Option PrintFault → Type 0
IsRefusal = IsRefusalBelow 7

-- ---- the named types of an image by their numbers, in rising offset

-- the level of the one with a number, by the levels of all entries; 0 where there is none
abbrev pub level_of : (levels named : List ℕ) → (number : ℕ) → ℕ
level_of levels named number = option_map_or (slice_index levels) (slice_get named number) 0

-- a text is the name of an entry
abbrev pub IsNameOf : Image → ℕ → Text → Type 0
IsNameOf image id text = Some text.bytes.now ≡ name_at image id

-- what is declared at an entry, by its kind
abbrev pub subject_of_kind : Image → ℕ → NamedKind → SubjectOf
subject_of_kind image id (kind.Typedef at) = typedef_subject (name_at image id) at
subject_of_kind image id (kind.Defined word) = defined_subject (name_at image id) (body_in image id word)

-- a kind is that of an entry
abbrev pub IsKindOf : Image → ℕ → NamedKind → Type 0
IsKindOf image id kind = subject_of_kind image id kind ≡ subject_in image id

-- something that holds of each of them and of what is kept of it
pub record HoldsOfEach {X : Type 0} (P : ℕ → X → Type 0) (named : List ℕ) (kept : List X) : Type 0 where
  pub long : length kept ≡ length named
  pub each : (k : ℕ) (d : X) → k < length kept → P (slice_index named k) (slice_index_or kept k d)

-- their names
abbrev pub AreNames : Image → List ℕ → List Text → Type 0
AreNames image = HoldsOfEach (IsNameOf image)

-- their kinds
abbrev pub AreKinds : Image → List ℕ → List NamedKind → Type 0
AreKinds image = HoldsOfEach (IsKindOf image)

-- why each of the first so many is refused; none if it is printed
pub record AreFirstRefusals (image : Image) (named : List ℕ) (count : ℕ) (refusals : List (Option PrintFault))
    : Type 0 where
  pub long : length refusals ≡ count
  pub each : (k : ℕ) → k < count
      → IsRefusal (shape_in image) (subject_in image (slice_index named k)) (slice_index_or refusals k None)

-- why each is refused
abbrev pub AreRefusals : Image → (named : List ℕ) → List (Option PrintFault) → Type 0
AreRefusals image named refusals = AreFirstRefusals image named (length named) refusals

-- a refusal is there, and is none
abbrev pub is_there_none : Option (Option PrintFault) → Bool
is_there_none (Some None) = true
is_there_none _ = false

-- the one with a number has no refusal
abbrev pub is_printed : List (Option PrintFault) → ℕ → Bool
is_printed refusals number = is_there_none (slice_get refusals number)

-- the number of one that is printed
abbrev pub IsPrintedNumber : Image → (named : List ℕ) → ℕ → Type 0
IsPrintedNumber image named number =
    (number < length named) × IsPrinted (shape_in image) (subject_in image (slice_index named number))

-- an entry with a refusal
abbrev pub refused_pair : Option ℕ → Option (Option PrintFault) → Option (ℕ × PrintFault)
refused_pair (Some entry) (Some (Some rule)) = Some (entry, rule)
refused_pair _ _ = None

-- the named type with a number and its refusal, if it is refused
abbrev pub refused_number : (named : List ℕ) → (refusals : List (Option PrintFault)) → ℕ → Option (ℕ × PrintFault)
refused_number named refusals number = refused_pair (slice_get named number) (slice_get refusals number)

-- State: what a survey of some declarations keeps of each type that reaches no cycle: its kind, what is wrong with it,
-- how long the longest path from it is, and how many bytes its text has.
use Rattle.std.specs.Prelude.{◌≡◌, ℕ, ◌<◌, ◌≤◌, ◌↔◌, true, IsTrue, List, [], ◌∷◌, Option, Some}
use Rattle.std.specs.Prelude.{None, length, slice_get, slice_index, slice_index_or, is_none, option_and_then, unwrap_or}
use Rattle.std.specs.Prelude.{Contains, Bool, false, ◌||◌}
use Rattle.std.specs.List.{list_any}
use Rattle.dw_types.specs.Paths.{ReachesCycle}
use Rattle.dw_cprint.specs.Declarations.{term_at}
use Rattle.dw_cprint.specs.Kept.{found_at, kept}
use Rattle.dw_cprint.specs.Lengths.{IsLength}
use Rattle.dw_cprint.specs.Refusals.{Holds, BadName, Foreign, Unspeakable, TooDeep}
use Rattle.dw_cprint.specs.Shapes.{Enum, TypeAt, ShapeOf, qualified, body, SubjectOf, variable_subject, defined_subject}
use Rattle.dw_cprint.specs.Shapes.{declared_subject, view_shape}
use Rattle.dw_cprint.specs.Steps.{entries_among, steps_reached, StepsTo, IsReachedFrom, HasPathFrom}
use Rattle.dw_cprint.specs.Terms.{Term}
use Rattle.dw_cprint.specs.Wrong.{kind_at, StandsUnder, is_void, HasBadName, is_foreign, IsUnspeakable}
use Rattle.dw_cprint.specs.Wrong.{is_wrong, is_wrong_row, object_types}
use Rattle.dw_cprint.specs.declared.shape.Shape.{Shape}
use Rattle.dw_cprint.specs.declared.survey.TheConstants.{UNKNOWN, VOID}
pub use Rattle.dw_cprint.specs.Wrong.{TypeKind}
pub use Rattle.dw_cprint.specs.declared.survey.Findings.{Findings}
pub use Rattle.dw_cprint.specs.declared.survey.Summary.{Summary}
use Rattle.dw_cprint.specs.declared.survey.Survey.{Survey}

-- ---- what is found

-- one of these types, or an entry that is reached from them, has a property
abbrev pub ReachesOne : (ShapeOf → Type 0) → (ℕ → ShapeOf) → List TypeAt → Type 0
ReachesOne P shapes types = (entry : ℕ) × IsReachedFrom shapes (entries_among types) entry × P (shapes entry)

-- the third refusal holds for the shape
abbrev pub IsForeign : ShapeOf → Type 0
IsForeign shape = is_foreign shape ≡ true

-- the longest path that begins with a step to one of some entries has so many steps; more than 65 are not told apart
abbrev pub IsDepth : (ℕ → ShapeOf) → List ℕ → ℕ → Type 0
IsDepth shapes roots depth = (k : ℕ) → k ≤ 65 → HasPathFrom shapes roots k ↔ (k ≤ depth)

-- which of the second, third and fourth refusal holds for one of these types, or for an entry that is reached from
-- them, and how long the longest path to them is
pub record AreFindings (shapes : ℕ → ShapeOf) (types : List TypeAt) (found : Findings) : Type 0 where
  pub bad_name : IsTrue found.bad_name ↔ ReachesOne (HasBadName shapes) shapes types
  pub foreign_type : IsTrue found.foreign ↔ ReachesOne IsForeign shapes types
  pub unspeakable : IsTrue found.unspeakable ↔ ReachesOne (IsUnspeakable shapes) shapes types
  pub deep : IsDepth shapes (entries_among types) found.depth

-- which of the second to the fifth refusal holds for the declared entry
pub record AreFindingsOf (shapes : ℕ → ShapeOf) (subject : SubjectOf) (found : Findings) : Type 0 where
  pub bad_name : IsTrue found.bad_name ↔ Holds shapes subject BadName
  pub foreign_type : IsTrue found.foreign ↔ Holds shapes subject Foreign
  pub unspeakable : IsTrue found.unspeakable ↔ Holds shapes subject Unspeakable
  pub deep : (64 < found.depth) ↔ Holds shapes subject TooDeep

-- the tests of an entry itself
pub record IsOwn (name foreign words : Bool) (own : Findings) : Type 0 where
  pub bad_name : own.bad_name ≡ name
  pub foreign_type : own.foreign ≡ foreign
  pub unspeakable : own.unspeakable ≡ words
  pub shallow : own.depth ≡ 0

-- what is wrong with the one or with the other
pub record IsEither (one other both : Findings) : Type 0 where
  pub bad_name : both.bad_name ≡ (one.bad_name || other.bad_name)
  pub foreign_type : both.foreign ≡ (one.foreign || other.foreign)
  pub unspeakable : both.unspeakable ≡ (one.unspeakable || other.unspeakable)

-- ---- summaries

-- the kind of what is under a type's row of qualifiers; of the type itself, if it is no qualifier
abbrev pub IsBase : (ℕ → ShapeOf) → TypeAt → TypeKind → Type 0
IsBase shapes at own = (under : TypeAt) × StandsUnder shapes at under × (own ≡ kind_at shapes under)

-- what a summary tells of a type
pub record IsSummary (shapes : ℕ → ShapeOf) (at : TypeAt) (known : Summary) : Type 0 where
  pub is_kind : known.kind ≡ kind_at shapes at
  pub is_base : IsBase shapes at known.base
  pub are_found : AreFindings shapes (at ∷ []) known.findings
  pub is_length : (k : ℕ) (t : Term) → term_at k shapes at ≡ Some t → IsLength t known.kind known.base known.length

-- exactly some nodes have summaries
abbrev pub HaveSummaries : List ℕ → List (Option Summary) → Type 0
HaveSummaries clear nodes = (node : ℕ) → Contains clear node ↔ (is_none (slice_index_or nodes node None) ≡ false)

-- the summary of a type: that of its entry, if that has one
abbrev pub summary_at : (void : Summary) → List ℕ → List (Option Summary) → TypeAt → Option Summary
summary_at void places nodes None = Some void
summary_at void places nodes (Some entry) = option_and_then (λ (s : Option Summary). s) (found_at places nodes entry)

-- what is told of a type: its summary, if it has one
abbrev pub known_of : Survey → TypeAt → Summary
known_of s at = unwrap_or (summary_at VOID s.places.items s.summaries.items at) UNKNOWN

-- what a survey tells of a type is right
abbrev pub KnowsType : (ℕ → ShapeOf) → Survey → TypeAt → Type 0
KnowsType shapes s at = IsSummary shapes at (known_of s at)

-- the kind that it tells of a type
abbrev pub kind_known : Survey → TypeAt → TypeKind
kind_known s at = (known_of s at).kind

-- the kind that it tells of what is under a type's row of qualifiers
abbrev pub base_known : Survey → TypeAt → TypeKind
base_known s at = (known_of s at).base

-- one of some types is void, or a row of qualifiers over void, by what it tells
abbrev pub has_void : Survey → List TypeAt → Bool
has_void s types = list_any (λ at. is_void (base_known s at)) types

-- the fourth refusal holds for a shape, by what it tells
abbrev pub is_unspeakable : Survey → ShapeOf → Bool
is_unspeakable s (qualified q at) = is_wrong_row q (base_known s at)
is_unspeakable s shape = has_void s (object_types shape) || is_wrong (kind_known s) shape

-- the same for the declared entry
abbrev pub is_own_unspeakable : Survey → SubjectOf → Bool
is_own_unspeakable s (variable_subject name at) = is_void (base_known s at)
is_own_unspeakable s (defined_subject name b) = is_unspeakable s (body b)
is_own_unspeakable s (declared_subject Enum name) = true
is_own_unspeakable s _ = false

-- nodes, each after those that its steps lead to; the entry of each node; and the shapes that are kept of them
pub record AreNodes (shapes : ℕ → ShapeOf) (places found : List ℕ) (kept : List Shape) (clear : List ℕ) : Type 0 where
  pub within : (i : ℕ) → i < length clear → slice_index clear i < length found
  pub placed : (node : ℕ) → node < length found → slice_get places (slice_index found node) ≡ Some node
  pub says : (node : ℕ) (shape : Shape) → slice_get kept node ≡ Some shape
      → view_shape shape ≡ shapes (slice_index found node)
  pub behind : (i to : ℕ) → i < length clear
      → Contains (steps_reached shapes (slice_index found (slice_index clear i))) to
      → (j : ℕ) × (j < i) × (slice_index found (slice_index clear j) ≡ to)

-- the summaries of these nodes are right
abbrev pub AreRight : (ℕ → ShapeOf) → (found clear : List ℕ) → Survey → Type 0
AreRight shapes found clear s = (i : ℕ) → i < length clear
    → KnowsType shapes s (Some (slice_index found (slice_index clear i)))

-- ---- surveys

-- each of some entries is one of others
abbrev pub AreAmong : List ℕ → List ℕ → Type 0
AreAmong some all = (entry : ℕ) → Contains some entry → Contains all entry

-- a type has no summary
abbrev pub lacks_summary : Survey → TypeAt → Bool
lacks_summary s at = is_none (summary_at VOID s.places.items s.summaries.items at)

-- a survey of some entries and of all that they reach: their shapes, which of them reach a cycle, and what is known of
-- the others
pub record IsSurveyOf (shapes : ℕ → ShapeOf) (roots : List ℕ) (s : Survey) : Type 0 where
  pub keeps : (entry : ℕ) → IsReachedFrom shapes roots entry → kept s entry ≡ shapes entry
  pub clear : (entry : ℕ) → IsReachedFrom shapes roots entry
      → (lacks_summary s (Some entry) ≡ true) ↔ ReachesCycle (StepsTo shapes) entry
  pub known : (entry : ℕ) → IsReachedFrom shapes roots entry → lacks_summary s (Some entry) ≡ false
      → KnowsType shapes s (Some entry)

-- by the shapes of which this is a survey, if some entries are among those that it began with
abbrev pub BySurvey : Survey → List ℕ → ((ℕ → ShapeOf) → Type 0) → Type 0
BySurvey s entries P =
    (shapes : ℕ → ShapeOf) (roots : List ℕ) → IsSurveyOf shapes roots s → AreAmong entries roots → P shapes

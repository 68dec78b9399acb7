-- Chapter: why an entry is not printed: the first of the six refusals that holds.
use Rattle.std.specs.Prelude.{◌≡◌, ℕ, ◌<◌, true, List, ◌++◌, Some, length}
use Rattle.dw_types.specs.Paths.{IsOnCycle}
use Rattle.dw_cprint.specs.Declarations.{declaration_of}
use Rattle.dw_cprint.specs.Legible.{IsLegibleDeclaration}
use Rattle.dw_cprint.specs.Shapes.{ShapeOf, SubjectOf, other_subject}
use Rattle.dw_cprint.specs.Steps.{IsReached, HasPath, StepsTo}
use Rattle.dw_cprint.specs.Terms.{CDeclaration}
use Rattle.dw_cprint.specs.Writing.{written}
use Rattle.dw_cprint.specs.Wrong.{HasBadName, kind_at, has_own_bad_name, is_foreign, is_own_foreign}
use Rattle.dw_cprint.specs.Wrong.{IsUnspeakable, IsOwnUnspeakable}
pub use Rattle.dw_cprint.specs.declared.fault.PrintFault.{PrintFault}
pub use Rattle.dw_cprint.specs.declared.fault.PrintFault.TheVariants.{NotPrintable, BadName, Foreign, Unspeakable}
pub use Rattle.dw_cprint.specs.declared.fault.PrintFault.TheVariants.{TooDeep, TooLong, Memory}

-- the text of the entry's declaration has more than so many bytes
abbrev pub IsLonger : ℕ → (ℕ → ShapeOf) → SubjectOf → Type 0
IsLonger limit shapes subject =
    (d : CDeclaration) × (declaration_of shapes subject ≡ Some d) × (limit < length (written d))

-- the condition of each refusal
pub data Holds (shapes : ℕ → ShapeOf) (subject : SubjectOf) : PrintFault → Type 0 where
  other_kind : subject ≡ other_subject → Holds shapes subject NotPrintable
  cycle : (entry : ℕ) → IsReached shapes subject entry → IsOnCycle (StepsTo shapes) entry
      → Holds shapes subject NotPrintable
  own_name : has_own_bad_name (kind_at shapes) subject ≡ true → Holds shapes subject BadName
  name_reached : (entry : ℕ) → IsReached shapes subject entry → HasBadName shapes (shapes entry)
      → Holds shapes subject BadName
  own_child : is_own_foreign subject ≡ true → Holds shapes subject Foreign
  foreign_reached : (entry : ℕ) → IsReached shapes subject entry → is_foreign (shapes entry) ≡ true
      → Holds shapes subject Foreign
  own_shape : IsOwnUnspeakable shapes subject → Holds shapes subject Unspeakable
  shape_reached : (entry : ℕ) → IsReached shapes subject entry → IsUnspeakable shapes (shapes entry)
      → Holds shapes subject Unspeakable
  deep : HasPath shapes subject 65 → Holds shapes subject TooDeep
  long : IsLonger 65536 shapes subject → Holds shapes subject TooLong

-- the number of a refusal, as its code has it; running out of memory comes after all of them
abbrev pub number_of : PrintFault → ℕ
number_of NotPrintable = 1
number_of BadName = 2
number_of Foreign = 3
number_of Unspeakable = 4
number_of TooDeep = 5
number_of TooLong = 6
number_of Memory = 7

-- no rule with a smaller number holds
abbrev pub HoldsNoneBelow : ℕ → (ℕ → ShapeOf) → SubjectOf → Type 0
HoldsNoneBelow number shapes subject = (rule : PrintFault) → number_of rule < number → Holds shapes subject rule → ⊥

-- the rule holds, and none of a smaller number
pub record Refuses (shapes : ℕ → ShapeOf) (subject : SubjectOf) (rule : PrintFault) : Type 0 where
  pub holds : Holds shapes subject rule
  pub least : HoldsNoneBelow (number_of rule) shapes subject

-- no rule holds
abbrev pub IsPrinted : (ℕ → ShapeOf) → SubjectOf → Type 0
IsPrinted = HoldsNoneBelow 7

-- the text of the entry's declaration comes after what was there
abbrev pub AppendsDeclaration : (ℕ → ShapeOf) → SubjectOf → List ℕ → List ℕ → Type 0
AppendsDeclaration shapes subject old new =
    (d : CDeclaration) × (declaration_of shapes subject ≡ Some d) × (new ≡ old ++ written d)

-- no other declaration has the text of the entry's
abbrev pub HasOneReading : (ℕ → ShapeOf) → SubjectOf → Type 0
HasOneReading shapes subject =
    (d another : CDeclaration) → declaration_of shapes subject ≡ Some d → IsLegibleDeclaration another
    → written another ≡ written d → another ≡ d

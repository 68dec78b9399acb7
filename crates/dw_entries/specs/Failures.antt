-- Chapter: failures of rules over entries, their order, and the first of them.
use Rattle.std.specs.Prelude.{◌≡◌, ℕ, ◌<◌, ◌⊎◌, [], Option, None, Some}
pub use Rattle.dw_forms.specs.declared.rule.Rule.{Rule}
use Rattle.dw_entries.specs.declared.fault.Section.TheVariants.{Info}
pub use Rattle.dw_entries.specs.declared.fault.PlainFault.{PlainFault}
pub use Rattle.dw_entries.specs.declared.fault.Fault.{Fault}
use Rattle.dw_forms.specs.Rules.{number_of}
use Rattle.dw_entries.specs.Places.{Place, offset_of, IsBefore}

-- a rule that fails at a place, and the attribute there, 0 where there is none
pub record Failure : Type 0 where
  pub rule : Rule
  pub place : Place
  pub attribute : ℕ

-- the one is named before the other: its place comes first, or at the same place its rule has the lower number
abbrev pub Precedes : Failure → Failure → Type 0
Precedes f g = IsBefore f.place g.place ⊎ ((f.place ≡ g.place) × (number_of f.rule < number_of g.rule))

-- the rule, the section, the offset and the attribute are those of the failure
pub record Names (broken : PlainFault) (f : Failure) : Type 0 where
  pub rule : broken.rule ≡ f.rule
  pub section : broken.section ≡ Info
  pub at : broken.at ≡ offset_of f.place
  pub attribute : broken.attribute ≡ f.attribute

-- a group of rules is given by its failures: none of them fails
abbrev pub HasNone : (Failure → Type 0) → Type 0
HasNone Fails = (f : Failure) → Fails f → ⊥

-- a failure of the group is named, and no other precedes it
pub record IsFirst (Fails : Failure → Type 0) (broken : PlainFault) : Type 0 where
  pub failure : Failure
  pub fails : Fails failure
  pub named : Names broken failure
  pub first : (g : Failure) → Fails g → Precedes g failure → ⊥

-- of the rules that fail at one place, the one with the least number; None where none does
abbrev pub IsLeast : (Rule → Type 0) → Option Rule → Type 0
IsLeast Fails None = (rule : Rule) → Fails rule → ⊥
IsLeast Fails (Some least) = Fails least × ((rule : Rule) → Fails rule → number_of rule < number_of least → ⊥)

-- a fault without its cycle
abbrev pub plain_fault_of : Fault → PlainFault
plain_fault_of f = record { rule = f.rule; section = f.section; at = f.at; attribute = f.attribute }

-- a fault that has no cycle, of bytes and not of types, and this holds of it
pub record IsPlainFault (P : PlainFault → Type 0) (f : Fault) : Type 0 where
  pub holds : P (plain_fault_of f)
  pub cycle : f.cycle.items ≡ []

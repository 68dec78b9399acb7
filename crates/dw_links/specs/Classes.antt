-- Chapter: the rule on classes: a value has one of the classes that its attribute may have (DWARF 5, 7.5.4 and 7.5.5).
-- The sentences that name a rule are made by docs/make-rules.py from docs/rules.tsv.
use Rattle.std.specs.Prelude.{◌≡◌, ℕ, false, List, slice_get, Some}
pub use Rattle.dw_forms.specs.Classes.{class_of, allows_in, is_one_of}
use Rattle.dw_forms.specs.declared.rule.Rule.TheVariants.{WrongClass}
use Rattle.dw_entries.specs.Header.{version_of}
use Rattle.dw_entries.specs.Entries.{entries_of, PlacedUnit, placed, DebugUnit}
use Rattle.dw_links.specs.RulesOfAttributes.{AtHead, AtEntries, Failure, Rule, EntryHead, Datum}

-- WrongClass: the value has none of the classes that the attribute may have
pub record ClassFails (units : List PlacedUnit) (head : EntryHead) (attribute : ℕ) (v : Datum) (rule : Rule) :
    Type 0 where
  pub unit : PlacedUnit
  pub in_unit : slice_get units head.unit ≡ Some unit
  pub class : allows_in (version_of unit.unit.header.kind) attribute (class_of v) ≡ false
  pub only : rule ≡ WrongClass

-- the failures of the rule on classes
abbrev pub ClassFailures : List DebugUnit → Failure → Type 0
ClassFailures units = AtEntries (entries_of units) (AtHead (ClassFails (placed units)))

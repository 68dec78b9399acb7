-- State: what is found at an entry and at its values, while the links of all entries are read.
use Rattle.std.specs.Prelude.{ℕ, ◌==◌, if◌then◌else◌, Option, None, Some, ◌≡◌, ◌⊎◌, List}
use Rattle.dw_forms.specs.Codes.{DW_AT_type}
use Rattle.dw_entries.specs.declared.entries.Entries.{Entries}
use Rattle.dw_entries.specs.declared.fault.PlainFault.{PlainFault}
use Rattle.dw_entries.specs.declared.fault.Section.TheVariants.{Info}
use Rattle.dw_entries.specs.Failures.{HasNone, IsFirst, IsLeast, Rule}
use Rattle.dw_entries.specs.Views.{sections_of, all_entries, all_units, units_of, Entry, DebugUnit}
use Rattle.dw_links.specs.RulesOfAttributes.{Rules, AtHead, EntryHead, entry_head}
use Rattle.dw_links.specs.UnitAtHand.{FailsByText, FailsByTarget, target_by, entries_followed, entry_with, UnitLinks}
use Rattle.dw_links.specs.References.{ReferenceFailures, Datum}
use Rattle.dw_links.specs.Strings.{StringFailures, Sections}
use Rattle.dw_links.specs.Tables.{target_of_type, AreTables, LinkTables}

-- the target of the first type, after one attribute more
abbrev pub kept_after : Option (Option ℕ) → (attribute : ℕ) → (reached : Option ℕ) → Option (Option ℕ)
kept_after (Some target) attribute reached = Some target
kept_after None attribute reached = if attribute == DW_AT_type then Some reached else None

-- no rule fails at an attribute with this value, and this is the target
pub record Reaches (entries : Entries) (head : EntryHead) (attribute : ℕ) (value : Datum) (reached : Option ℕ) : Type
    0 where
  pub strings : IsLeast (FailsByText entries head attribute value) None
  pub references : IsLeast (FailsByTarget entries head attribute value) None
  pub is_target : reached ≡ target_by entries head value

-- a rule fails at an attribute with this value
pub record FailsAtValue (Fails : Rules) (head : EntryHead) (attribute : ℕ) (value : Datum) (broken : PlainFault) : Type
    0 where
  pub rule : Rule
  pub least : IsLeast (Fails head attribute value) (Some rule)
  pub named : broken ≡ record { rule = rule; section = Info; at = head.offset; attribute = attribute }

-- the rule is one on strings and addresses, or on references
abbrev pub HasFailedAs : Entries → EntryHead → (attribute : ℕ) → Datum → PlainFault → Type 0
HasFailedAs entries head attribute value broken =
    FailsAtValue (FailsByText entries) head attribute value broken
    ⊎ FailsAtValue (FailsByTarget entries) head attribute value broken

-- ---- the same, of an entry by its number

-- a rule fails at its attribute
abbrev pub HasFailedAt : UnitLinks → (id attribute : ℕ) → Datum → PlainFault → Type 0
HasFailedAt it id = HasFailedAs (entries_followed it) (entry_head (entry_with it id))

-- no rule fails at its attribute, and this is the target
abbrev pub ReachesAt : UnitLinks → (id attribute : ℕ) → Datum → (reached : Option ℕ) → Type 0
ReachesAt it id = Reaches (entries_followed it) (entry_head (entry_with it id))

-- no rule fails at its attribute, and after it this is kept of the target of the first type
abbrev pub KeepsAt : UnitLinks → (id attribute : ℕ) → Datum → (before after : Option (Option ℕ)) → Type 0
KeepsAt it id attribute value before after =
    (reached : Option ℕ) × ReachesAt it id attribute value reached × (after ≡ kept_after before attribute reached)

-- no rule fails at an entry, and its type has this target
pub record IsEntryLinked (entries : Entries) (e : Entry) (target : Option ℕ) : Type 0 where
  pub strings : HasNone (AtHead (FailsByText entries) e)
  pub references : HasNone (AtHead (FailsByTarget entries) e)
  pub is_target : target ≡ target_of_type (all_entries entries) (all_units entries) e

-- a failure is the first at an entry, of the rules on strings and addresses or of those on references
abbrev pub IsFirstAtEntry : Entries → Entry → PlainFault → Type 0
IsFirstAtEntry entries e broken =
    IsFirst (AtHead (FailsByText entries) e) broken ⊎ IsFirst (AtHead (FailsByTarget entries) e) broken

-- a failure is the first of its group, at any entry or header
abbrev pub IsFirstOfGroup : Sections → List DebugUnit → PlainFault → Type 0
IsFirstOfGroup sections units broken =
    IsFirst (StringFailures sections units) broken ⊎ IsFirst (ReferenceFailures units) broken

-- no rule on strings, addresses and references fails, and these are the tables
pub record AreLinked (entries : Entries) (tables : LinkTables) : Type 0 where
  pub strings : HasNone (StringFailures (sections_of entries) (units_of entries))
  pub references : HasNone (ReferenceFailures (units_of entries))
  pub tables_are : AreTables entries tables

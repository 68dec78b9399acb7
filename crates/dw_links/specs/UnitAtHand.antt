-- State: the rules among all entries, and what must be known of the unit at hand while values are followed.
use Rattle.std.specs.Prelude.{◌≡◌, ◌≢◌, ◌<◌, ◌+◌, ℕ, true, Option, None, Some, length}
use Rattle.dw_forms.specs.Codes.{is_type_tag}
use Rattle.dw_entries.specs.declared.entries.Entries.{Entries}
use Rattle.dw_entries.specs.declared.led.Led.{Led}
use Rattle.dw_entries.specs.declared.led.Led.TheVariants as led
use Rattle.dw_entries.specs.ByNumber.{end_in, entry_of, placed_of}
use Rattle.dw_entries.specs.Failures.{HasNone, IsLeast}
use Rattle.dw_entries.specs.Views.{sections_of, all_entries, all_units, Entry}
pub use Rattle.dw_links.specs.declared.references.UnitLinks.{UnitLinks}
use Rattle.dw_links.specs.RulesOfAttributes.{Rules, EntryHead}
use Rattle.dw_links.specs.UnitContributions.{AreContributions}
use Rattle.dw_links.specs.References.{HeaderFailures, ReferenceFails, is_declared, Datum}
use Rattle.dw_links.specs.SignedTypes.{HasSignedTypes}
use Rattle.dw_links.specs.Strings.{AddressIndexFails, OffsetFails, StringFails, StringIndexFails}
use Rattle.dw_links.specs.Targets.{reach_in_unit, reach_of}

-- the rules on strings and addresses
abbrev pub FailsByText : Entries → Rules
FailsByText entries = StringFails (sections_of entries) (all_entries entries) (all_units entries)

-- the rules on references
abbrev pub FailsByTarget : Entries → Rules
FailsByTarget entries = ReferenceFails (all_entries entries) (all_units entries)

-- the target of a value of an entry
abbrev pub target_by : Entries → EntryHead → Datum → Option ℕ
target_by entries head v = reach_of (all_entries entries) (all_units entries) head.unit v

-- the entries whose values are followed
abbrev pub entries_followed : UnitLinks → Entries
entries_followed it = it.entries.now

-- the entry with this number
abbrev pub entry_with : UnitLinks → (id : ℕ) → Entry
entry_with it id = entry_of (all_entries (entries_followed it)) id

-- the entry of the unit at hand that starts so many bytes after the unit's header
abbrev pub entry_after : UnitLinks → (offset : ℕ) → Option ℕ
entry_after it offset =
    reach_in_unit (all_entries (entries_followed it)) (all_units (entries_followed it)) it.texts.unit offset

-- the table has the type of each signature, no rule fails at the headers of type units, what was read of the unit at
-- hand is right, its header starts so many bytes after the base, and this range is that of its entries
pub record IsLinkable (it : UnitLinks) : Type 0 where
  pub types : HasSignedTypes (entries_followed it) it.signatures.now
  pub headers : HasNone (HeaderFailures (all_entries (entries_followed it)) (all_units (entries_followed it)))
  pub texts : AreContributions (entries_followed it) it.texts
  pub past : (sections_of (entries_followed it)).base + it.past
      ≡ (placed_of (all_units (entries_followed it)) it.texts.unit).at
  pub first : it.range.0 ≡ (placed_of (all_units (entries_followed it)) it.texts.unit).first
  pub end : it.range.1 ≡ end_in (all_units (entries_followed it)) it.texts.unit

-- the same, and the entry is in the unit at hand
pub record MayAsk (it : UnitLinks) (head : EntryHead) : Type 0 where
  pub linkable : IsLinkable it
  pub in_unit : head.unit ≡ it.texts.unit

-- the same, of an entry by its number
pub record MayLink (it : UnitLinks) (id : ℕ) : Type 0 where
  pub within : id < length (all_entries (entries_followed it))
  pub linkable : IsLinkable it
  pub in_unit : (entry_with it id).unit ≡ it.texts.unit

-- ---- the entry of the unit at hand that starts so many bytes after the unit's header

-- it is this type
pub record IsTypeAfter (it : UnitLinks) (offset target : ℕ) : Type 0 where
  pub reaches : entry_after it offset ≡ Some target
  pub is_type : is_type_tag (entry_with it target).head.decl.tag ≡ true

-- it is the next sibling of an entry
pub record IsSiblingAfter (it : UnitLinks) (id offset : ℕ) : Type 0 where
  pub target : ℕ
  pub reaches : entry_after it offset ≡ Some target
  pub is_next : (entry_with it id).next ≡ Some target

-- it is another entry than this one, and it is a declaration
pub record IsDeclaredAfter (it : UnitLinks) (id offset : ℕ) : Type 0 where
  pub target : ℕ
  pub reaches : entry_after it offset ≡ Some target
  pub other : target ≢ id
  pub declared : is_declared (entry_with it target) ≡ true

-- ---- what a value leads to

-- no rule fails at a value that leads there
abbrev pub LeadsWell : UnitLinks → (id : ℕ) → Led → Type 0
LeadsWell it id (led.Sibling offset) = IsSiblingAfter it id offset
LeadsWell it id (led.Specification offset) = IsDeclaredAfter it id offset
LeadsWell it id (led.Entry attribute offset) = (target : ℕ) × (entry_after it offset ≡ Some target)
LeadsWell it id (led.Text attribute offset) = IsLeast (OffsetFails it.texts.sections.str.now offset) None
LeadsWell it id (led.Index attribute index) = IsLeast (StringIndexFails it.texts.sections it.texts.str_base index) None
LeadsWell it id (led.Address attribute index) =
    IsLeast (AddressIndexFails it.texts.sections it.texts.head.header it.texts.addr_base index) None
LeadsWell it id _ = ⊥

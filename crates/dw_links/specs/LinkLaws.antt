-- Chapter: what each value has if no rule on strings, addresses and references fails: a target, a text, an address. The
-- functions of `laws.rt` have the proofs.
use Rattle.std.specs.Prelude.{◌≡◌, ℕ, ◌+◌, ◌<◌, true, List, Option, None, Some, slice_get}
use Rattle.dw_forms.specs.Codes.{DW_AT_sibling, DW_AT_str_offsets_base, DW_AT_addr_base}
use Rattle.dw_forms.specs.Value.{Datum, str, line_str, str_index, addr_index}
use Rattle.dw_entries.specs.EntryRules.{EachEntry, HasAttribute}
use Rattle.dw_entries.specs.Lookups.{entry_head, value_at_entry}
use Rattle.dw_entries.specs.EntriesAt.{IsEntryIn}
use Rattle.dw_forms.specs.declared.class.Class.TheVariants.{Reference}
use Rattle.dw_links.specs.Classes.{class_of}
use Rattle.dw_links.specs.References.{permits, permits_form, HasType, Entry, PlacedUnit, entries_of, placed, DebugUnit}
use Rattle.dw_links.specs.Signatures.{type_unit_of, HasSignature, HaveDistinctSignatures}
use Rattle.dw_links.specs.Targets.{reach_of, target_of}
use Rattle.dw_links.specs.Contributions.{slot_count, slot_at, HasZeroFrom}
use Rattle.dw_links.specs.Strings.{IsStringContribution, IsAddressContribution, Sections, base_in, UnitHeader}

-- each attribute of each entry, with its value
abbrev pub EachValue : (Entry → ℕ → Datum → Type 0) → List Entry → Type 0
EachValue P =
    EachEntry (λ e. (position attribute : ℕ) (v : Datum) → HasAttribute e position attribute v → P e attribute v)

-- a signature refers to the entry at the type offset of a unit that has it
pub record ReachesBySignature (entries : List Entry) (units : List PlacedUnit) (signature id : ℕ) : Type 0 where
  pub number : ℕ
  pub has : HasSignature units signature number
  pub target : IsEntryIn entries number (has.unit.at + has.type_offset) id

-- the value refers to an entry, which is the attribute's target; the attribute may have this form and this target, and
-- the target of a sibling attribute is the next sibling
pub record HasTarget (entries : List Entry) (units : List PlacedUnit) (e : Entry) (attribute : ℕ)
    (v : Datum) : Type 0 where
  pub id : ℕ
  pub target : Entry
  pub is_entry : slice_get entries id ≡ Some target
  pub is_target : target_of entries units e attribute ≡ Some id
  pub reaches : reach_of entries units e.unit v ≡ Some id
  pub form : permits_form (entry_head e) attribute v ≡ true
  pub kind : permits (entry_head e) attribute target ≡ true
  pub sibling : attribute ≡ DW_AT_sibling → e.next ≡ Some id

-- each value of class reference has a target
abbrev pub HaveTargets : List DebugUnit → Type 0
HaveTargets units =
    EachEntry (λ e. (attribute : ℕ) (v : Datum) → value_at_entry e attribute ≡ Some v → class_of v ≡ Reference
    → HasTarget (entries_of units) (placed units) e attribute v) (entries_of units)

-- no two type units have one signature, and a type begins at the type offset of each
pub record HaveTypes (units : List DebugUnit) : Type 0 where
  pub distinct : HaveDistinctSignatures (placed units)
  pub types : (number signature type_offset : ℕ) (p : PlacedUnit) → slice_get (placed units) number ≡ Some p
      → type_unit_of p.unit.header.kind ≡ Some (signature, type_offset)
      → HasType (entries_of units) number (p.at + type_offset)

-- an index is below the count of the unit's contribution to .debug_str_offsets, and a string starts where the slot says
abbrev pub HasStringAt : Sections → (base : Option ℕ) → ℕ → Type 0
HasStringAt s None index = ⊥
HasStringAt s (Some base) index =
    IsStringContribution s base × (index < slot_count s.str_offsets.now 4 base)
    × HasZeroFrom s.str.now (slot_at s.str_offsets.now 4 base index)

-- an index is below the count of the unit's contribution to .debug_addr
abbrev pub HasAddressAt : Sections → UnitHeader → (base : Option ℕ) → ℕ → Type 0
HasAddressAt s header None index = ⊥
HasAddressAt s header (Some base) index =
    IsAddressContribution s header base × (index < slot_count s.addr.now header.address_size base)

-- a string or an address is there, by the unit's contributions (DWARF 5, 7.26 and 7.27)
abbrev pub HasItsText : Sections → List Entry → PlacedUnit → Datum → Type 0
HasItsText s entries unit (str offset) = HasZeroFrom s.str.now offset
HasItsText s entries unit (line_str offset) = HasZeroFrom s.line_str.now offset
HasItsText s entries unit (str_index index) = HasStringAt s (base_in entries unit DW_AT_str_offsets_base) index
HasItsText s entries unit (addr_index index) =
    HasAddressAt s unit.unit.header (base_in entries unit DW_AT_addr_base) index
HasItsText s entries unit _ = Unit {0}

-- each string ends in its section, and each index has its slot
abbrev pub HasTexts : Sections → List DebugUnit → Type 0
HasTexts s units =
    EachValue (λ e attribute v. (unit : PlacedUnit) → slice_get (placed units) e.unit ≡ Some unit
    → HasItsText s (entries_of units) unit v) (entries_of units)

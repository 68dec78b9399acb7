-- Chapter: the rules on references (DWARF 5, 2.3 and 7.5.5).
-- The sentences that name a rule are made by docs/make-rules.py from docs/rules.tsv.
use Rattle.std.specs.Prelude.{◌≡◌, ◌≢◌, ℕ, ◌+◌, ◌<◌, ◌⊎◌, Bool, true, false, not, ◌&&◌, ◌==◌, List, [], ◌∷◌, Option}
use Rattle.std.specs.Prelude.{None, Some, slice_get, if◌then◌else◌}
pub use Rattle.dw_forms.specs.Value.{Datum, flag, ref_info, ref_unit, ref_sig}
use Rattle.dw_forms.specs.declared.rule.Rule.TheVariants.{NoEntry, WrongKind, NotNextSibling, NoSignature}
use Rattle.dw_forms.specs.declared.rule.Rule.TheVariants.{SignatureTwice, BadTypeOffset}
use Rattle.dw_entries.specs.Lookups.{value_at_entry}
pub use Rattle.dw_entries.specs.Entries.{Entry, PlacedUnit, entries_of, placed, DebugUnit}
use Rattle.dw_entries.specs.EntriesAt.{IsEntryIn, entry_of}
use Rattle.dw_entries.specs.Places.{at_header}
use Rattle.dw_entries.specs.EntryRules.{AtPlace, AtEntries, InList, Failure, Rule}
use Rattle.dw_forms.specs.Codes.{DW_AT_sibling, DW_AT_import, DW_AT_specification, DW_AT_type, DW_AT_signature}
use Rattle.dw_forms.specs.Codes.{DW_AT_declaration, DW_TAG_imported_unit, DW_TAG_structure_type, DW_TAG_union_type}
use Rattle.dw_forms.specs.Codes.{DW_TAG_enumeration_type, DW_TAG_compile_unit, DW_TAG_partial_unit, is_type_tag}
use Rattle.dw_links.specs.Classes.{is_one_of}
use Rattle.dw_links.specs.RulesOfAttributes.{AtHead, EntryHead}
use Rattle.dw_links.specs.Signatures.{type_unit_of, HasSignature}
use Rattle.dw_links.specs.Targets.{reach_of}

-- a flag that is there and true
abbrev pub is_true : Option Datum → Bool
is_true (Some (flag b)) = b
is_true _ = false

-- DW_AT_declaration is true
abbrev pub is_declared : Entry → Bool
is_declared entry = is_true (value_at_entry entry DW_AT_declaration)

-- a structure, union or enumeration with a signature
abbrev pub is_signed : EntryHead → ℕ → Bool
is_signed head attribute =
    attribute == DW_AT_signature
    && is_one_of (DW_TAG_structure_type ∷ DW_TAG_union_type ∷ DW_TAG_enumeration_type ∷ []) head.tag

-- an attribute of the entry may have the target
abbrev pub permits : EntryHead → ℕ → Entry → Bool
permits head attribute target =
    if attribute == DW_AT_type then is_type_tag target.head.decl.tag
    else (if attribute == DW_AT_specification then not (target.at == head.offset) && is_declared target
    else (if is_signed head attribute then target.head.decl.tag == head.tag
    else (if attribute == DW_AT_import
    && head.tag == DW_TAG_imported_unit then is_one_of
    (DW_TAG_compile_unit ∷ DW_TAG_partial_unit ∷ []) target.head.decl.tag
    else true)))

-- a value in form ref_sig8
abbrev pub is_signature : Datum → Bool
is_signature (ref_sig signature) = true
is_signature _ = false

-- a structure, union or enumeration is signed in form ref_sig8
abbrev pub permits_form : EntryHead → ℕ → Datum → Bool
permits_form head attribute v = if is_signed head attribute then is_signature v else true

-- NoEntry: no entry starts at the offset that a reference refers to, in its unit or, in form ref_addr, in .debug_info
abbrev pub NoEntryThere : Datum → (reached : Option ℕ) → Type 0
NoEntryThere v reached = (is_signature v ≡ false) × (reached ≡ None)

-- its target is not permitted
pub record ReachesWrong (entries : List Entry) (head : EntryHead) (attribute : ℕ) (reached : Option ℕ) : Type 0 where
  pub id : ℕ
  pub reaches : reached ≡ Some id
  pub target : Entry
  pub is_target : slice_get entries id ≡ Some target
  pub wrong : permits head attribute target ≡ false

-- WrongKind: a reference has a form that its attribute does not permit, or refers to an entry of a kind that it does
-- not permit
abbrev pub IsWrongKind : List Entry → EntryHead → ℕ → Datum → (reached : Option ℕ) → Type 0
IsWrongKind entries head attribute v reached = (permits_form head attribute v ≡ false)
    ⊎ ReachesWrong entries head attribute reached

-- NotNextSibling: a sibling attribute refers to another entry than the next sibling, or there is no next sibling
abbrev pub IsOtherThan : (next reached : Option ℕ) → Type 0
IsOtherThan None reached = Unit {0}
IsOtherThan (Some next) reached = (id : ℕ) × (reached ≡ Some id) × (id ≢ next)

-- NoSignature: no type unit has the signature
abbrev pub NoSignatureThere : List PlacedUnit → Datum → Type 0
NoSignatureThere units (ref_sig signature) = (number : ℕ) → HasSignature units signature number → ⊥
NoSignatureThere units _ = ⊥

-- a value of class reference
abbrev pub is_reference_value : Datum → Bool
is_reference_value (ref_info offset) = true
is_reference_value (ref_unit offset) = true
is_reference_value (ref_sig signature) = true
is_reference_value _ = false

-- the rules at an attribute of class reference
abbrev pub ReferenceFailsBy : List Entry → List PlacedUnit → EntryHead → ℕ → Datum → Rule → Type 0
ReferenceFailsBy entries units head attribute v NoEntry = NoEntryThere v (reach_of entries units head.unit v)
ReferenceFailsBy entries units head attribute v WrongKind =
    IsWrongKind entries head attribute v (reach_of entries units head.unit v)
ReferenceFailsBy entries units head attribute v NotNextSibling = (attribute ≡ DW_AT_sibling)
    × IsOtherThan head.next_sibling (reach_of entries units head.unit v)
ReferenceFailsBy entries units head attribute v NoSignature = NoSignatureThere units v
ReferenceFailsBy entries units head attribute v _ = ⊥

-- the rules at an attribute of an entry; only values of class reference have any
abbrev pub ReferenceFails : List Entry → List PlacedUnit → EntryHead → ℕ → Datum → Rule → Type 0
ReferenceFails entries units head attribute v rule = (is_reference_value v ≡ true)
    × ReferenceFailsBy entries units head attribute v rule

-- SignatureTwice: an earlier type unit has the signature
pub record IsSignedBefore (units : List PlacedUnit) (number signature : ℕ) : Type 0 where
  pub earlier : ℕ
  pub before : earlier < number
  pub has : HasSignature units signature earlier

-- a type begins in the unit at this offset of .debug_info
pub record HasType (entries : List Entry) (number offset : ℕ) : Type 0 where
  pub id : ℕ
  pub is_type : IsEntryIn entries number offset id
  pub tag : is_type_tag (entry_of entries id).head.decl.tag ≡ true

-- the rules at the header of a type unit: SignatureTwice, as above, and
-- BadTypeOffset: no type of the type unit starts at its type offset
abbrev pub TypeUnitFails : List Entry → List PlacedUnit → ℕ → (at signature type_offset : ℕ) → Rule → Type 0
TypeUnitFails entries units number at signature type_offset rule =
    ((rule ≡ SignatureTwice) × IsSignedBefore units number signature)
    ⊎ ((rule ≡ BadTypeOffset) × (HasType entries number (at + type_offset) → ⊥))

-- the rules at the header of a unit; only type units have any
abbrev pub HeaderFails : List Entry → List PlacedUnit → ℕ → ℕ → Option (ℕ × ℕ) → Rule → Type 0
HeaderFails entries units number at None rule = ⊥
HeaderFails entries units number at (Some (signature, type_offset)) rule =
    TypeUnitFails entries units number at signature type_offset rule

-- the failures at the header of a unit
abbrev pub AtHeader : List Entry → List PlacedUnit → ℕ → PlacedUnit → Failure → Type 0
AtHeader entries units number unit =
    AtPlace (at_header unit.at) (HeaderFails entries units number unit.at (type_unit_of unit.unit.header.kind))

-- the failures at the headers of units
abbrev pub HeaderFailures : List Entry → List PlacedUnit → Failure → Type 0
HeaderFailures entries units = InList units (AtHeader entries units)

-- the failures at the attributes of entries
abbrev pub AttributeFailures : List Entry → List PlacedUnit → Failure → Type 0
AttributeFailures entries units = AtEntries entries (AtHead (ReferenceFails entries units))

-- the failures of the rules on references
abbrev pub ReferenceFailures : List DebugUnit → Failure → Type 0
ReferenceFailures units f = HeaderFailures (entries_of units) (placed units) f
    ⊎ AttributeFailures (entries_of units) (placed units) f

-- Chapter: what the look-ups of entries and of units return.
use Rattle.std.specs.Prelude.{◌≡◌, ℕ, List, length, ◌==◌, nat_lt, if◌then◌else◌, Bool, Option, Some, None, find}
use Rattle.std.specs.Prelude.{option_map, map, All, Contains}
use Rattle.std.specs.List.{list_any}
use Rattle.dw_forms.specs.declared.abbrev.AttributeSpec.{AttributeSpec}
use Rattle.dw_forms.specs.declared.decl.Decls.{Decls}
use Rattle.dw_forms.specs.Abbrev.{Declaration}
use Rattle.dw_forms.specs.AttributeLists.{spec_of}
use Rattle.dw_forms.specs.KeptDecls.{decl_of}
use Rattle.dw_forms.specs.Value.{Datum}
use Rattle.dw_entries.specs.declared.entry.EntryHead.{EntryHead}
use Rattle.dw_entries.specs.declared.entry.Head.{Head}
pub use Rattle.dw_entries.specs.declared.units.UnitHead.{UnitHead}
use Rattle.dw_entries.specs.Header.{type_of}
use Rattle.dw_entries.specs.Units.{head_of}
pub use Rattle.dw_entries.specs.Entries.{Entry, PlacedUnit}
pub use Rattle.dw_entries.specs.EntryRules.{values_of}

-- the declaration is one of these
abbrev pub IsKeptIn : Decls → Declaration → Type 0
IsKeptIn decls decl = (number : ℕ) × (decl_of decls.lists.nodes.items decls.kept.items number ≡ Some decl)

-- each attribute of the declaration is one of these
abbrev pub HasSpecsIn : Decls → Declaration → Type 0
HasSpecsIn decls decl = All (λ spec. Contains (map spec_of decls.lists.nodes.items) spec) decl.attributes

-- the number k itself, where there are more entries than k
abbrev pub nth_of : List Entry → ℕ → Option ℕ
nth_of entries k = if nat_lt k (length entries) then Some k else None

-- what is told of an entry besides its attributes
abbrev pub full_head : Entry → Head
full_head e = record {
  offset = e.at;
  tag = e.head.decl.tag;
  unit = e.unit;
  depth = e.depth;
  parent = e.parent;
  next_sibling = e.next;
}

-- what is told of an entry besides its attributes and its depth
abbrev pub entry_head : Entry → EntryHead
entry_head e = record {
  offset = e.at;
  tag = e.head.decl.tag;
  unit = e.unit;
  parent = e.parent;
  next_sibling = e.next;
}

-- what is told of a unit; in version 4 the tag of its first entry says which type it has
abbrev pub unit_head : PlacedUnit → UnitHead
unit_head p = record {
  offset = p.at;
  header = p.unit.header;
  unit_type =
      type_of p.unit.header.kind (head_of p.unit.root).decl.tag;
  first = p.first;
}

-- whether one of these attributes has this code
abbrev pub declares : List AttributeSpec → ℕ → Bool
declares specs attribute = list_any (λ spec. spec.attribute == attribute) specs

-- the value of the first of these attributes that has this code
abbrev pub value_in : List (ℕ × Datum) → ℕ → Option Datum
value_in values attribute = option_map (λ (a : ℕ × Datum). a.1) (find (λ (a : ℕ × Datum). a.0 == attribute) values)

-- the value of an entry's attribute, if it has that attribute
abbrev pub value_at_entry : Entry → ℕ → Option Datum
value_at_entry e attribute = value_in (values_of e.head) attribute

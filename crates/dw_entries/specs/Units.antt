-- Chapter: units, and .debug_info as a list of them (DWARF 5, 7.5.1).
use Rattle.std.specs.Prelude.{◌≡◌, ℕ, ◌+◌, true, List, [], ◌∷◌, ◌++◌, length, drop, Ok, flat_map}
use Rattle.std.specs.List.{AllByRecursion}
use Rattle.dw_elf.specs.declared.sections.Sections.{Sections}
use Rattle.dw_forms.specs.AbbrevReading.{table_at}
use Rattle.dw_forms.specs.AbbrevTables.{tables_in}
use Rattle.dw_forms.specs.Chains.{chain_in}
use Rattle.dw_forms.specs.KeptDecls.{table_in, decl_number_in}
use Rattle.dw_entries.specs.declared.records.UnitContext.{UnitContext}
pub use Rattle.dw_entries.specs.Grammar.{Declaration, Context, Head, IsNull}
use Rattle.dw_entries.specs.Header.{UnitHeader, version_of, fits_tag, header_and_body}
use Rattle.dw_entries.specs.Tree.{Node, leaf, parent, IsNode, node_bytes}

-- where the unit begins in .debug_info, a header and the bytes that spell it, the table that it names, a tree, and the
-- nulls after the tree
pub record DebugUnit : Type 0 where
  pub at : ℕ
  pub header : UnitHeader
  pub header_bytes : List ℕ
  pub table : List Declaration
  pub root : Node
  pub nulls : List (List ℕ)

-- what a unit with this header and table is read by
abbrev pub context_by : UnitHeader → List Declaration → Context
context_by h table = record { table = table; address_size = h.address_size; version = version_of h.kind }

-- what a reader of items goes by
abbrev pub context_in : UnitContext → Context
context_in c = record {
  table = table_in (tables_in c.tables.now) c.table;
  address_size = c.address_size;
  version =
      c.version;
}

-- the numbers of the declarations that it goes by, by their codes
abbrev pub numbers_in : UnitContext → ℕ → ℕ
numbers_in c = decl_number_in (chain_in (tables_in c.tables.now) c.table)

-- what the bytes of a unit are read by
abbrev pub context_of : DebugUnit → Context
context_of u = context_by u.header u.table

-- the first entry of a tree
abbrev pub head_of : Node → Head
head_of (leaf h) = h
head_of (parent h ns z) = h

-- the bytes of nulls, joined
abbrev pub nulls_bytes : List (List ℕ) → List ℕ
nulls_bytes zs = flat_map (λ z. z) zs

-- each of them is a null
abbrev pub AreNulls : List (List ℕ) → Type 0
AreNulls zs = AllByRecursion IsNull zs

-- the bytes after the header
abbrev pub body_bytes : DebugUnit → List ℕ
body_bytes u = node_bytes u.root ++ nulls_bytes u.nulls

-- the header, the tree and the nulls
abbrev pub unit_bytes : DebugUnit → List ℕ
unit_bytes u = u.header_bytes ++ body_bytes u

-- a unit whose bytes spell its header and its body, and whose table is in these bytes of .debug_abbrev. That a table is
-- read exactly where the section spells it is the law `tables_are_read_by_grammar` of dw_forms
pub record IsUnit («abbrev» : List ℕ) (u : DebugUnit) : Type 0 where
  pub header : ∥ (header_and_body (length «abbrev»)).Spells (unit_bytes u) (u.header, body_bytes u) ∥₁
  pub table : table_at «abbrev» u.header.abbrev_offset ≡ Ok u.table
  pub root : IsNode (context_of u) u.root
  pub tag : fits_tag u.header.kind (head_of u.root).decl.tag ≡ true
  pub nulls : AreNulls u.nulls

-- each of them is a unit of a section with this .debug_abbrev
abbrev pub AreUnits : List ℕ → List DebugUnit → Type 0
AreUnits «abbrev» us = AllByRecursion (IsUnit «abbrev») us

-- the bytes of units, joined
abbrev pub units_bytes : List DebugUnit → List ℕ
units_bytes us = flat_map unit_bytes us

-- these bytes are the units, joined
pub record Spells («abbrev» : List ℕ) (us : List DebugUnit) (info : List ℕ) : Type 0 where
  pub are : AreUnits «abbrev» us
  pub parts : info ≡ units_bytes us

-- the first of the units begins at this offset, and each other one where the one before it ends
abbrev pub AreFrom : ℕ → List DebugUnit → Type 0
AreFrom at [] = Unit {0}
AreFrom at (u ∷ us) = (u.at ≡ at) × AreFrom (at + length (unit_bytes u)) us

-- the units spell .debug_info, from its base on, by the tables of .debug_abbrev (7.5.1): a header each, a tree of
-- entries with declared abbreviations and attributes in their forms' grammar, and nulls
pub record SpellsInfo (s : Sections) (us : List DebugUnit) : Type 0 where
  pub spells : Spells s.«abbrev».now us (drop s.base s.info.now)
  pub are_from : AreFrom s.base us

-- State: the abbreviation tables of a section, with each declaration kept once. A table is a chain of declarations.
use Rattle.std.specs.Prelude.{◌≡◌, ℕ, ◌==◌, List, map, All, Option}
use Rattle.std.specs.BTreeMap.{BTreeMap}
pub use Rattle.dw_forms.specs.declared.attribute_lists.Node.{Node}
use Rattle.dw_forms.specs.declared.decl.DeclAt.{DeclAt}
pub use Rattle.dw_forms.specs.declared.decl.KeptDecl.{KeptDecl}
use Rattle.dw_forms.specs.Abbrev.{Declaration}
use Rattle.dw_forms.specs.AttributeLists.{list_in, numbered_in}
use Rattle.dw_forms.specs.DeclaredLists.{HasList, HavePlaces, KnownPlace}
use Rattle.dw_forms.specs.Chains.{Numbered, items_of, chain_in, chains_of, item_of, number_where, codes_of, Link}
use Rattle.dw_forms.specs.Labels.{label, HasLabel}

-- a declaration that is kept, with its attributes among those that are kept
abbrev pub kept_view : List Node → KeptDecl → Declaration
kept_view nodes k = record {
  code = k.code;
  tag = k.tag;
  has_children = k.has_children;
  attributes = list_in nodes k.first;
}

-- the declaration, as it is seen
abbrev pub decl_view : DeclAt → Declaration
decl_view d = kept_view d.lists.now.nodes.items d.kept.now

-- declarations with their numbers, one table for each number
abbrev pub Tables : Type 0
Tables = List (List (Numbered Declaration))

-- the declarations, each with the number of the table after it
abbrev pub decls_of : List Node → List KeptDecl → List (Declaration × ℕ)
decls_of nodes kept = map (λ (k : KeptDecl). (kept_view nodes k, k.rest)) kept

-- all tables, by their numbers
abbrev pub tables_of : List Node → List KeptDecl → Tables
tables_of nodes kept = chains_of (decls_of nodes kept)

-- the declarations of the table of this number
abbrev pub table_in : Tables → ℕ → List Declaration
table_in tables number = items_of (chain_in tables number)

-- the declaration of this number
abbrev pub decl_of : List Node → List KeptDecl → ℕ → Option Declaration
decl_of nodes kept number = item_of (decls_of nodes kept) number

-- the number of the table's declaration with this code, or 0
abbrev pub decl_number_in : List (Numbered Declaration) → ℕ → ℕ
decl_number_in table code = number_where (λ (d : Declaration). d.code == code) table

-- each declaration has a list of attributes that is kept
abbrev pub AreWithin : List Node → List KeptDecl → Type 0
AreWithin nodes kept = All (λ (k : KeptDecl). HasList nodes k.first k.step k.bits k.declared k.whole) kept

-- the attributes of each declaration have their places
abbrev pub HaveAllPlaces : List Node → List KnownPlace → List KeptDecl → Type 0
HaveAllPlaces nodes places kept =
    All (λ (k : KeptDecl). HavePlaces (numbered_in nodes k.first) k.bits k.first_place places) kept

-- the links have the labels of the codes of the declarations
abbrev pub HaveDeclCodes : List Link → BTreeMap ℕ ℕ → List KeptDecl → Type 0
HaveDeclCodes links long kept = codes_of links ≡ map (λ (k : KeptDecl). (label long k.code, k.rest)) kept

-- the code of each declaration has a label
abbrev pub HaveLabels : BTreeMap ℕ ℕ → List KeptDecl → Type 0
HaveLabels long kept = All (λ (k : KeptDecl). HasLabel long k.code) kept

-- codes are found in the tables by their labels, and attributes in the declarations by the nodes and the places
pub record AreReadable (links : List Link) (long : BTreeMap ℕ ℕ) (nodes : List Node) (places : List KnownPlace)
    (kept : List KeptDecl) : Type 0 where
  pub coded : HaveDeclCodes links long kept
  pub labelled : HaveLabels long kept
  pub within : AreWithin nodes kept
  pub placed : HaveAllPlaces nodes places kept

-- What is kept of an entry and of its unit, and what is in .debug_info where they point.
use Rattle.std.proofs.Common.{rules, ◌≡◌, ℕ, zero, suc, ◌-◌, ◌<◌, ◌≤◌, List, [], ◌∷◌, ◌++◌, length, take, drop, get_or, Option, Some, None, Ok, Err, refl, ap, subst, ◌∙◌, arith, slice_get, IsSomeAnd, flat_map}
use Rattle.std.specs.List.{AllZip}
use Rattle.std.proofs.lemmas.List.{length-map}
use Rattle.std.proofs.lemmas.Option.{slice_get_within, slice_get-get_or, get_or_from_slice_get}
use Rattle.std.proofs.lemmas.Slice.Zip.{AllZip-right, AllZip-long}
use Rattle.dw_forms.specs.declared.decl.Decls.{Decls}
use Rattle.dw_forms.specs.declared.attribute_lists.Node.{Node}
use Rattle.dw_forms.specs.declared.decl.KeptDecl.{KeptDecl}
use Rattle.dw_forms.specs.Chains.{chain_in, items_of}
use Rattle.dw_forms.specs.KeptDecls.{decl_of}
use Rattle.dw_forms.proofs.ChainLaws.{item_some, item_within}
use Rattle.dw_forms.proofs.KeptLaws.{own_numbers, numbers_find}
use Rattle.dw_forms.proofs.SpecLaws.{decl_specs}
use Rattle.dw_entries.specs.declared.header.UnitType.{UnitType}
use Rattle.dw_entries.specs.Grammar.{Declaration, declared_in, attribute_bytes}
use Rattle.dw_entries.specs.Header.{UnitHeader, type_of}
use Rattle.dw_entries.specs.ItemFormats.{Failing, code}
use Rattle.dw_forms.specs.WithBytes.{ok_pair}
use Rattle.dw_entries.specs.Entries.{Entry, entries_of, PlacedUnit, placed, DebugUnit}
use Rattle.dw_entries.specs.ByNumber.{no_entry, no_unit, entry_of, placed_of, unit_of}
pub use Rattle.dw_entries.specs.Scanned.{Tables, UnitRecord, Record, found_units, tables_among, table_of, numbers_of, record_of, IsRecordOfUnit, Scanned}
use Rattle.dw_entries.specs.Lookups.{IsKeptIn, HasSpecsIn, unit_head, UnitHead}
use Rattle.dw_entries.proofs.ScanLaws.{rest_of}
pub use Rattle.dw_entries.proofs.HeadLaws.{Stands, head_stands, stands_code, stands_within}
use Rattle.dw_entries.proofs.EntryFacts.{unit_placed, length-placed, kept_get, HasFirst, first_entry}

pub one_some : {A : Type 0} (o : Option A) (x y : A) → o ≡ Some x → o ≡ Some y → x ≡ y
one_some o x y p q = cc

some_and : {A : Type 0} (o : Option A) (P : A → Type 0) → IsSomeAnd o P → (x : A) × (o ≡ Some x) × P x
some_and (Some x) P p = (x, refl, p)
some_and None P p = absurd p

-- the number of the table of a unit
table_is : (rs : List UnitRecord) (number : ℕ) (r : UnitRecord) → slice_get rs number ≡ Some r
    → table_of rs number ≡ r.table
table_is [] number r is = absurd cc
table_is (q ∷ rs) zero r is = search (rules)
table_is (q ∷ rs) (suc n) r is = table_is rs n r is

-- the record of the unit at this place
pub unit_kept : (tables : Tables) (rs : List UnitRecord) (ps : List PlacedUnit) → AllZip (IsRecordOfUnit tables) rs ps
    → (k : ℕ) (p : PlacedUnit) → slice_get ps k ≡ Some p
    → (r : UnitRecord) × (slice_get rs k ≡ Some r) × IsRecordOfUnit tables r p
unit_kept tables rs ps zip k p is =
    let m = AllZip-right (IsRecordOfUnit tables) rs ps zip k in
    some_and (slice_get rs k) (λ r. IsRecordOfUnit tables r p) (rw is at m)

-- the entry of a number, of those that were found
abbrev pub found_entry : {base : ℕ} {a info : List ℕ} {tables : Tables} {rs : List UnitRecord} {records : List Record}
    → Scanned base a info tables rs records → ℕ → Entry
found_entry s id = entry_of (entries_of (found_units s)) id

-- and the unit of that entry
abbrev pub found_unit : {base : ℕ} {a info : List ℕ} {tables : Tables} {rs : List UnitRecord} {records : List Record}
    → Scanned base a info tables rs records → ℕ → DebugUnit
found_unit s id = unit_of (found_units s) (found_entry s id).unit

-- what is kept of the entry of this number and of its unit
pub record KeptEntry {base : ℕ} {a info : List ℕ} {tables : Tables} {rs : List UnitRecord} {records : List Record}
    (s : Scanned base a info tables rs records) (id : ℕ) : Type 0 where
  pub is_entry : slice_get (entries_of (found_units s)) id ≡ Some (found_entry s id)
  pub is_record : slice_get records id ≡ Some (record_of (numbers_of tables rs) (found_entry s id))
  pub stands : Stands (found_units s) info (found_entry s id)
  pub unit_record : UnitRecord
  pub is_unit_record : slice_get rs (found_entry s id).unit ≡ Some unit_record
  pub header : unit_record.header ≡ (found_unit s id).header
  pub table : items_of (chain_in tables unit_record.table) ≡ (found_unit s id).table

pub kept_entry : {base : ℕ} {a info : List ℕ} {tables : Tables} {rs : List UnitRecord} {records : List Record}
    (s : Scanned base a info tables rs records) (id : ℕ)
    → id < length (entries_of (found_units s)) → KeptEntry s id
kept_entry {base} {a} {info} {tables} {rs} s id within =
    let e : Entry = found_entry s id in
    let is : slice_get (entries_of (found_units s)) id ≡ Some e = search (rules, slice_get-get_or) in
    let stands = head_stands base a info (found_units s) id e s.1.spells s.1.are_from is in
    let (p, is_p, same) = unit_placed (found_units s) e.unit (unit_of (found_units s) e.unit)
    (slice_get-get_or (found_units s) e.unit no_unit stands.within) in
    let (r, is_r, kept) = unit_kept tables rs (placed (found_units s)) s.1.kept e.unit p is_p in
    record {
      is_entry = is;
      is_record = search (rules, kept_get);
      stands = stands;
      unit_record = r;
      is_unit_record = is_r;
      header = search rules;
      table = search rules;
    }

-- an element that was read is the one that is there
pub read_is : {A : Type 0} (xs : List A) (k : ℕ) (x y : A) → slice_get xs k ≡ Some x → y ≡ get_or xs k y → y ≡ x
read_is xs k x y is read = read ∙ get_or_from_slice_get xs k x y is

module _ {base : ℕ} {a info : List ℕ} {tables : Tables} {rs : List UnitRecord} {records : List Record}
    {s : Scanned base a info tables rs records} {id : ℕ} (k : KeptEntry s id) where
  module _ (r : Record) (read : slice_get records id ≡ Some r) where
    pub record_is : r ≡ record_of (numbers_of tables rs) (found_entry s id)
    record_is = search (rules, one_some)

    pub at_within : r.at < length info
    at_within = search (rules, record_is, stands_within)

    -- its code is read at its offset, and its values follow
    code_read : code.read (take (length info - r.at) (drop r.at info))
        ≡ Ok (
          (found_entry s id).head.decl.code,
          flat_map attribute_bytes (found_entry s id).head.attributes
              ++ k.stands.after,
        )
    code_read =
        let e : r.at ≡ (found_entry s id).at = ap (λ (q : Record). q.at) record_is in
        let w = at_within in
        ap (λ (b : List ℕ). code.read b)
        (rest_of r.at info (omega arith) ∙ ap (λ (n : ℕ). drop n info) e)
        ∙ stands_code (found_units s) info (found_entry s id) k.stands

    pub never_unread : (f : Failing)
        → code.read (take (length info - r.at) (drop r.at info)) ≡ Err f → ⊥
    never_unread f failed = let ok = code_read in cc

    pub values_are : (n : ℕ) (rest : List ℕ)
        → code.read (take (length info - r.at) (drop r.at info)) ≡ Ok (n, rest)
        → rest ≡ flat_map attribute_bytes (found_entry s id).head.attributes ++ k.stands.after
    values_are n rest got = search (rules, ok_pair, code_read)

  -- the header of a unit that has the number of the entry's
  pub header_is : (number : ℕ) (u : UnitRecord) → number ≡ (found_entry s id).unit → u ≡ get_or rs number u
      → u.header ≡ (found_unit s id).header
  header_is number u same read = search (rules, read_is)

-- the declaration of an entry is the one of its number
module _ (decls : Decls) {base : ℕ} {a info : List ℕ} {rs : List UnitRecord} {records : List Record}
    {s : Scanned base a info (tables_among decls) rs records} {id : ℕ}
    (k : KeptEntry s id) where
  abbrev nodes : List Node
  nodes = decls.lists.nodes.items

  abbrev kept : List KeptDecl
  kept = decls.kept.items

  entry_decl : decl_of nodes kept
      (numbers_of (tables_among decls) rs (found_entry s id).unit (found_entry s id).head.decl.code)
      ≡ Some (found_entry s id).head.decl
  unfolding declared_in
  entry_decl = search (rules, table_is, numbers_find, own_numbers)

  module _ (r : Record) (read : slice_get records id ≡ Some r) where
    decl_stands : decl_of nodes kept r.decl ≡ Some (found_entry s id).head.decl
    decl_stands = search (rules, entry_decl)

    pub decl_numbered : 0 < r.decl
    decl_numbered = search (rules, item_some, decl_stands)

    pub decl_kept : r.decl ≤ length kept
    decl_kept = search (rules, item_within, decl_stands, length-map)

    pub decl_is : (d : Declaration) → decl_of nodes kept r.decl ≡ Some d
        → d ≡ (found_entry s id).head.decl
    decl_is d found = search (rules, one_some, decl_stands)

module _ (decls : Decls) {base : ℕ} {a info : List ℕ} {rs : List UnitRecord} {records : List Record}
    (s : Scanned base a info (tables_among decls) rs records) (id : ℕ) (e : Entry)
    (is : slice_get (entries_of (found_units s)) id ≡ Some e) where
  -- an entry's declaration is one of those that are kept
  pub declared_among : IsKeptIn decls e.head.decl
  declared_among =
      let k = kept_entry s id (slice_get_within (entries_of (found_units s)) id e is) in
      subst (λ (x : Entry). IsKeptIn decls x.head.decl)
      (get_or_from_slice_get (entries_of (found_units s)) id e no_entry is) (_, entry_decl decls k)

  -- and each of its attributes is one of those that are kept
  pub specs_among : HasSpecsIn decls e.head.decl
  specs_among = decl_specs decls.lists.nodes.items decls.kept.items declared_among.0 e.head.decl declared_among.1

-- ---- a unit

-- the unit of a number, of those that were found
abbrev pub found_place : {base : ℕ} {a info : List ℕ} {tables : Tables} {rs : List UnitRecord} {records : List Record}
    → Scanned base a info tables rs records → ℕ → PlacedUnit
found_place s number = placed_of (placed (found_units s)) number

pub record KeptUnit {base : ℕ} {a info : List ℕ} {tables : Tables} {rs : List UnitRecord} {records : List Record}
    (s : Scanned base a info tables rs records) (number : ℕ) : Type 0 where
  pub is_place : slice_get (placed (found_units s)) number ≡ Some (found_place s number)
  pub unit_record : UnitRecord
  pub is_unit_record : slice_get rs number ≡ Some unit_record
  pub kept : IsRecordOfUnit tables unit_record (found_place s number)
  pub first : HasFirst (entries_of (found_units s)) (found_place s number).first number (found_place s number)

pub kept_unit : {base : ℕ} {a info : List ℕ} {tables : Tables} {rs : List UnitRecord} {records : List Record}
    (s : Scanned base a info tables rs records) (number : ℕ) → number < length (found_units s)
    → KeptUnit s number
kept_unit s number within =
    let is : slice_get (placed (found_units s)) number ≡ Some (found_place s number) =
    search (rules, slice_get-get_or, length-placed) in
    search (rules, unit_kept, first_entry)

abbrev told : ℕ → UnitHeader → UnitType → ℕ → UnitHead
told offset header unit_type first = record { offset = offset; header = header; unit_type = unit_type; first = first }

module _ {base : ℕ} {a info : List ℕ} {tables : Tables} {rs : List UnitRecord} {records : List Record}
    {s : Scanned base a info tables rs records} {number : ℕ} (k : KeptUnit s number) where
  pub number_within : number < length rs
  number_within = search (rules, slice_get_within)

  module _ (u : UnitRecord) (read : u ≡ get_or rs number u) where
    pub kept_is : IsRecordOfUnit tables u (found_place s number)
    kept_is = search (rules, read_is)

    first_is : slice_get (entries_of (found_units s)) u.first ≡ Some k.first.entry
    first_is = search (rules, kept_is)

    pub first_within : u.first < length (entries_of (found_units s))
    first_within = search (rules, slice_get_within, first_is)

    pub unit_told : (first : ℕ) (d : Declaration) (t : UnitType) → first ≡ u.first
        → d ≡ (found_entry s first).head.decl → t ≡ type_of u.header.kind d.tag
        → told u.at u.header t first ≡ unit_head (found_place s number)
    unit_told first d t same declared typed = search (rules, get_or_from_slice_get, first_is, kept_is)

-- as many records as units
pub units_counted : {base : ℕ} {a info : List ℕ} {tables : Tables} {rs : List UnitRecord} {records : List Record}
    (s : Scanned base a info tables rs records) → length rs ≡ length (found_units s)
units_counted {tables = tables} {rs = rs} s = search (rules, AllZip-long, length-placed)

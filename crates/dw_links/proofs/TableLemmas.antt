-- What is read of units, one after the other, and the targets of types, which are kept of each entry.
use Rattle.std.proofs.Common.{rules, ◌≡◌, ℕ, ◌<◌, List, length, map, get_or, Option, None, Some, option_map, ap, ◌∙◌, ◌+◌, ◌≤◌, [], ◌∷◌, ◌++◌, take, refl, arith, sym, subst, inl, inr, slice_get, option_and_then}
use Rattle.std.proofs.lemmas.Option.{slice_get_within, slice_get-get_or, slice_get-map, get_or_from_slice_get, option_and_then_some}
use Rattle.std.proofs.lemmas.List.{map_more, take_all}
use Rattle.std.proofs.lemmas.Bool.{ne_eqb}
use Rattle.dw_forms.specs.declared.value.Value.{Value}
pub use Rattle.dw_forms.specs.Value.{view}
use Rattle.dw_forms.specs.Value.{Datum}
use Rattle.dw_entries.specs.declared.units.UnitHead.{UnitHead}
pub use Rattle.dw_entries.specs.declared.entries.Entries.{Entries}
pub use Rattle.dw_entries.specs.ByNumber.{no_entry, entry_of, placed_of, unit_of}
use Rattle.dw_entries.specs.Views.{sections_of}
pub use Rattle.dw_entries.specs.Views.{all_entries, all_units, units_of, Entry, PlacedUnit, entries_of, placed}
use Rattle.dw_entries.specs.Lookups.{value_at_entry, value_in, unit_head, values_of}
use Rattle.dw_entries.proofs.EntryFacts.{unit_placed, HasFirst, first_entry}
use Rattle.dw_entries.specs.Header.{IsSize, version_of}
use Rattle.dw_entries.proofs.Firsts.{same_some}
use Rattle.dw_entries.proofs.HeadLaws.{all_get, unit_sized, DebugUnit, Spells}
use Rattle.dw_entries.specs.Grammar.{Head}
use Rattle.dw_forms.specs.Codes.{DW_AT_addr_base, DW_AT_language}
use Rattle.dw_entries.specs.Failures.{HasNone}
use Rattle.dw_entries.proofs.ValuePlaceLaws.{value_placed, PlacedValue, placed_value_at}
use Rattle.dw_forms.specs.Codes.{DW_AT_str_offsets_base}
use Rattle.dw_links.specs.AttributeTexts.{address_at, text_at, text_place_at}
use Rattle.dw_links.specs.LinkLaws.{HasItsText}
use Rattle.dw_links.specs.Strings.{StringFailures}
use Rattle.dw_links.specs.ValueTexts.{TextPlace, address_of, text_of_value, text_place_of}
use Rattle.dw_links.proofs.HeldTexts.{its_text}
pub use Rattle.dw_links.specs.Bases.{kept_base, section_offset_in, base_in, bases_in}
pub use Rattle.dw_links.specs.Constants.{constant_of, language_of, Constant}
pub use Rattle.dw_links.specs.Tables.{target_of_type, AreTables, LinkTables, base_at, header_at}
use Rattle.dw_links.specs.Targets.{target_of}
use Rattle.dw_links.proofs.TargetLemmas.{reached_within}
use Rattle.dw_links.proofs.ListLookups.{there}
pub use Rattle.dw_links.proofs.ClassLemmas.{in_units, unit_there}

-- ---- what is kept of an entry

-- a target is an entry
pub target_within : (entries : List Entry) (units : List PlacedUnit) (e : Entry) (attribute t : ℕ)
    → target_of entries units e attribute ≡ Some t → t < length entries
unfolding target_of
target_within entries units e attribute t is = search (rules, option_and_then_some, reached_within)

-- what was read of a list that is the map of another
pub mapped : {X Y : Type 0} (f : X → Y) (xs : List X) (items : List Y) (i : ℕ) (x : X) (found : Y) → items ≡ map f xs
    → slice_get xs i ≡ Some x → found ≡ get_or items i found → found ≡ f x
mapped {X} {Y} f xs items i x found all is read =
    let kept : slice_get items i ≡ Some (f x) = ap (λ (ys : List Y). slice_get ys i) all ∙ slice_get-map f xs i
    ∙ ap (option_map f) is in
    read ∙ get_or_from_slice_get items i (f x) found kept

-- the target that is kept of an entry's type
pub kept_target : (entries : Entries) (tables : LinkTables) (id number : ℕ) (found : Option ℕ)
    → AreTables entries tables → id < length (all_entries entries) → number ≡ id
    → found ≡ get_or tables.types.items number found
    → found ≡ target_of_type (all_entries entries) (all_units entries) (entry_of (all_entries entries) id)
kept_target entries tables id number found are below same read = search (rules, mapped, slice_get-get_or)

-- the base that is kept of a unit
pub kept_is : (entries : List Entry) (units : List PlacedUnit) (attribute : ℕ) (bases : List (Option ℕ)) (number : ℕ)
    (p : PlacedUnit) → bases ≡ bases_in entries units attribute → slice_get units number ≡ Some p
    → kept_base bases number ≡ base_in entries p attribute
kept_is entries units attribute bases number p all is = search (rules, slice_get-map)

-- one item more
pub map_one_more : {X Y : Type 0} (f : X → Y) (xs : List X) (ys : List Y) (i : ℕ) (x : X) (y : Y)
    → slice_get xs i ≡ Some x → ys ≡ map f (take i xs) → y ≡ f x → ys ++ y ∷ [] ≡ map f (take (i + 1) xs)
map_one_more {X} {Y} f xs ys i x y is before here =
    let below = slice_get_within xs i x is in
    let same : get_or xs i x ≡ x = get_or_from_slice_get xs i x x is in
    rw (map_more f xs i x below, same, before, here) refl

-- all items
pub map_all : {X Y : Type 0} (f : X → Y) (xs : List X) (ys : List Y) (i : ℕ) → length xs ≤ i → ys ≡ map f (take i xs)
    → ys ≡ map f xs
map_all f xs ys i all before = before ∙ ap (map f) (take_all i xs all)

-- ---- what is kept of an entry's unit

-- the unit of the entry with a number
pub entry_unit : (entries : Entries) (id : ℕ) → id < length (all_entries entries)
    → slice_get (all_units entries) (entry_of (all_entries entries) id).unit
    ≡ Some (placed_of (all_units entries) (entry_of (all_entries entries) id).unit)
entry_unit entries id below =
    let e = entry_of (all_entries entries) id in
    unit_there (units_of entries) e.unit
    (in_units _ _ (units_of entries) id e entries.scanned.1.spells
    (slice_get-get_or (all_entries entries) id no_entry below))

-- the size of an address in a unit
pub sized : («abbrev» info : List ℕ) (us : List DebugUnit) (number : ℕ) (p : PlacedUnit) → Spells «abbrev» us info
    → number < length us → slice_get (placed us) number ≡ Some p → IsSize p.unit.header.address_size
sized «abbrev» info us number p spells below is =
    let (u, is_u) = there us number below in
    let (q, is_q, same) = unit_placed us number u is_u in
    let one : q ≡ p = same_some (slice_get (placed us) number) q p is_q is in
    let unit : u ≡ p.unit = sym same ∙ ap (λ (x : PlacedUnit). x.unit) one in
    let P : DebugUnit → Type 0 = λ x. IsSize x.header.address_size in
    subst P unit (unit_sized «abbrev» u (all_get _ us number u spells.are is_u)).size

pub size_in : (entries : Entries) (unit : ℕ) → unit < length (units_of entries)
    → IsSize (placed_of (all_units entries) unit).unit.header.address_size
size_in entries unit below =
    sized _ _ (units_of entries) _ _ entries.scanned.1.spells below (unit_there (units_of entries) unit below)

-- the base of a unit, by what is kept of all
pub based : (entries : Entries) (unit attribute : ℕ) (bases : List (Option ℕ)) (found : Option ℕ)
    → unit < length (units_of entries) → bases ≡ bases_in (all_entries entries) (all_units entries) attribute
    → found ≡ kept_base bases unit → base_at entries unit attribute ≡ found
based entries unit attribute bases found below all told =
    sym (told ∙ kept_is (all_entries entries) (all_units entries) attribute bases _ _ all
    (unit_there (units_of entries) unit below))

-- the value of an entry's attribute
module _ (entries : Entries) (id attribute : ℕ) (v : Datum) (below : id < length (all_entries entries))
    (value : Some v ≡ value_at_entry (entry_of (all_entries entries) id) attribute) where
  abbrev e : Entry
  e = entry_of (all_entries entries) id

  -- it has its string or its address
  pub held : HasNone (StringFailures (sections_of entries) (units_of entries))
      → HasItsText (sections_of entries) (all_entries entries) (placed_of (all_units entries) e.unit) v
  held strings =
      its_text (sections_of entries) (units_of entries) strings id e _
      (slice_get-get_or (all_entries entries) id no_entry below) (entry_unit entries id below) attribute v (sym value)

  pub address_is : address_of (sections_of entries) (header_at entries e.unit) (base_at entries e.unit DW_AT_addr_base)
      v
      ≡ address_at (sections_of entries) (all_entries entries) (all_units entries) e attribute
  unfolding address_at
  address_is = rw (entry_unit entries id below, ← value) refl

  pub text_is : text_of_value (sections_of entries) (base_at entries e.unit DW_AT_str_offsets_base) v
      ≡ text_at (sections_of entries) (all_entries entries) (all_units entries) e attribute
  unfolding text_at
  text_is = rw (entry_unit entries id below, ← value) refl

  -- the place of a text, wherever the bytes of the value end
  pub place_is : (place : TextPlace) → ((end : ℕ) → text_place_of (sections_of entries)
      (base_at entries e.unit DW_AT_str_offsets_base) v end ≡ Some place)
      → text_place_at (sections_of entries) (all_entries entries) (all_units entries) e attribute ≡ Some place
  unfolding text_place_at
  place_is place told =
      rw (entry_unit entries id below) (go (placed_value_at e attribute) (value ∙ value_placed e attribute))
    where
      go : (found : Option PlacedValue) → Some v ≡ option_map (λ (w : PlacedValue). w.value) found
          → option_and_then (λ (w : PlacedValue). text_place_of (sections_of entries)
          (base_at entries e.unit DW_AT_str_offsets_base) w.value w.end) found ≡ Some place
      go None some = absurd cc
      go (Some w) some =
          let both : Some v ≡ Some w.value = some in
          let same : v ≡ w.value = cc in
          rw (← same) (told w.end)

pub size_above : (size : ℕ) → IsSize size → 0 < size
size_above size is = elim is [ inl four ↦ omega (arith, four) | inr eight ↦ omega (arith, eight) ]

-- its header is that of the unit
pub unit_header : (us : List DebugUnit) (number : ℕ) → number < length us
    → (placed_of (placed us) number).unit.header ≡ (unit_of us number).header
unit_header us number below = search (rules, unit_placed, slice_get-get_or, get_or_from_slice_get)

module _ (us : List DebugUnit) (number : ℕ) (told : UnitHead) (below : number < length us)
    (tells : told ≡ unit_head (placed_of (placed us) number)) where
  abbrev p : PlacedUnit
  p = placed_of (placed us) number

  has : HasFirst (entries_of us) p.first number p
  has = first_entry us number p (unit_there us number below)

  -- a unit's first entry
  pub first_within : told.first < length (entries_of us)
  first_within =
      omega (
        arith,
        ap (λ (x : UnitHead). x.first) tells,
        slice_get_within (entries_of us) p.first has.entry has.is_entry,
      )

  -- it is the one that was told
  first_told : entry_of (entries_of us) told.first ≡ has.entry
  first_told =
      ap (entry_of (entries_of us)) (ap (λ (x : UnitHead). x.first) tells)
      ∙ get_or_from_slice_get (entries_of us) p.first has.entry no_entry has.is_entry

  -- the base that was read
  pub base_read : (attribute : ℕ) (v : Option Value) → (version_of told.header.kind ≡ 4 → ⊥)
      → option_map view v ≡ value_at_entry (entry_of (entries_of us) told.first) attribute
      → option_and_then section_offset_in (option_map view v) ≡ base_in (entries_of us) p attribute
  base_read attribute v not_4 read =
      ap (option_and_then section_offset_in) (read ∙ ap (λ (e : Entry). value_at_entry e attribute) first_told)
      ∙ (rw (
        ne_eqb (version_of p.unit.header.kind) 4
            (λ four. not_4 (ap (λ (x : UnitHead). version_of x.header.kind) tells ∙ four)),
        has.is_entry,
      ) refl)

  -- the language that was read
  pub language_read : (v : Option Value) (language : Constant)
      → option_map view v ≡ value_at_entry (entry_of (entries_of us) told.first) DW_AT_language
      → language ≡ constant_of (option_map view v) → language ≡ language_of p
  language_read v language read is =
      is ∙ ap constant_of (read ∙ ap (λ (e : Entry). value_at_entry e DW_AT_language) first_told)
      ∙ ap (λ (h : Head). constant_of (value_in (values_of h) DW_AT_language)) has.is_first.head

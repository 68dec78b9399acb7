-- Units one after another, and units among others: their entries are those of the units alone, with the numbers that
-- they have among all; and what holds of batches joined.
use Rattle.std.proofs.Common.{rules, ◌≡◌, ℕ, ◌+◌, List, [], ◌∷◌, ◌++◌, length, refl, arith, length-append, suc, ◌-◌, ◌<◌, ◌≤◌, ◌⊎◌, map, Option, Some, None, sym, ap, ◌∙◌, inl, inr, append-nil, slice_get, option_map, add-zero}
use Rattle.std.specs.List.{AllByRecursion}
use Rattle.dw_entries.specs.Units.{DebugUnit, AreFrom, unit_bytes, units_bytes}
use Rattle.dw_units.specs.IndependentBatches.{joined}
use Rattle.std.proofs.lemmas.List.{map-append}
use Rattle.std.proofs.lemmas.Option.{get_or_from_slice_get, slice_get-get_or, slice_get-map, slice_get_within}
use Rattle.dw_elf.specs.declared.sections.Sections.{Sections}
use Rattle.dw_entries.specs.ByNumber.{entry_of, placed_of, Entry, node_count, PlacedUnit}
use Rattle.dw_entries.specs.Tree.{Node, Nodes, leaf, parent, none, ◌then◌, node_bytes, head_bytes}
use Rattle.dw_entries.proofs.EntryFacts.{entries_from-append, length-entries_from, length-placed, units_count, entries_from, entries_of, placed_from, placed, first_id, node_entries, nodes_entries}
use Rattle.std.proofs.lemmas.Bool.{cases_lt}
use Rattle.dw_entries.proofs.UnitRanges.{get_front, get_behind}
use Rattle.dw_links.proofs.ClassLemmas.{in_units}
use Rattle.dw_units.specs.ByUnit.{StaysAlone}

-- units, one after another
abbrev pub Units : Type 0
Units = List DebugUnit

-- how many entries units have
abbrev pub total : Units → ℕ
total us = length (entries_of us)

-- the entry of units with this number
abbrev pub IsEntry : Units → ℕ → Entry → Type 0
IsEntry us k e = slice_get (entries_of us) k ≡ Some e

-- units that begin at an offset are placed from there on, and so are their entries
placed_there : (at : ℕ) (us : Units) → AreFrom at us → placed us ≡ placed_from at 0 us
placed_there at [] from = refl
placed_there at (u ∷ us) from = search rules

placed_from-append : (at first : ℕ) (us vs : Units) → placed_from at first (us ++ vs)
    ≡ placed_from at first us ++ placed_from (at + length (units_bytes us)) (first + units_count us) vs
placed_from-append at first [] vs = search (rules, add-zero)
placed_from-append at first (u ∷ us) vs =
    search (
      rules,
      length-append,
      (placed_from-append (at + length (unit_bytes u)) (first + node_count u.root) us vs),
    )

entries_there : (at : ℕ) (us : Units) → AreFrom at us → entries_of us ≡ entries_from 0 0 at us
entries_there at [] from = refl
entries_there at (u ∷ us) from = search rules

-- some units, and those after them
pub from_parts : (at : ℕ) (us more : Units) → AreFrom at (us ++ more)
    → AreFrom at us × AreFrom (at + length (units_bytes us)) more
from_parts at [] more from = search rules
from_parts at (u ∷ us) more (here, from) =
    search (rules, (from_parts (at + length (unit_bytes u)) us more from), length-append)

pub from_both : (at : ℕ) (us more : Units) → AreFrom at us → AreFrom (at + length (units_bytes us)) more
    → AreFrom at (us ++ more)
from_both at [] more from rest = search rules
from_both at (u ∷ us) more (here, from) rest =
    let there : at + length (units_bytes (u ∷ us)) ≡ at + length (unit_bytes u) + length (units_bytes us) =
    omega (arith, length-append (unit_bytes u) (units_bytes us)) in
    (here, from_both (at + length (unit_bytes u)) us more from (rw there at rest))

-- what holds of no unit, and of units with more behind them as it does of both, holds of batches joined
pub all_joined : (P : Units → Type 0) → P []
    → ((at : ℕ) (us more : Units) → AreFrom at (us ++ more) → P us → P more → P (us ++ more))
    → (at : ℕ) (bs : List Units) → AreFrom at (joined bs) → AllByRecursion P bs → P (joined bs)
all_joined P empty both at [] from all = empty
all_joined P empty both at (units ∷ bs) from (one, more) =
    both at units (joined bs) from one
    (all_joined P empty both (at + length (units_bytes units)) bs (from_parts at units (joined bs) from).1 more)

-- ---- the entries of units, by the numbers that they have among others

-- the number of an entry of the units, among all entries
abbrev pub moved_number : ℕ → Option ℕ → Option ℕ
moved_number first None = None
moved_number first (Some id) = Some (first + id)

pub none_moved : (first : ℕ) (o : Option ℕ) → moved_number first o ≡ None → o ≡ None
none_moved first o is = search rules

-- an entry of the units alone, among all: the first of them has this number, as their first entry has that
abbrev pub moved : (number first : ℕ) → Entry → Entry
moved number first e = record e {
  unit = number + e.unit;
  parent = moved_number first e.parent;
  next = moved_number first e.next;
}

-- a unit, likewise
abbrev pub moved_unit : (first : ℕ) → PlacedUnit → PlacedUnit
moved_unit first q = record q { first = first + q.first }

first_moved : (ns : Nodes) (first id to : ℕ) → to ≡ first + id → first_id ns to ≡ moved_number first (first_id ns id)
first_moved ns first id to is = search rules

module _ (number first : ℕ) where
  mutual
    node_moved : (unit unit_to : ℕ) (above next above_to next_to : Option ℕ) (depth id id_to at : ℕ) (n : Node)
        → unit_to ≡ number + unit → id_to ≡ first + id
        → above_to ≡ moved_number first above → next_to ≡ moved_number first next
        → node_entries unit_to above_to depth next_to id_to at n
        ≡ map (moved number first) (node_entries unit above depth next id at n)
    node_moved unit unit_to above next above_to next_to depth id id_to at (leaf h) u i q r = rw (u, q, r) refl
    node_moved unit unit_to above next above_to next_to depth id id_to at (parent h ns z) u i q r =
        rw (
          u,
          q,
          r,
          nodes_moved unit (number + unit) id id_to (suc depth) (suc id) (suc id_to) (at + length (head_bytes h)) ns
              refl i (omega arith),
        ) refl

    nodes_moved : (unit unit_to above above_to depth id id_to at : ℕ) (ns : Nodes)
        → unit_to ≡ number + unit → above_to ≡ first + above → id_to ≡ first + id
        → nodes_entries unit_to above_to depth id_to at ns
        ≡ map (moved number first) (nodes_entries unit above depth id at ns)
    nodes_moved unit unit_to above above_to depth id id_to at none u a i = refl
    nodes_moved unit unit_to above above_to depth id id_to at (n then ns) u a i =
        rw (
          node_moved unit unit_to (Some above) (first_id ns (id + node_count n)) (Some above_to)
              (first_id ns (id_to + node_count n)) depth id id_to at n
              u i (ap Some a) (first_moved ns first (id + node_count n) (id_to + node_count n) (omega arith)),
          nodes_moved unit unit_to above above_to depth (id + node_count n) (id_to + node_count n)
              (at + length (node_bytes n)) ns u a (omega arith),
          map-append,
        )

  -- the entries of units among all
  units_moved : (unit id unit_to id_to at : ℕ) (us : Units) → unit_to ≡ number + unit → id_to ≡ first + id
      → entries_from unit_to id_to at us ≡ map (moved number first) (entries_from unit id at us)
  units_moved unit id unit_to id_to at [] u i = refl
  units_moved unit id unit_to id_to at (v ∷ us) u i =
      search (
        rules,
        node_moved,
        map-append,
        (units_moved (suc unit) (id + node_count v.root) (suc unit_to) (id_to + node_count v.root)
            (at + length (unit_bytes v)) us (omega (arith, u)) (omega (arith, i))),
      )

  -- and the units themselves
  placed_moved : (id id_to at : ℕ) (us : Units) → id_to ≡ first + id
      → placed_from at id_to us ≡ map (moved_unit first) (placed_from at id us)
  placed_moved id id_to at [] i = refl
  placed_moved id id_to at (v ∷ us) i =
      search (
        rules,
        (placed_moved (id + node_count v.root) (first + id + node_count v.root) (at + length (unit_bytes v)) us
            (omega arith)),
      )

-- ---- units with more behind them

map_some : {X Y : Type 0} (f : X → Y) (o : Option X) (y : Y) → option_map f o ≡ Some y
    → (x : X) × (o ≡ Some x) × (f x ≡ y)
map_some f o y is = search rules

-- units with more behind them: all entries, and all units as they are placed
pub entries_both : (at : ℕ) (us more : Units) → AreFrom at (us ++ more)
    → entries_of (us ++ more) ≡ entries_of us ++ map (moved (length us) (total us)) (entries_of more)
entries_both at us more from =
    search (rules, from_parts, entries_there, length-entries_from, units_moved, entries_from-append)

placed_both : (at : ℕ) (us more : Units) → AreFrom at (us ++ more)
    → placed (us ++ more) ≡ placed us ++ map (moved_unit (total us)) (placed more)
placed_both at us more from =
    search (rules, from_parts, entries_there, length-entries_from, placed_moved, placed_there, placed_from-append)

-- the elements of a list with a moved one behind it
module _ {X : Type 0} (f : X → X) (xs ys zs : List X) (is : zs ≡ xs ++ map f ys) where
  get_first : (i : ℕ) (x : X) → slice_get xs i ≡ Some x → slice_get zs i ≡ Some x
  get_first i x is_x =
      ap (λ (l : List X). slice_get l i) is ∙ get_front xs (map f ys) i (slice_get_within xs i x is_x) ∙ is_x

  get_moved : (i : ℕ) (x : X) → slice_get ys i ≡ Some x → slice_get zs (length xs + i) ≡ Some (f x)
  get_moved i x is_x =
      let none : length xs + i - length xs ≡ i = omega arith in
      ap (λ (l : List X). slice_get l (length xs + i)) is ∙ get_behind xs (map f ys) (length xs + i) (omega arith)
      ∙ ap (slice_get (map f ys)) none ∙ slice_get-map f ys i ∙ ap (option_map f) is_x

  get_either : (i : ℕ) (x : X) → slice_get zs i ≡ Some x → (slice_get xs i ≡ Some x)
      ⊎ ((j : ℕ) × (y : X) × (slice_get ys j ≡ Some y) × (i ≡ length xs + j) × (f y ≡ x))
  get_either i x is_x =
      let here = ap (λ (l : List X). slice_get l i) (sym is) ∙ is_x in
      elim (cases_lt i (length xs)) [
        | inl below ↦ inl (sym (get_front xs (map f ys) i below) ∙ here)
        | inr past ↦
            let (y, is_y, same) = map_some f (slice_get ys (i - length xs)) x
            (sym (slice_get-map f ys (i - length xs)) ∙ sym (get_behind xs (map f ys) i past) ∙ here) in
            inr (i - length xs, y, is_y, omega (arith, past), same)
      ]

-- ---- some units among all

-- an entry among all is one of these units, the first of which has this number, as its first entry has that
pub record IsIn (number first : ℕ) (units : Units) (i : ℕ) (e : Entry) : Type 0 where
  pub inner : ℕ
  pub entry : Entry
  pub is_entry : IsEntry units inner entry
  pub begins : i ≡ first + inner
  pub same : moved number first entry ≡ e

-- or it is one of other units: before these, or behind them
pub data IsOut (number first : ℕ) (units : Units) (i : ℕ) (e : Entry) : Type 0 where
  early : e.unit < number → i < first → IsOut number first units i e
  late : number + length units ≤ e.unit
      → ((k : ℕ) → e.parent ≡ Some k → first + total units ≤ k) → IsOut number first units i e

-- these units are among all, and stay alone: their entries and themselves, by their numbers among all
pub record IsPart (s : Sections) (all : Units) (number first : ℕ) (units : Units) : Type 0 where
  pub stays : StaysAlone s units
  pub get : (inner : ℕ) (d : Entry) → IsEntry units inner d → IsEntry all (first + inner) (moved number first d)
  pub unit_get : (j : ℕ) (q : PlacedUnit) → slice_get (placed units) j ≡ Some q
      → slice_get (placed all) (number + j) ≡ Some (moved_unit first q)
  pub covers : (i : ℕ) (e : Entry) → IsEntry all i e → IsIn number first units i e ⊎ IsOut number first units i e

-- an entry is of one of the units
pub unit_below : (s : Sections) (units : Units) → StaysAlone s units → (inner : ℕ) (e : Entry)
    → IsEntry units inner e → e.unit < length units
unit_below s units stays inner e is =
    in_units s.«abbrev».now (units_bytes units) units inner e (record { are = stays.are; parts = refl }) is

pub some_moved : (first : ℕ) (o : Option ℕ) (id : ℕ) → moved_number first o ≡ Some id
    → (k : ℕ) × (o ≡ Some k) × (first + k ≡ id)
some_moved first o id is = search rules

unmoved_number : (o : Option ℕ) → moved_number 0 o ≡ o
unmoved_number o = search rules

unmoved : (e : Entry) → moved 0 0 e ≡ e
unmoved e = search (rules, unmoved_number)

-- units after some and before others are among all
pub part_of : (s : Sections) (at : ℕ) (before units behind : Units)
    → AreFrom at (before ++ (units ++ behind)) → StaysAlone s before → StaysAlone s units
    → IsPart s (before ++ (units ++ behind)) (length before) (total before) units
part_of s at before units behind from first stays = record {
  stays = stays;
  get = λ inner d is.
      get_moved _ (entries_of before) (entries_of rest) _ entries inner d
      (get_first _ (entries_of units) (entries_of behind) _ inside inner d is);
  unit_get = λ j q is.
      ap (λ (n : ℕ). slice_get (placed (before ++ rest)) (n + j)) (sym (length-placed before))
      ∙ get_moved _ (placed before) (placed rest) _ (placed_both at before rest from) j q
      (get_first _ (placed units) (placed behind) _ (placed_both place units behind there) j q is);
  covers = λ i e is.
      elim (get_either _ (entries_of before) (entries_of rest) _ entries i e is) [
        | inl here ↦
            inr (early (unit_below s before first i e here) (slice_get_within _ _ _ here))
        | inr (j, d, is_d, begins, same) ↦
            elim (get_either _ (entries_of units) (entries_of behind) _ inside j d is_d) [
              | inl here ↦ inl (record { inner = j; entry = d; is_entry = here; begins = begins; same = same })
              | inr (k, c, is_c, past, also) ↦
                  inr (late
                  (omega (arith, ap (λ (x : Entry). x.unit) same, ap (λ (x : Entry). x.unit) also)) (λ m is.
                  let (a, is_a, one) = some_moved (total before) d.parent m
                  (ap (λ (x : Entry). x.parent) same ∙ is) in
                  let (b, is_b, two) = some_moved (total units) c.parent a
                  (ap (λ (x : Entry). x.parent) also ∙ is_a) in
                  omega (arith, one, two)))
            ]
      ];
}
  where
    rest : Units
    rest = units ++ behind

    place : ℕ
    place = at + length (units_bytes before)

    there : AreFrom place rest
    there = (from_parts at before rest from).1

    entries : entries_of (before ++ rest)
        ≡ entries_of before ++ map (moved (length before) (total before)) (entries_of rest)
    entries = entries_both at before rest from

    inside : entries_of rest ≡ entries_of units ++ map (moved (length units) (total units)) (entries_of behind)
    inside = entries_both place units behind there

pub stays_none : (s : Sections) → StaysAlone s []
stays_none s = search rules

-- of two lists of units, the first and the second; and each entry is of one of them
module _ (s : Sections) (at : ℕ) (us more : Units) (from : AreFrom at (us ++ more)) where
  pub front : StaysAlone s us → IsPart s (us ++ more) 0 0 us
  front stays = part_of s at [] us more from (stays_none s) stays

  pub behind : StaysAlone s us → StaysAlone s more → IsPart s (us ++ more) (length us) (total us) more
  behind first stays =
      rw (append-nil more) at (part_of s at us more [] (rw (sym (append-nil more)) at from) first stays)

  pub halves : (i : ℕ) (e : Entry) → IsEntry (us ++ more) i e → IsIn 0 0 us i e ⊎ IsIn (length us) (total us) more i e
  halves i e is =
      elim (get_either _ (entries_of us) (entries_of more) _ (entries_both at us more from) i e is) [
        | inl here ↦
            inl (record { inner = i; entry = e; is_entry = here; begins = omega arith; same = unmoved e })
        | inr (j, d, is_d, begins, same) ↦
            inr (record { inner = j; entry = d; is_entry = is_d; begins = begins; same = same })
      ]

-- units that stay alone, and others behind them
pub record AreTwo (s : Sections) (at : ℕ) (us more : Units) : Type 0 where
  pub from : AreFrom at (us ++ more)
  pub one : StaysAlone s us
  pub other : StaysAlone s more

-- the same by number
module _ {s : Sections} {all : Units} {number first : ℕ} {units : Units}
    (p : IsPart s all number first units) (inner : ℕ) where
  got : inner < total units → slice_get (entries_of all) (first + inner)
      ≡ Some (moved number first (entry_of (entries_of units) inner))
  got inside = search (rules, slice_get-get_or, inside)

  pub entry_within : inner < total units → first + inner < total all
  entry_within inside = search (rules, slice_get_within, got)

  pub entry_at : inner < total units → entry_of (entries_of all) (first + inner)
      ≡ moved number first (entry_of (entries_of units) inner)
  entry_at inside = search (rules, get_or_from_slice_get, got)

  got_unit : inner < length units → slice_get (placed all) (number + inner)
      ≡ Some (moved_unit first (placed_of (placed units) inner))
  got_unit inside = search (rules, slice_get-get_or, inside, length-placed)

  pub unit_within : inner < length units → number + inner < length (placed all)
  unit_within inside = search (rules, slice_get_within, got_unit)

  pub unit_at : inner < length units → placed_of (placed all) (number + inner)
      ≡ moved_unit first (placed_of (placed units) inner)
  unit_at inside = search (rules, get_or_from_slice_get, got_unit)

-- What holds of the entries and of the units of a list: order, numbers in range, and where each unit begins.
use Rattle.std.proofs.Common.{rules, ◌≡◌, ℕ, zero, suc, ◌+◌, ◌-◌, ◌<◌, ◌≤◌, List, [], ◌∷◌, ◌++◌, length, take, drop, Option, Some, None, refl, sym, ap, ◌∙◌, append_assoc, add-zero, arith, length-append, length-take-le, take-append-drop, drop-cons, slice_get}
use Rattle.std.specs.List.{AllByRecursion}
use Rattle.std.proofs.lemmas.Option.{slice_get-map, slice_get-get_or, slice_get_within, get_or_from_slice_get}
pub use Rattle.dw_entries.specs.Header.{unit_header_size}
use Rattle.dw_entries.specs.Tree.{Node, Nodes, leaf, parent, none, ◌then◌, node_bytes, head_bytes}
use Rattle.dw_entries.specs.Units.{DebugUnit, head_of, unit_bytes, AreUnits, units_bytes}
pub use Rattle.dw_entries.specs.Entries.{Entry, node_count, nodes_count, first_id, node_entries, nodes_entries, entries_from, start_of, entries_of, PlacedUnit, placed_from, placed}
pub use Rattle.dw_entries.specs.ByNumber.{placed_of}
use Rattle.dw_entries.specs.Scanned.{Record, record_of, records_of}
use Rattle.dw_entries.specs.EntryRules.{OffsetsRise}
use Rattle.dw_entries.proofs.HeadLaws.{all-append, get_behind}
use Rattle.dw_entries.proofs.OrderLaws.{Rises, units_rise}

-- ---- the entries stand in rising offset

rises_low : (low high : ℕ) (rs : List Record) (j : ℕ) (r : Record) → Rises low high rs → slice_get rs j ≡ Some r
    → low ≤ r.at
rises_low low high [] j r p is = absurd cc
rises_low low high (q ∷ rs) zero r p is = search (rules)
rises_low low high (q ∷ rs) (suc j) r p is = search (rules, (rises_low (suc q.at) high rs j r p.1 is))

rises_get : (low high : ℕ) (rs : List Record) (i j : ℕ) (a b : Record) → Rises low high rs → i < j
    → slice_get rs i ≡ Some a → slice_get rs j ≡ Some b → a.at < b.at
rises_get low high [] i j a b p lt is_a is_b = absurd cc
rises_get low high (r ∷ rs) i zero a b p lt is_a is_b = absurd (omega arith)
rises_get low high (r ∷ rs) zero (suc j) a b p lt is_a is_b = search (rules, rises_low)
rises_get low high (r ∷ rs) (suc i) (suc j) a b p lt is_a is_b =
    rises_get (suc r.at) high rs i j a b p.1 (omega arith) is_a is_b

pub kept_get : (numbers : ℕ → ℕ → ℕ) (us : List DebugUnit) (i : ℕ) (e : Entry) → slice_get (entries_of us) i ≡ Some e
    → slice_get (records_of numbers us) i ≡ Some (record_of numbers e)
kept_get numbers us i e is = search (rules, slice_get-map)

pub entries_rise : (a : List ℕ) (us : List DebugUnit) → AreUnits a us → OffsetsRise (entries_of us)
entries_rise a us are i j d e lt is_d is_e =
    let any : ℕ → ℕ → ℕ = λ unit code. 0 in
    rises_get (start_of us) _ (records_of any us) i j (record_of any d) (record_of any e)
    (units_rise a any 0 0 (start_of us) us are) lt (kept_get any us i d is_d) (kept_get any us j e is_e)

-- no entry is before the first unit
pub entry_past : (a : List ℕ) (us : List DebugUnit) → AreUnits a us → (i : ℕ) (e : Entry)
    → slice_get (entries_of us) i ≡ Some e → start_of us ≤ e.at
entry_past a us are i e is =
    let any : ℕ → ℕ → ℕ = λ unit code. 0 in
    rises_low (start_of us) _ (records_of any us) i (record_of any e) (units_rise a any 0 0 (start_of us) us are)
    (kept_get any us i e is)

-- how many entries there are
mutual
  pub length-node_entries : (unit : ℕ) (above : Option ℕ) (depth : ℕ) (next : Option ℕ) (id at : ℕ) (n : Node)
      → length (node_entries unit above depth next id at n) ≡ node_count n
  length-node_entries unit above depth next id at (leaf h) = refl
  length-node_entries unit above depth next id at (parent h ns z) =
      ap suc (length-nodes_entries unit id (suc depth) (suc id) (at + length (head_bytes h)) ns)

  pub length-nodes_entries : (unit above depth id at : ℕ) (ns : Nodes)
      → length (nodes_entries unit above depth id at ns) ≡ nodes_count ns
  length-nodes_entries unit above depth id at none = refl
  length-nodes_entries unit above depth id at (n then ns) =
      search (
        rules,
        length-append,
        (length-node_entries unit (Some above) depth (first_id ns (id + node_count n)) id at n),
        (length-nodes_entries unit above depth (id + node_count n) (at + length (node_bytes n)) ns),
      )

-- and all are of its unit
abbrev pub IsOfUnit : ℕ → Entry → Type 0
IsOfUnit unit e = e.unit ≡ unit

mutual
  pub node_unit : (unit : ℕ) (above : Option ℕ) (depth : ℕ) (next : Option ℕ) (id at : ℕ) (n : Node)
      → AllByRecursion (IsOfUnit unit) (node_entries unit above depth next id at n)
  node_unit unit above depth next id at (leaf h) = (refl, tt)
  node_unit unit above depth next id at (parent h ns z) =
      (refl, nodes_unit unit id (suc depth) (suc id) (at + length (head_bytes h)) ns)

  nodes_unit : (unit above depth id at : ℕ) (ns : Nodes)
      → AllByRecursion (IsOfUnit unit) (nodes_entries unit above depth id at ns)
  nodes_unit unit above depth id at none = tt
  nodes_unit unit above depth id at (n then ns) =
      search (
        rules,
        all-append,
        (node_unit unit (Some above) depth (first_id ns (id + node_count n)) id at n),
        (nodes_unit unit above depth (id + node_count n) (at + length (node_bytes n)) ns),
      )

-- how many entries units have
abbrev pub units_count : List DebugUnit → ℕ
units_count [] = 0
units_count (u ∷ us) = node_count u.root + units_count us

-- the entries of units, and of more
pub entries_from-append : (unit id at : ℕ) (us vs : List DebugUnit) → entries_from unit id at (us ++ vs)
    ≡ entries_from unit id at us
    ++ entries_from (unit + length us) (id + units_count us) (at + length (units_bytes us)) vs
entries_from-append unit id at [] vs = search (rules, add-zero)
entries_from-append unit id at (u ∷ us) vs =
    search (
      rules,
      length-append,
      append_assoc,
      (entries_from-append (suc unit) (id + node_count u.root) (at + length (unit_bytes u)) us vs),
    )

pub length-entries_from : (unit id at : ℕ) (us : List DebugUnit) → length (entries_from unit id at us) ≡ units_count us
length-entries_from unit id at [] = refl
length-entries_from unit id at (u ∷ us) =
    search (
      rules,
      length-append,
      length-node_entries,
      (length-entries_from (suc unit) (id + node_count u.root) (at + length (unit_bytes u)) us),
    )

-- ---- the units, each at its offset

-- the unit of this number, and its place after the units before it, of which the first is at this offset
pub record IsPlaceOf (at first : ℕ) (us : List DebugUnit) (n : ℕ) (p : PlacedUnit) : Type 0 where
  pub is_unit : slice_get us n ≡ Some p.unit
  pub starts : p.at ≡ at + length (units_bytes (take n us))
  pub counts : p.first ≡ first + units_count (take n us)

place_from : (at first : ℕ) (us : List DebugUnit) (n : ℕ) (p : PlacedUnit)
    → slice_get (placed_from at first us) n ≡ Some p → IsPlaceOf at first us n p
place_from at first [] n p is = absurd cc
place_from at first (u ∷ us) zero p is = search (rules, add-zero)
place_from at first (u ∷ us) (suc n) p is =
    search (
      rules,
      length-append,
      (place_from (at + length (unit_bytes u)) (first + node_count u.root) us n p is),
    )

pub place_of : (us : List DebugUnit) (n : ℕ) (p : PlacedUnit) → slice_get (placed us) n ≡ Some p
    → IsPlaceOf (start_of us) 0 us n p
place_of us = place_from (start_of us) 0 us

length-placed_from : (at first : ℕ) (us : List DebugUnit) → length (placed_from at first us) ≡ length us
length-placed_from at first [] = refl
length-placed_from at first (u ∷ us) =
    ap suc (length-placed_from (at + length (unit_bytes u)) (first + node_count u.root) us)

pub length-placed : (us : List DebugUnit) → length (placed us) ≡ length us
length-placed us = length-placed_from (start_of us) 0 us

pub unit_placed : (us : List DebugUnit) (k : ℕ) (u : DebugUnit) → slice_get us k ≡ Some u
    → (p : PlacedUnit) × (slice_get (placed us) k ≡ Some p) × (p.unit ≡ u)
unit_placed us k u is =
    let p : PlacedUnit = placed_of (placed us) k in
    let is_p : slice_get (placed us) k ≡ Some p =
    search (rules, slice_get-get_or, length-placed, slice_get_within) in
    let here = (place_of us k p is_p).is_unit in
    (p, is_p, cc)

-- no unit is before the first one
pub placed_past : (us : List DebugUnit) (k : ℕ) (p : PlacedUnit) → slice_get (placed us) k ≡ Some p
    → start_of us ≤ p.at
placed_past us k p is = search (rules, place_of)

-- the entries of a unit
abbrev pub unit_entries : ℕ → PlacedUnit → List Entry
unit_entries n p = node_entries n None 0 None p.first (p.at + unit_header_size p.unit.header.kind) p.unit.root

-- they are among these, after those of the units before it
pub record HasUnit (es : List Entry) (n : ℕ) (p : PlacedUnit) : Type 0 where
  pub before : List Entry
  pub after : List Entry
  pub long : length before ≡ p.first
  pub parts : es ≡ before ++ (unit_entries n p ++ after)

pub has_unit : (us : List DebugUnit) (n : ℕ) (p : PlacedUnit) → slice_get (placed us) n ≡ Some p
    → HasUnit (entries_of us) n p
has_unit us n p is =
    let at : ℕ = start_of us in
    let it = place_of us n p is in
    let us_before : List DebugUnit = take n us in
    let us_after : List DebugUnit = drop (suc n) us in
    let within = slice_get_within us n p.unit it.is_unit in
    let two : us ≡ us_before ++ p.unit ∷ us_after =
    search (
      rules,
      take-append-drop,
      (drop-cons us n p.unit within),
      (get_or_from_slice_get us n p.unit p.unit it.is_unit),
    ) in
    let number : 0 + length us_before ≡ n = omega (arith, length-take-le n us (omega arith)) in
    let first : 0 + units_count us_before ≡ p.first = sym it.counts in
    let place : at + length (units_bytes us_before) ≡ p.at = sym it.starts in
    record {
      before = entries_from 0 0 at us_before;
      after = entries_from (suc n) (p.first + node_count p.unit.root) (p.at + length (unit_bytes p.unit)) us_after;
      long = omega (arith, length-entries_from 0 0 at us_before, it.counts);
      parts = ap (entries_from 0 0 at) two ∙ entries_from-append 0 0 at us_before (p.unit ∷ us_after)
          ∙ (λ i. entries_from 0 0 at us_before ++ entries_from (number i) (first i) (place i) (p.unit ∷ us_after));
    }

-- this entry is the first of the unit with this number and place
pub record IsFirstEntry (number : ℕ) (p : PlacedUnit) (e : Entry) : Type 0 where
  pub at : e.at ≡ p.at + unit_header_size p.unit.header.kind
  pub unit : e.unit ≡ number
  pub parent : e.parent ≡ None
  pub depth : e.depth ≡ 0
  pub head : e.head ≡ head_of p.unit.root

-- the entry with this number among these
pub record HasFirst (entries : List Entry) (id number : ℕ) (p : PlacedUnit) : Type 0 where
  pub entry : Entry
  pub is_entry : slice_get entries id ≡ Some entry
  pub is_first : IsFirstEntry number p entry

first_here : (n : ℕ) (p : PlacedUnit) (more : List Entry) → HasFirst (unit_entries n p ++ more) 0 n p
first_here n p more = go p.unit.root refl
  where
    go : (root : Node) → p.unit.root ≡ root → HasFirst
        (node_entries n None 0 None p.first (p.at + unit_header_size p.unit.header.kind) root ++ more) 0 n p
    go (leaf h) e =
        record {
          entry = _;
          is_entry = refl;
          is_first = record { at = refl; unit = refl; parent = refl; depth = refl; head = sym (ap head_of e) };
        }
    go (parent h ns z) e =
        record {
          entry = _;
          is_entry = refl;
          is_first = record { at = refl; unit = refl; parent = refl; depth = refl; head = sym (ap head_of e) };
        }

-- a unit's first entry
pub first_entry : (us : List DebugUnit) (k : ℕ) (p : PlacedUnit) → slice_get (placed us) k ≡ Some p
    → HasFirst (entries_of us) p.first k p
first_entry us k p is =
    let s = has_unit us k p is in
    let f = first_here k p s.after in
    record { entry = f.entry; is_entry = search (rules, get_behind); is_first = f.is_first }

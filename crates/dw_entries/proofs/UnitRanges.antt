-- Which entries are of a unit: those from its first one up to the first one of the next unit.
use Rattle.std.proofs.Common.{rules, ◌≡◌, ℕ, zero, suc, ◌+◌, ◌-◌, ◌<◌, ◌≤◌, List, [], ◌∷◌, length, take, get_or, Some, None, refl, sym, ap, ◌∙◌, inl, inr, arith, length-drop, take_all, slice_get}
use Rattle.std.specs.List.Sorted.{IsPartitionPoint, IsNonDecreasingBy}
use Rattle.std.proofs.lemmas.Bool.{cases_lt}
use Rattle.std.proofs.lemmas.Option.{slice_get_within, slice_get-get_or, slice_get_cases}
use Rattle.dw_entries.specs.Entries.{Entry, node_count, start_of, entries_of, PlacedUnit, placed_from, placed, DebugUnit, unit_bytes}
use Rattle.dw_entries.specs.ByNumber.{end_in}
pub use Rattle.dw_entries.specs.Scanned.{Tables, UnitRecord, Record, found_units, Scanned}
use Rattle.dw_entries.proofs.EntryFacts.{IsOfUnit, has_unit, length-entries_from, length-node_entries, node_unit, place_of, unit_entries, units_count, unit_header_size}
use Rattle.dw_entries.proofs.FindLaws.{entries_counted}
use Rattle.dw_entries.proofs.HeadLaws.{all_get}
pub use Rattle.dw_entries.proofs.HeadLaws.{get_front, get_behind}
pub use Rattle.dw_entries.proofs.KeptLaws.{found_entry, found_place, kept_entry, kept_unit, one_some, units_counted}
use Rattle.dw_entries.proofs.NumberOrder.{three_ways}
use Rattle.dw_entries.proofs.ScanLaws.{few_units}

-- the entries between the first of a unit and that of the next are of the unit
pub unit_in_range : (us : List DebugUnit) (n : ℕ) (p : PlacedUnit) (k : ℕ) (e : Entry)
    → slice_get (placed us) n ≡ Some p
    → slice_get (entries_of us) k ≡ Some e → p.first ≤ k → k < p.first + node_count p.unit.root → e.unit ≡ n
unit_in_range us n p k e is is_e low high =
    let s = has_unit us n p is in
    let at : ℕ = p.at + unit_header_size p.unit.header.kind in
    let count = length-node_entries n None 0 None p.first at p.unit.root in
    let here : slice_get (unit_entries n p) (k - length s.before) ≡ Some e =
    search (rules, get_front, get_behind, high) in
    all_get (IsOfUnit n) (unit_entries n p) (k - length s.before) e (node_unit n None 0 None p.first at p.unit.root)
    here

-- each entry is between the first of a unit and that of the next
some_range : (at first : ℕ) (us : List DebugUnit) (k : ℕ) → first ≤ k → k < first + units_count us
    → (n : ℕ) × (p : PlacedUnit) × (slice_get (placed_from at first us) n ≡ Some p) × (p.first ≤ k)
    × (k < p.first + node_count p.unit.root)
some_range at first [] k low within = absurd (omega arith)
some_range at first (u ∷ us) k low within = elim (cases_lt k (first + node_count u.root)) [
  | inl less ↦ (0, record { at = at; first = first; unit = u }, refl, low, less)
  | inr more ↦
      let (n, p, is, from, to) = some_range (at + length (unit_bytes u)) (first + node_count u.root) us k more
      (omega arith) in
      (suc n, p, is, from, to)
]

-- the entries of a unit are between its first one and that of the next
pub range_of_unit : (us : List DebugUnit) (n : ℕ) (p : PlacedUnit) (k : ℕ) (e : Entry)
    → slice_get (placed us) n ≡ Some p → slice_get (entries_of us) k ≡ Some e → e.unit ≡ n
    → (p.first ≤ k) × (k < p.first + node_count p.unit.root)
range_of_unit us n p k e is is_e of_unit =
    let within = slice_get_within (entries_of us) k e is_e in
    let (m, q, is_q, low, high) = some_range (start_of us) 0 us k (omega arith)
    (omega (arith, length-entries_from 0 0 (start_of us) us)) in
    let same : m ≡ n = search (rules, unit_in_range, high) in
    let one : q ≡ p = search rules in search (rules, low, high)

-- the next unit begins where a unit ends
count_next : (us : List DebugUnit) (n : ℕ) (u : DebugUnit) → slice_get us n ≡ Some u
    → units_count (take (suc n) us) ≡ units_count (take n us) + node_count u.root
count_next [] n u is = absurd cc
count_next (v ∷ us) zero u is = search (rules)
count_next (v ∷ us) (suc n) u is = omega (arith, count_next us n u is)

pub next_first : (us : List DebugUnit) (n : ℕ) (p q : PlacedUnit) → slice_get (placed us) n ≡ Some p
    → slice_get (placed us) (suc n) ≡ Some q → q.first ≡ p.first + node_count p.unit.root
next_first us n p q is next = search (rules, place_of, count_next)

-- the last unit ends with the last entry
pub last_ends : (us : List DebugUnit) (n : ℕ) (p : PlacedUnit) → slice_get (placed us) n ≡ Some p → suc n ≡ length us
    → length (entries_of us) ≡ p.first + node_count p.unit.root
last_ends us n p is last =
    let it = place_of us n p is in
    omega (
      arith,
      length-entries_from 0 0 (start_of us) us,
      ap units_count (take_all (suc n) us (omega arith)),
      count_next us n p.unit it.is_unit,
      it.counts,
    )

-- units begin with rising entries
count_rises : (us : List DebugUnit) (i j : ℕ) → i ≤ j → units_count (take i us) ≤ units_count (take j us)
count_rises us zero j le = omega arith
count_rises [] (suc i) j le = omega arith
count_rises (u ∷ us) (suc i) zero le = absurd (omega arith)
count_rises (u ∷ us) (suc i) (suc j) le = omega (arith, count_rises us i j (omega arith))

-- ---- the units that are kept

module _ {base : ℕ} {a info : List ℕ} {tables : Tables} {rs : List UnitRecord} {records : List Record}
    (s : Scanned base a info tables rs records) where
  -- what is kept of a unit says where its first entry is
  pub kept_first : (n : ℕ) (u : UnitRecord) → slice_get rs n ≡ Some u
      → (slice_get (placed (found_units s)) n ≡ Some (found_place s n)) × (u.first ≡ (found_place s n).first)
  kept_first n u is =
      let within = slice_get_within rs n u is in
      let k = kept_unit s n (omega (arith, units_counted s))
      in
      let same : k.unit_record ≡ u = search (rules, one_some) in
      search (rules)

  -- the entries of a unit that is kept, up to its end
  pub its_entries : (n end : ℕ) (u : UnitRecord) → slice_get rs n ≡ Some u
      → end ≡ end_in (placed (found_units s)) n
      → (id : ℕ) → id < length (entries_of (found_units s)) → u.first ≤ id → id < end → n ≡ (found_entry s id).unit
  its_entries n end u is ends id within low high =
      let (is_p, first) = kept_first n u is in
      sym (unit_in_range (found_units s) n (found_place s n) id (found_entry s id) is_p
      (kept_entry s id within).is_entry (omega arith)
      (omega (arith, high)))

  -- a unit ends where the next one begins
  pub ends_with_next : (n : ℕ) (next : UnitRecord) → slice_get rs (n + 1) ≡ Some next
      → next.first ≡ end_in (placed (found_units s)) n
  ends_with_next n next is =
      let within = slice_get_within rs (n + 1) next is in
      let k = kept_unit s n (omega (arith, units_counted s))
      in
      let is_place = k.is_place in
      search (rules, kept_first, next_first)

  -- the last one ends with the last entry
  pub ends_with_all : (n : ℕ) → n < length (found_units s) → length rs ≤ n + 1
      → length records ≡ end_in (placed (found_units s)) n
  ends_with_all n within past =
      entries_counted a info tables rs records s
      ∙ last_ends (found_units s) n (found_place s n) (kept_unit s n within).is_place
      (omega (arith, units_counted s))

  pub units_rise : IsNonDecreasingBy (λ (u : UnitRecord). u.first) rs
  units_rise i j d le lt = search (rules, kept_first, slice_get-get_or, place_of, count_rises)

  pub few_records : length rs ≤ length info
  few_records =
      omega (
        arith,
        units_counted s,
        few_units a (found_units s) s.1.spells.are,
        ap length s.1.spells.parts,
        length-drop base info,
      )

  module _ (id : ℕ) (within : id < length (entries_of (found_units s))) (n : ℕ)
      (point : IsPartitionPoint (λ (u : UnitRecord). u.first ≤ id) (λ (u : UnitRecord). id < u.first) rs n) where
    -- an entry is of a unit
    pub some_unit : 0 < length rs
    some_unit =
        let k = kept_entry s id within in search (rules, slice_get_within)

    -- the first unit begins with the first entry
    pub some_before : 0 < n
    some_before = elim (three_ways n 0) [
      | inl (inl less) ↦ omega arith
      | inl (inr same) ↦
          elim (slice_get_cases rs 0).1 [
            | inl it ↦
                let (is_p, first) = kept_first 0 it.0 it.2 in
                let begins = least (found_place s 0) is_p in
                let P : UnitRecord → Type 0 = λ u. id < u.first in
                let above : id < it.0.first = search rules in
                absurd (omega arith)
            | inr it ↦ (let past = it.0 in absurd (omega (arith, some_unit)))
          ]
      | inr more ↦ more
    ]
      where
        least : (p : PlacedUnit) → slice_get (placed (found_units s)) 0 ≡ Some p → p.first ≡ 0
        least p is = search (rules)

    pub point_within : n ≤ length rs → n - 1 < length rs
    point_within le = omega (arith, some_before)

    -- the last unit that begins with this entry or an earlier one has it
    pub unit_found : n ≤ length rs → n - 1 ≡ (found_entry s id).unit
    unit_found le =
        let k = kept_entry s id within in
        let u = get_or rs (n - 1) k.unit_record in
        let p = found_place s (n - 1) in
        let (is_p, first) = kept_first (n - 1) u (slice_get-get_or rs (n - 1) k.unit_record (point_within le)) in
        let low : u.first ≤ id = search (rules, some_before) in
        sym (unit_in_range (found_units s) (n - 1) p id (found_entry s id) is_p k.is_entry (omega arith)
        (high p is_p))
      where
        behind : n ≡ suc (n - 1)
        behind = omega (arith, some_before)

        high : (p : PlacedUnit) → slice_get (placed (found_units s)) (n - 1) ≡ Some p
            → id < p.first + node_count p.unit.root
        high p is_p =
            elim (slice_get_cases rs n).1 [
              | inl it ↦
                  let Q : UnitRecord → Type 0 = λ v. id < v.first in
                  let above : id < it.0.first = search rules in
                  let (is_q, first) = kept_first n it.0 it.2 in
                  let next = next_first (found_units s) (n - 1) p (found_place s n) is_p (rw (← behind) is_q) in
                  omega arith
              | inr it ↦
                  let past = it.0 in
                  let counted = units_counted s in
                  let all = last_ends (found_units s) (n - 1) p is_p (omega (arith, past, le, behind, counted)) in
                  omega arith
            ]

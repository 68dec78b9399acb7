-- The header and the first entry of a unit with a number.
use Rattle.std.proofs.Common.{◌≡◌, ℕ, zero, suc, ◌+◌, ◌<◌, ◌≤◌, List, [], ◌∷◌, length, Option, Some, None, sym, ap}
use Rattle.std.proofs.Common.{length-append, subst, ◌∙◌, arith}
use Rattle.std.proofs.Common.{inl, inr}
use Rattle.std.specs.Prelude.{slice_get}
use Rattle.std.proofs.lemmas.Option.{slice_get_within, slice_get-get_or}
use Rattle.dw_entries.specs.declared.entries.Entries.{Entries}
use Rattle.dw_entries.specs.ByNumber.{end_in, no_placed, no_unit, placed_of, unit_of, Entry, PlacedUnit, node_count}
use Rattle.dw_entries.specs.Header.{IsSize, unit_header_size}
use Rattle.dw_entries.specs.Tree.{Node, leaf, parent}
use Rattle.dw_entries.specs.Units.{DebugUnit, unit_bytes}
use Rattle.dw_entries.specs.Views.{all_entries, all_units, units_of, placed}
use Rattle.dw_entries.proofs.EntryFacts.{first_entry, length-node_entries, length-placed, unit_placed, entries_from, node_entries, placed_from, start_of}
use Rattle.dw_entries.proofs.Firsts.{same_some}
use Rattle.dw_entries.proofs.HeadLaws.{all_get, unit_sized}
use Rattle.dw_ranges.specs.EntryRanges.{head_in}

-- a unit has an entry
node_some : (n : Node) → 0 < node_count n
node_some (leaf h) = omega arith
node_some (parent h ns z) = omega arith

-- no unit ends after the last entry
ends_from : (unit id at : ℕ) (us : List DebugUnit) (n : ℕ) (p : PlacedUnit)
    → slice_get (placed_from at id us) n ≡ Some p
    → p.first + node_count p.unit.root ≤ id + length (entries_from unit id at us)
ends_from unit id at [] n p is = absurd cc
ends_from unit id at (u ∷ us) zero p is =
    let es : List Entry = node_entries unit None 0 None id (at + unit_header_size u.header.kind) u.root in
    let fs : List Entry = entries_from (suc unit) (id + node_count u.root) (at + length (unit_bytes u)) us in
    let count = length-node_entries unit None 0 None id (at + unit_header_size u.header.kind) u.root in
    let some : ◌≡◌ {A = Option PlacedUnit} (Some (record { at = at; first = id; unit = u })) (Some p) = is in
    let same : ◌≡◌ {A = PlacedUnit} (record { at = at; first = id; unit = u }) p = cc in
    subst (λ (q : PlacedUnit). q.first + node_count q.unit.root ≤ id + length (entries_from unit id at (u ∷ us))) same
    (omega (arith, count, length-append es fs))
ends_from unit id at (u ∷ us) (suc n) p is =
    let es : List Entry = node_entries unit None 0 None id (at + unit_header_size u.header.kind) u.root in
    let fs : List Entry = entries_from (suc unit) (id + node_count u.root) (at + length (unit_bytes u)) us in
    let count = length-node_entries unit None 0 None id (at + unit_header_size u.header.kind) u.root in
    let more = ends_from (suc unit) (id + node_count u.root) (at + length (unit_bytes u)) us n p is in
    omega (arith, count, more, length-append es fs)

module _ (entries : Entries) (number : ℕ) (below : number < length (units_of entries)) where
  unit_there : slice_get (all_units entries) number ≡ Some (placed_of (all_units entries) number)
  unit_there =
      slice_get-get_or (all_units entries) number no_placed
      (omega (arith, below, length-placed (units_of entries)))

  -- its first entry is there
  pub first_within : (head_in entries number).first < length (all_entries entries)
  first_within =
      let p = placed_of (all_units entries) number in
      let has = first_entry (units_of entries) number p unit_there in
      slice_get_within (all_entries entries) p.first has.entry has.is_entry

  -- an address of the unit has 4 bytes or 8
  pub is_size : IsSize (head_in entries number).header.address_size
  is_size =
      let us = units_of entries in
      let u = unit_of us number in
      let is_u = slice_get-get_or us number no_unit below in
      let (q, is_q, same) = unit_placed us number u is_u in
      let one : q ≡ placed_of (all_units entries) number =
      same_some (slice_get (placed us) number) q (placed_of (all_units entries) number) is_q unit_there in
      let unit : u ≡ (placed_of (all_units entries) number).unit =
      sym same ∙ ap (λ (x : PlacedUnit). x.unit) one in
      let P : DebugUnit → Type 0 = λ x. IsSize x.header.address_size in
      subst P unit (unit_sized _ u (all_get _ us number u entries.scanned.1.spells.are is_u)).size

  -- an address has a byte at least, and 8 at most
  pub size_some : 1 ≤ (head_in entries number).header.address_size
  size_some = elim is_size [ inl four ↦ omega (arith, four) | inr eight ↦ omega (arith, eight) ]

  pub size_few : (head_in entries number).header.address_size ≤ 8
  size_few = elim is_size [ inl four ↦ omega (arith, four) | inr eight ↦ omega (arith, eight) ]

  -- it has an entry, and all of them are among those of the file
  pub some_entries : (placed_of (all_units entries) number).first < end_in (all_units entries) number
  some_entries = omega (arith, node_some (placed_of (all_units entries) number).unit.root)

  pub entries_within : end_in (all_units entries) number ≤ length (all_entries entries)
  entries_within =
      omega (
        arith,
        ends_from 0 0 (start_of (units_of entries)) (units_of entries) number
            (placed_of (all_units entries) number) unit_there,
      )

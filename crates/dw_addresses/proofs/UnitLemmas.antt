-- The header and the first entry of a unit with a number.
use Rattle.std.proofs.Common.{◌≡◌, ℕ, ◌<◌, length, Some, sym, ap, subst, ◌∙◌, arith}
use Rattle.std.specs.Prelude.{slice_get}
use Rattle.std.proofs.lemmas.Option.{slice_get_within, slice_get-get_or}
use Rattle.dw_entries.specs.declared.entries.Entries.{Entries}
use Rattle.dw_entries.specs.ByNumber.{no_placed, no_unit, placed_of, unit_of, PlacedUnit}
use Rattle.dw_entries.specs.Header.{IsSize}
use Rattle.dw_entries.specs.Units.{DebugUnit}
use Rattle.dw_entries.specs.Views.{all_entries, all_units, units_of, placed}
use Rattle.dw_entries.proofs.EntryFacts.{length-placed, unit_placed, first_entry}
use Rattle.dw_entries.proofs.Firsts.{same_some}
use Rattle.dw_entries.proofs.HeadLaws.{all_get, unit_sized}
use Rattle.dw_ranges.specs.EntryRanges.{head_in}
use Rattle.dw_addresses.specs.Reading.{IsOne}
use Rattle.dw_addresses.specs.declared.named.Named.{Named}

module _ (entries : Entries) (number : ℕ) (below : number < length (units_of entries)) where
  unit_there : slice_get (all_units entries) number ≡ Some (placed_of (all_units entries) number)
  unit_there =
      slice_get-get_or (all_units entries) number no_placed
      (omega (arith, below, length-placed (units_of entries)))

  -- its first entry is there
  pub first_within : (head_in entries number).first < length (all_entries entries)
  first_within =
      let p = placed_of (all_units entries) number in
      let has = first_entry (units_of entries) number p unit_there in
      slice_get_within (all_entries entries) p.first has.entry has.is_entry

  -- an address of the unit has 4 bytes or 8
  pub is_size : IsSize (head_in entries number).header.address_size
  is_size =
      let us = units_of entries in
      let u = unit_of us number in
      let is_u = slice_get-get_or us number no_unit below in
      let (q, is_q, same) = unit_placed us number u is_u in
      let one : q ≡ placed_of (all_units entries) number =
      same_some (slice_get (placed us) number) q (placed_of (all_units entries) number) is_q unit_there in
      let unit : u ≡ (placed_of (all_units entries) number).unit =
      sym same ∙ ap (λ (x : PlacedUnit). x.unit) one in
      let P : DebugUnit → Type 0 = λ x. IsSize x.header.address_size in
      subst P unit (unit_sized _ u (all_get _ us number u entries.scanned.1.spells.are is_u)).size

-- the same of a program that a unit names
pub size_named : (entries : Entries) (one : Named) → IsOne entries one → IsSize one.size
size_named entries one n = subst IsSize n.sized (is_size entries one.unit n.within)

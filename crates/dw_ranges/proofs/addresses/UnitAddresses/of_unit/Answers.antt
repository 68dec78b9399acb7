use Rattle.std.proofs.Common.{length, ◌≤◌, ◌<◌, sym, subst}
use Rattle.dw_entries.specs.Views.{all_entries}
use Rattle.dw_entries.specs.declared.units.UnitHead.{UnitHead}
use Rattle.dw_ranges.proofs.UnitLemmas.{first_within, size_some, size_few}
use Rattle.dw_ranges.proofs.addresses.UnitAddresses.of_unit.Goals as goal

pub at-first-requires : goal.at-first-requires
at-first-requires c =
    subst (λ (u : UnitHead). u.first < length (all_entries c.args.entries.now)) (sym c.unit-unit.ensures)
    (first_within c.args.entries.now c.args.number c.requires)

pub base_of-requires-clause-some : goal.base_of-requires-clause-some
base_of-requires-clause-some c =
    subst (λ (u : UnitHead). 1 ≤ u.header.address_size) (sym c.unit-unit.ensures)
    (size_some c.args.entries.now c.args.number c.requires)

pub base_of-requires-clause-few : goal.base_of-requires-clause-few
base_of-requires-clause-few c =
    subst (λ (u : UnitHead). u.header.address_size ≤ 8) (sym c.unit-unit.ensures)
    (size_few c.args.entries.now c.args.number c.requires)

pub invariant_of-result : goal.invariant_of-result
invariant_of-result c = record {
  some = subst (λ (u : UnitHead). 1 ≤ u.header.address_size) (sym c.unit-unit.ensures)
      (size_some c.args.entries.now c.args.number c.requires);
  few = subst (λ (u : UnitHead). u.header.address_size ≤ 8) (sym c.unit-unit.ensures)
      (size_few c.args.entries.now c.args.number c.requires);
}

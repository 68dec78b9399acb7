use Rattle.std.proofs.Common.{length, ◌<◌, sym, subst}
use Rattle.dw_entries.specs.Views.{all_entries}
use Rattle.dw_entries.specs.declared.units.UnitHead.{UnitHead}
use Rattle.dw_addresses.proofs.UnitLemmas.{first_within}
use Rattle.dw_addresses.proofs.named.named_by.Goals as goal

pub value-requires : goal.value-requires
value-requires c =
    subst (λ (u : UnitHead). u.first < length (all_entries c.args.entries.now)) (sym c.unit-unit.ensures)
    (first_within c.args.entries.now c.args.number c.requires)

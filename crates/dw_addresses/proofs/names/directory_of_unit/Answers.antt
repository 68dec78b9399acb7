use Rattle.std.proofs.Common.{length, ◌<◌, sym, subst}
use Rattle.dw_entries.specs.Views.{all_entries}
use Rattle.dw_entries.specs.declared.units.UnitHead.{UnitHead}
use Rattle.dw_addresses.proofs.UnitLemmas.{first_within}
use Rattle.dw_addresses.proofs.names.directory_of_unit.Goals as goal

pub text-requires-clause-id : goal.text-requires-clause-id
text-requires-clause-id c =
    subst (λ (u : UnitHead). u.first < length (all_entries c.args.entries.now)) (sym c.unit.ensures)
    (first_within c.args.entries.now c.args.unit c.requires.unit)

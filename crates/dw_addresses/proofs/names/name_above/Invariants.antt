use Rattle.std.proofs.Common.{◌≡◌, ◌-◌, ◌<◌, length}
use Rattle.dw_entries.specs.Views.{all_entries}
use Rattle.dw_addresses.specs.Names.{most_origins, name_above}
use Rattle.dw_addresses.proofs.names.name_above.Given as goal

abbrev pub invariant-loop-step : goal.invariant-loop-step
invariant-loop-step l =
    (l.at < length (all_entries l.entries))
    × (name_above l.entries l.attribute most_origins l.fn.id
    ≡ name_above l.entries l.attribute (most_origins - l._step) l.at)

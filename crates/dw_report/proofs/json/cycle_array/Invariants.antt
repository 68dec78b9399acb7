use Rattle.std.proofs.Common.{◌≡◌, map, take}
use Rattle.serde_json.specs.View.{view}
use Rattle.dw_report.specs.JsonObjects.{whole_object}
use Rattle.dw_report.proofs.json.cycle_array.Given as goal

abbrev pub invariant-loop-offset : goal.invariant-loop-offset
invariant-loop-offset l = map view l.items.items ≡ map whole_object (take l.offset-index l.offsets)

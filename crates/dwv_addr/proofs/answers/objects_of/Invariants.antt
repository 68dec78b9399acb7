use Rattle.std.proofs.Common.{◌≡◌, map, take}
use Rattle.serde_json.specs.View.{view}
use Rattle.dwv_addr.specs.Located.{object_at}
use Rattle.dwv_addr.proofs.answers.objects_of.Given as goal

abbrev pub invariant-loop-frame : goal.invariant-loop-frame
invariant-loop-frame l =
    map view l.values.items
    ≡ map (object_at l.known l.unit) (take l.frame-index l.frames)

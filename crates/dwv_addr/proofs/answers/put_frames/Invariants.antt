use Rattle.std.proofs.Common.{◌≡◌, ◌++◌, take}
use Rattle.std.specs.List.{flat_map}
use Rattle.dwv_addr.specs.Located.{lines_at}
use Rattle.dwv_addr.proofs.answers.put_frames.Given as goal

abbrev pub invariant-loop-frame : goal.invariant-loop-frame
invariant-loop-frame l =
    l.text.items
    ≡ l.fn.text.items
    ++ flat_map (lines_at l.known l.unit) (take l.frame-index l.frames)

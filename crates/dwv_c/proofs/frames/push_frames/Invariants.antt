use Rattle.std.proofs.Common.{◌≡◌, ◌++◌, length, map, take}
use Rattle.dwv_c.specs.Frames.{frame_rows, of_unit, texts_of}
use Rattle.dwv_c.proofs.frames.push_frames.Given as goal

abbrev pub invariant-loop-frame : goal.invariant-loop-frame
invariant-loop-frame l =
    (l.rows.items ≡ l.fn.rows.items
    ++ frame_rows l.known (length l.fn.text.items) (map (of_unit l.unit) (take l.frame-index l.frames)))
    × (l.text.items ≡ l.fn.text.items ++ texts_of l.known (map (of_unit l.unit) (take l.frame-index l.frames)))

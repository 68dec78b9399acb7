use Rattle.std.proofs.Common.{◌≡◌, ◌++◌, take}
use Rattle.std.specs.List.{enumerate_from, flat_map}
use Rattle.dw_image.specs.Images.{entries_in}
use Rattle.dw_report.specs.Shown.{entry_line}
use Rattle.dw_report.proofs.shown.put_show_lines.Given as goal

abbrev pub invariant-loop-number : goal.invariant-loop-number
invariant-loop-number l =
    l.text.items ≡ l.fn.text.items
    ++ flat_map (entry_line l.image) (take l.number (enumerate_from 0 (entries_in l.image)))

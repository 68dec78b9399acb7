use Rattle.std.proofs.Common.{◌≡◌, ◌++◌, length}
use Rattle.std.specs.List.{flat_map}
use Rattle.dwv_addr.specs.Answers.{glyph}
use Rattle.dwv_addr.proofs.lines.put_glyphs.Given as goal

abbrev pub invariant-loop-at : goal.invariant-loop-at
invariant-loop-at l = l.text.items ++ flat_map glyph l.rest ≡ l.fn.text.items ++ flat_map glyph l.bytes

abbrev pub decreases-loop-at : goal.decreases-loop-at
decreases-loop-at l = length l.rest

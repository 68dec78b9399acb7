use Rattle.std.proofs.Common.{◌≡◌, ◌-◌, ◌≤◌, length, take}
use Rattle.std.specs.Io.KnownBytes.{Appends}
use Rattle.dw_io.proofs.transfer.write_all.Given as goal

abbrev pub invariant-writes : goal.invariant-writes
invariant-writes g l =
    (l.taken ≤ length l.text)
    × (g.W.Sink.failures l.writer ≡ g.W.Sink.failures l.fn.writer)
    × Appends (g.W.Sink.contents l.fn.writer) (g.W.Sink.contents l.writer) (take l.taken l.text)

abbrev pub decreases-writes : goal.decreases-writes
decreases-writes g l = length l.text - l.taken

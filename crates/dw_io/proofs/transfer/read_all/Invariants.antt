use Rattle.std.proofs.Common.{◌≡◌, ◌+◌, ◌-◌, ◌≤◌, vec_len, length}
use Rattle.std.specs.Io.KnownBytes.{Consumes}
use Rattle.dw_io.proofs.transfer.read_all.Given as goal

abbrev pub invariant-chunks : goal.invariant-chunks
invariant-chunks g l =
    (vec_len l.given ≤ l.limit + 1)
    × (length l.chunk ≡ 65536)
    × (g.R.Source.failures l.reader ≡ g.R.Source.failures l.fn.reader)
    × Consumes (g.R.Source.remaining l.fn.reader) (g.R.Source.remaining l.reader) l.given.items

abbrev pub decreases-chunks : goal.decreases-chunks
decreases-chunks g l = l.limit + 1 - vec_len l.given

use Rattle.std.proofs.Common.{◌≡◌, length}
use Rattle.dwv_addr.proofs.TakenLemmas.{IsAnswering}
use Rattle.dwv_addr.proofs.stream.answer_lines.Given as goal

abbrev pub invariant-reads : goal.invariant-reads
invariant-reads g l =
    (length l.chunk ≡ 65536)
    × (g.I.Source.failures l.input ≡ g.I.Source.failures l.fn.input)
    × (g.W.Sink.failures l.writer ≡ g.W.Sink.failures l.fn.writer)
    × IsAnswering l.json l.known g.W.Sink.contents (g.I.Source.remaining l.fn.input) (g.I.Source.remaining l.input)
    l.fn.writer l.writer l.started.items l.are

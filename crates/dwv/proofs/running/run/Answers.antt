use Rattle.dwv.proofs.ReportLemmas.{written-of_given, cut-of_given}
use Rattle.dwv.proofs.running.run.Goals as goal

pub returns-clause-written : goal.returns-clause-written
returns-clause-written g c =
    let kept = c.run_with.new.kept in
    let is = c.run_with.ensures in
    written-of_given c.args.request (g.R.Source.remaining c.args.reader.now) kept.ended kept.given.items kept.text.items
    (g.W.Sink.contents c.args.writer.now) (g.W.Sink.contents c.run_with.new.writer) c.run_with.result is.given
    is.reported is.written

pub returns-clause-write_failed : goal.returns-clause-write_failed
returns-clause-write_failed g c = λ failed.
    let kept = c.run_with.new.kept in
    cut-of_given c.args.request (g.R.Source.remaining c.args.reader.now) kept.ended kept.given.items kept.text.items
    (g.W.Sink.contents c.args.writer.now) (g.W.Sink.contents c.run_with.new.writer) kept.taken
    (c.run_with.ensures.write_failed failed)

use Rattle.std.proofs.Common.{rules, ◌≡◌, ◌<◌, length, refl, ap, ◌∙◌, subst, arith}
use Rattle.std.proofs.lemmas.Grind.{common_steps}
use Rattle.std.proofs.lemmas.Option.{IfSome_then}
use Rattle.std.specs.List.{list_all}
use Rattle.std.specs.Option.{is_some}
use Rattle.dwv_addr.specs.Addresses.{asked_by}
use Rattle.dwv_addr.specs.Reports.{status_if}
use Rattle.dwv_addr.specs.Streams.{TakesAnswers, TakesSome}
use Rattle.dwv_addr.proofs.StreamLemmas.{none_in_started}
use Rattle.dwv_addr.proofs.TakenLemmas.{answered_all, answered_cut, answering_cut, answering_first, answering_more}
use Rattle.dwv_addr.proofs.stream.answer_lines.Goals as goal

pub reads-init : goal.reads-init
reads-init g c = (
  refl,
  refl,
  refl,
  answering_first c.args.json c.args.known.now g.W.Sink.contents (g.I.Source.remaining c.args.input.now)
      c.args.writer.now c.new-started.result.items c.new-started.ensures.items,
)

pub take_piece-requires-clause-started : goal.take_piece-requires-clause-started
take_piece-requires-clause-started g c =
    let (_, _, _, (has, line, _)) = c.reads.invariant in none_in_started has.part c.reads.started.items line

pub reads-preserved : goal.reads-preserved
reads-preserved g c =
    let (size, reads, writes, answering) = c.reads.invariant in
    let is = c.in_ok-are-in-Ok.ensures in (
      grind (arith, common_steps),
      c.in-Ok.ensures.counted ∙ reads,
      is.written.2 ∙ writes,
      answering_more c.args.json c.args.known.now g.W.Sink.contents (g.I.Source.remaining c.args.input.now)
          (g.I.Source.remaining c.reads.input) (g.I.Source.remaining c.read.new.self) c.args.writer.now c.reads.writer
          c.take_piece.new.writer c.reads.started.items _ c.take_piece.new.started.items c.reads.are _ answering
          c.in-Ok.ensures.bytes.0 is.written.0 is.written.1 is.left is.are,
    )

pub returns-in_err-are-in-Ok-clause-write_failed : goal.returns-in_err-are-in-Ok-clause-write_failed
returns-in_err-are-in-Ok-clause-write_failed g c = λ is.
    let (size, reads, writes, answering) = c.reads.invariant in
    answering_cut c.args.json c.args.known.now g.W.Sink.contents (g.I.Source.remaining c.args.input.now)
    (g.I.Source.remaining c.reads.input) (g.I.Source.remaining c.read.new.self) c.args.writer.now c.reads.writer
    (g.W.Sink.contents c.take_piece.new.writer) c.reads.started.items _ c.reads.are answering
    c.in-Ok.ensures.bytes.0 (c.in_err-are-in-Ok.ensures.write_failed (search (rules, is)))

pub returns-in_err-are-in-Ok-eq0-clause-write_failed : goal.returns-in_err-are-in-Ok-eq0-clause-write_failed
returns-in_err-are-in-Ok-eq0-clause-write_failed g c = λ is.
    let (size, reads, writes, answering) = c.reads.invariant in
    let zero : c.in-Ok-eq0.field-0 ≡ 0 = c.in-Ok-eq0.field-0-test in
    let room : 0 < length c.read.new.buf = grind (arith, common_steps) in
    let bytes = c.in-Ok-eq0.ensures.bytes in
    answered_cut c.args.json c.args.known.now g.W.Sink.contents (g.I.Source.remaining c.args.input.now)
    (g.I.Source.remaining c.reads.input) (g.I.Source.remaining c.read.new.self) c.args.writer.now c.reads.writer
    (g.W.Sink.contents c.write_answers.new.writer) c.reads.started.items c.read.new.buf c.in-Ok-eq0.field-0 c.reads.are
    zero answering bytes.0 (bytes.1 zero room)
    (subst (λ lines. TakesSome c.args.json c.args.known.now (asked_by lines) (g.W.Sink.contents c.reads.writer)
    (g.W.Sink.contents c.write_answers.new.writer)) c.as_slice-lines.ensures.value
    (c.in_err-are-in-Ok-eq0.ensures.write_failed (search (rules, is))))

pub returns-in-Ok-eq0-clause-written : goal.returns-in-Ok-eq0-clause-written
returns-in-Ok-eq0-clause-written g c =
    let (size, reads, writes, answering) = c.reads.invariant in
    let zero : c.in-Ok-eq0.field-0 ≡ 0 = c.in-Ok-eq0.field-0-test in
    let room : 0 < length c.read.new.buf = grind (arith, common_steps) in
    let bytes = c.in-Ok-eq0.ensures.bytes in
    let is = c.in_ok-are-in-Ok-eq0.ensures in
    let input = g.I.Source.remaining c.args.input.now in
    let all = answered_all c.args.json c.args.known.now g.W.Sink.contents input
    (g.I.Source.remaining c.reads.input) (g.I.Source.remaining c.read.new.self) c.args.writer.now c.reads.writer
    (g.W.Sink.contents c.write_answers.new.writer) c.reads.started.items c.read.new.buf c.in-Ok-eq0.field-0 c.reads.are
    c.in_ok-are-in-Ok-eq0.field-0 zero answering bytes.0 (bytes.1 zero room)
    (subst (λ lines. TakesAnswers c.args.json c.args.known.now (asked_by lines) (g.W.Sink.contents c.reads.writer)
    (g.W.Sink.contents c.write_answers.new.writer)) c.as_slice-lines.ensures.value is.written)
    (subst (λ lines. c.in_ok-are-in-Ok-eq0.field-0 ≡ list_all is_some (asked_by lines)) c.as_slice-lines.ensures.value
    is.are) in
    IfSome_then input all (λ text known. (c.status_of.ensures ∙ ap status_if known.0, known.1))

use Rattle.std.proofs.Common.{◌<◌, ◌≤◌, length, inr, sym, subst}
use Rattle.std.proofs.lemmas.Option.{IfSome_then}
use Rattle.std.proofs.lemmas.Result.{IfOk-weaker}
use Rattle.dw_forms.specs.declared.fault.Stop.TheVariants as stops
use Rattle.dwv_addr.specs.Addresses.{asked_by}
use Rattle.dwv_addr.specs.Runs.{WritesReport}
use Rattle.dwv_addr.specs.declared.request.Request.TheVariants.{Find}
use Rattle.dwv_addr.proofs.AnswerLemmas.{answers_reported, fault_cut, fault_written, first_reported, reported_large, reported_within, taken_reported}
use Rattle.dwv_addr.proofs.stream.answer_input.Goals as goal

pub returns-then-bytes-longest_file-clause-written : goal.returns-then-bytes-longest_file-clause-written
returns-then-bytes-longest_file-clause-written g c =
    let lt = subst (λ limit. limit < length c.args.bytes.now) c.longest_file.ensures c.if-bytes-longest_file.true in
    fault_written c.args.json c.args.bytes.now c.write_stop.result (stops.Fault c.fault_of_size.result)
    (g.I.Source.remaining c.args.input.now) (g.W.Sink.contents c.args.writer.now)
    (g.W.Sink.contents c.write_stop.new.writer)
    (reported_large c.args.json c.args.bytes.now c.fault_of_size.result lt c.fault_of_size.ensures)
    c.write_stop.ensures.written

pub returns-then-bytes-longest_file-clause-write_failed : goal.returns-then-bytes-longest_file-clause-write_failed
returns-then-bytes-longest_file-clause-write_failed g c = λ is.
    let lt = subst (λ limit. limit < length c.args.bytes.now) c.longest_file.ensures c.if-bytes-longest_file.true in
    fault_cut c.args.json c.args.bytes.now (stops.Fault c.fault_of_size.result)
    (g.I.Source.remaining c.args.input.now) (g.W.Sink.contents c.args.writer.now)
    (g.W.Sink.contents c.write_stop.new.writer)
    (reported_large c.args.json c.args.bytes.now c.fault_of_size.result lt c.fault_of_size.ensures)
    (c.write_stop.ensures.write_failed is)

pub returns-in-Err-clause-written : goal.returns-in-Err-clause-written
returns-in-Err-clause-written g c =
    let le = subst (λ limit. length c.args.bytes.now ≤ limit) c.longest_file.ensures c.if-bytes-longest_file.false in
    fault_written c.args.json c.args.bytes.now c.write_stop-in-Err.result c.in-Err.stop
    (g.I.Source.remaining c.args.input.now) (g.W.Sink.contents c.args.writer.now)
    (g.W.Sink.contents c.write_stop-in-Err.new.writer)
    (reported_within c.args.json c.args.bytes.now c.in-Err.stop le c.in-Err.ensures.fault)
    c.write_stop-in-Err.ensures.written

pub returns-in-Err-clause-write_failed : goal.returns-in-Err-clause-write_failed
returns-in-Err-clause-write_failed g c = λ is.
    let le = subst (λ limit. length c.args.bytes.now ≤ limit) c.longest_file.ensures c.if-bytes-longest_file.false in
    fault_cut c.args.json c.args.bytes.now c.in-Err.stop
    (g.I.Source.remaining c.args.input.now) (g.W.Sink.contents c.args.writer.now)
    (g.W.Sink.contents c.write_stop-in-Err.new.writer)
    (reported_within c.args.json c.args.bytes.now c.in-Err.stop le c.in-Err.ensures.fault)
    (c.write_stop-in-Err.ensures.write_failed is)

pub returns-in-Err-look_up-clause-written : goal.returns-in-Err-look_up-clause-written
returns-in-Err-look_up-clause-written g c =
    let le = subst (λ limit. length c.args.bytes.now ≤ limit) c.longest_file.ensures c.if-bytes-longest_file.false in
    fault_written c.args.json c.args.bytes.now c.write_stop-in-Err-look_up.result c.in-Err-look_up.stop
    (g.I.Source.remaining c.args.input.now) (g.W.Sink.contents c.args.writer.now)
    (g.W.Sink.contents c.write_stop-in-Err-look_up.new.writer)
    (reported_within c.args.json c.args.bytes.now c.in-Err-look_up.stop le
    (c.in-Err-look_up.ensures.fault c.args.bytes.now c.in-Ok.ensures.sources))
    c.write_stop-in-Err-look_up.ensures.written

pub returns-in-Err-look_up-clause-write_failed : goal.returns-in-Err-look_up-clause-write_failed
returns-in-Err-look_up-clause-write_failed g c = λ is.
    let le = subst (λ limit. length c.args.bytes.now ≤ limit) c.longest_file.ensures c.if-bytes-longest_file.false in
    fault_cut c.args.json c.args.bytes.now c.in-Err-look_up.stop
    (g.I.Source.remaining c.args.input.now) (g.W.Sink.contents c.args.writer.now)
    (g.W.Sink.contents c.write_stop-in-Err-look_up.new.writer)
    (reported_within c.args.json c.args.bytes.now c.in-Err-look_up.stop le
    (c.in-Err-look_up.ensures.fault c.args.bytes.now c.in-Ok.ensures.sources))
    (c.write_stop-in-Err-look_up.ensures.write_failed is)

pub returns-clause-written : goal.returns-clause-written
returns-clause-written g c =
    let le = subst (λ limit. length c.args.bytes.now ≤ limit) c.longest_file.ensures c.if-bytes-longest_file.false in
    let is = c.in-Ok-look_up.ensures.known c.args.bytes.now c.in-Ok.ensures.sources in
    let old = g.W.Sink.contents c.args.writer.now in
    let new = g.W.Sink.contents c.answer_lines.new.writer in
    let input = g.I.Source.remaining c.args.input.now in
    IfOk-weaker c.answer_lines.result _ _
    (λ status known. IfSome_then input known (λ text it.
    subst (λ s. WritesReport (Find c.args.json) s old new c.args.bytes.now (asked_by text)) (sym it.0)
    (answers_reported c.args.json c.args.bytes.now c.in-Ok-look_up.known is le (asked_by text) old new it.1)))
    c.answer_lines.ensures.written

pub returns-clause-read_failed : goal.returns-clause-read_failed
returns-clause-read_failed g c = λ failed.
    let le = subst (λ limit. length c.args.bytes.now ≤ limit) c.longest_file.ensures c.if-bytes-longest_file.false in
    let is = c.in-Ok-look_up.ensures.known c.args.bytes.now c.in-Ok.ensures.sources in
    taken_reported c.args.json c.args.bytes.now c.in-Ok-look_up.known is le g.W.Sink.contents
    (g.I.Source.remaining c.args.input.now) (g.I.Source.remaining c.answer_lines.new.input) c.args.writer.now
    c.answer_lines.new.writer (c.answer_lines.ensures.read_failed failed)

pub returns-clause-memory : goal.returns-clause-memory
returns-clause-memory g c = λ failed.
    let le = subst (λ limit. length c.args.bytes.now ≤ limit) c.longest_file.ensures c.if-bytes-longest_file.false in
    let is = c.in-Ok-look_up.ensures.known c.args.bytes.now c.in-Ok.ensures.sources in
    let (rest, has) = c.answer_lines.ensures.memory failed in
    inr (
      rest,
      taken_reported c.args.json c.args.bytes.now c.in-Ok-look_up.known is le g.W.Sink.contents
          (g.I.Source.remaining c.args.input.now) rest c.args.writer.now c.answer_lines.new.writer has,
    )

pub returns-clause-write_failed : goal.returns-clause-write_failed
returns-clause-write_failed g c = λ failed.
    let le = subst (λ limit. length c.args.bytes.now ≤ limit) c.longest_file.ensures c.if-bytes-longest_file.false in
    let is = c.in-Ok-look_up.ensures.known c.args.bytes.now c.in-Ok.ensures.sources in
    let old = g.W.Sink.contents c.args.writer.now in
    let new = g.W.Sink.contents c.answer_lines.new.writer in
    IfSome_then (g.I.Source.remaining c.args.input.now) (c.answer_lines.ensures.write_failed failed)
    (λ text it. first_reported c.args.json c.args.bytes.now c.in-Ok-look_up.known is le text old new it)

use Rattle.std.proofs.Common.{◌≡◌, ◌+◌, sym, subst, take}
use Rattle.std.specs.Prelude.{IfOk, IfSome}
use Rattle.dwv_addr.specs.Endings.{asked_from}
use Rattle.dwv_addr.specs.Runs.{IfKnown, IsCut, IsStopped, WritesReport}
use Rattle.dwv_addr.proofs.RunLemmas.{cut_of_read, stopped_of_read, written_of_read}
use Rattle.dwv_addr.proofs.running.run.Goals as goal

pub returns-clause-written : goal.returns-clause-written
returns-clause-written g c =
    let file = g.R.Source.remaining c.args.reader.now in
    let input = g.I.Source.remaining c.args.input.now in
    let old = g.W.Sink.contents c.args.writer.now in
    let new = g.W.Sink.contents c.handle.new.writer in
    let read = subst (λ limit. IfSome file (λ all. c.in_ok-file.file.items ≡ take (limit + 1) all))
    c.longest_file-limit.ensures c.in_ok-file.ensures.read in
    subst (λ given. IfOk c.handle.result (λ status. IfKnown file (asked_from c.args.request given input)
    (WritesReport c.args.request status old new))) c.as_slice-asked.ensures.value
    (written_of_read g.W.Sink.contents c.args.request c.as_slice-asked.result.now c.as_slice-bytes.result.now input
    c.args.writer.now c.handle.new.writer file c.handle.result
    (subst (λ bytes. IfSome file (λ all. bytes ≡ take (4294967296 + 1) all)) (sym c.as_slice-bytes.ensures.value) read)
    c.handle.ensures.written)

pub returns-clause-read_failed : goal.returns-clause-read_failed
returns-clause-read_failed g c = λ failed.
    let file = g.R.Source.remaining c.args.reader.now in
    let input = g.I.Source.remaining c.args.input.now in
    let rest = g.I.Source.remaining c.handle.new.input in
    let read = subst (λ limit. IfSome file (λ all. c.in_ok-file.file.items ≡ take (limit + 1) all))
    c.longest_file-limit.ensures c.in_ok-file.ensures.read in
    subst (λ given. IsStopped g.W.Sink.contents c.args.request given file input rest c.args.writer.now
    c.handle.new.writer) c.as_slice-asked.ensures.value
    (stopped_of_read g.W.Sink.contents c.args.request c.as_slice-asked.result.now c.as_slice-bytes.result.now input
    c.args.writer.now c.handle.new.writer file rest
    (subst (λ bytes. IfSome file (λ all. bytes ≡ take (4294967296 + 1) all)) (sym c.as_slice-bytes.ensures.value) read)
    (c.handle.ensures.read_failed failed))

pub returns-clause-memory : goal.returns-clause-memory
returns-clause-memory g c = λ failed.
    let file = g.R.Source.remaining c.args.reader.now in
    let input = g.I.Source.remaining c.args.input.now in
    let read = subst (λ limit. IfSome file (λ all. c.in_ok-file.file.items ≡ take (limit + 1) all))
    c.longest_file-limit.ensures c.in_ok-file.ensures.read in
    let (rest, stopped) = c.handle.ensures.memory failed in (
      rest,
      subst (λ given. IsStopped g.W.Sink.contents c.args.request given file input rest c.args.writer.now
          c.handle.new.writer) c.as_slice-asked.ensures.value
          (stopped_of_read g.W.Sink.contents c.args.request c.as_slice-asked.result.now c.as_slice-bytes.result.now
          input c.args.writer.now c.handle.new.writer file rest
          (subst (λ bytes. IfSome file (λ all. bytes ≡ take (4294967296 + 1) all)) (sym c.as_slice-bytes.ensures.value)
          read) stopped),
    )

pub returns-clause-write_failed : goal.returns-clause-write_failed
returns-clause-write_failed g c = λ failed.
    let file = g.R.Source.remaining c.args.reader.now in
    let input = g.I.Source.remaining c.args.input.now in
    let read = subst (λ limit. IfSome file (λ all. c.in_ok-file.file.items ≡ take (limit + 1) all))
    c.longest_file-limit.ensures c.in_ok-file.ensures.read in
    subst (λ given. IsCut g.W.Sink.contents c.args.request given file input c.args.writer.now
    c.handle.new.writer) c.as_slice-asked.ensures.value
    (cut_of_read g.W.Sink.contents c.args.request c.as_slice-asked.result.now c.as_slice-bytes.result.now input
    c.args.writer.now c.handle.new.writer file
    (subst (λ bytes. IfSome file (λ all. bytes ≡ take (4294967296 + 1) all)) (sym c.as_slice-bytes.ensures.value) read)
    (c.handle.ensures.write_failed failed))

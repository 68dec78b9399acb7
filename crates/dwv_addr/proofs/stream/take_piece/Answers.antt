use Rattle.std.proofs.Common.{rules, ◌++◌, refl, sym, ap, ◌∙◌, subst, map}
use Rattle.std.specs.List.{list_all}
use Rattle.std.specs.Option.{is_some}
use Rattle.dwv_addr.specs.Addresses.{HasStarted, address_in}
use Rattle.dwv_addr.specs.Streams.{TakesAnswers, TakesSome}
use Rattle.dwv_addr.proofs.StreamLemmas.{none_ends, none_ends_after, piece_found, started_whole}
use Rattle.dwv_addr.proofs.TakenLemmas.{takes_none}
use Rattle.dwv_addr.proofs.stream.take_piece.Goals as goal

pub returns-in_default-clause-are : goal.returns-in_default-clause-are
returns-in_default-clause-are g c =
    let none = none_ends_after c.args.started.now.items c.args.piece.now c.requires.started
    (none_ends c.args.piece.now c.in_default.ensures) in
    sym (ap (λ lines. list_all is_some (map address_in lines)) none)

pub returns-in_default-clause-left : goal.returns-in_default-clause-left
returns-in_default-clause-left g c =
    let text = c.args.started.now.items ++ c.args.piece.now in
    let none = none_ends_after c.args.started.now.items c.args.piece.now c.requires.started
    (none_ends c.args.piece.now c.in_default.ensures) in
    subst (HasStarted text) (sym c.in_ok-extend_from_slice.ensures.items) (started_whole text none)

pub returns-in_default-clause-written : goal.returns-in_default-clause-written
returns-in_default-clause-written g c =
    let none = none_ends_after c.args.started.now.items c.args.piece.now c.requires.started
    (none_ends c.args.piece.now c.in_default.ensures) in
    let old = g.W.Sink.contents c.args.writer.now in (
      subst (λ lines. TakesAnswers c.args.json c.args.known.now (map address_in lines) old old) (sym none)
          (takes_none c.args.json c.args.known.now old),
      λ _. refl,
      refl,
    )

pub returns-in_err-are-clause-write_failed : goal.returns-in_err-are-clause-write_failed
returns-in_err-are-clause-write_failed g c = λ is.
    let found = piece_found c.args.started.now.items c.args.piece.now c.as_slice-lines.result.now
    c.new-next.result.items c.extend_from_slice-2.new.self.items c.in-Some.at c.in-Some.ensures.0.high
    c.in-Some.ensures.0.after c.in-Some.ensures.1
    (c.as_slice-lines.ensures.value ∙ c.in_ok-extend_from_slice-3.ensures.items)
    c.new-next.ensures.items c.in_ok-extend_from_slice-2.ensures.items in
    subst (λ asked. TakesSome c.args.json c.args.known.now asked (g.W.Sink.contents c.args.writer.now)
    (g.W.Sink.contents c.write_answers.new.writer)) found.0
    (c.in_err-are.ensures.write_failed (search (rules, is)))

pub returns-clause-are : goal.returns-clause-are
returns-clause-are g c =
    let found = piece_found c.args.started.now.items c.args.piece.now c.as_slice-lines.result.now
    c.new-next.result.items c.extend_from_slice-2.new.self.items c.in-Some.at c.in-Some.ensures.0.high
    c.in-Some.ensures.0.after c.in-Some.ensures.1
    (c.as_slice-lines.ensures.value ∙ c.in_ok-extend_from_slice-3.ensures.items)
    c.new-next.ensures.items c.in_ok-extend_from_slice-2.ensures.items in
    c.in_ok-are.ensures.are ∙ ap (list_all is_some) found.0

pub returns-clause-left : goal.returns-clause-left
returns-clause-left g c =
    let found = piece_found c.args.started.now.items c.args.piece.now c.as_slice-lines.result.now
    c.new-next.result.items c.extend_from_slice-2.new.self.items c.in-Some.at c.in-Some.ensures.0.high
    c.in-Some.ensures.0.after c.in-Some.ensures.1
    (c.as_slice-lines.ensures.value ∙ c.in_ok-extend_from_slice-3.ensures.items)
    c.new-next.ensures.items c.in_ok-extend_from_slice-2.ensures.items in
    found.1

pub returns-clause-written : goal.returns-clause-written
returns-clause-written g c =
    let found = piece_found c.args.started.now.items c.args.piece.now c.as_slice-lines.result.now
    c.new-next.result.items c.extend_from_slice-2.new.self.items c.in-Some.at c.in-Some.ensures.0.high
    c.in-Some.ensures.0.after c.in-Some.ensures.1
    (c.as_slice-lines.ensures.value ∙ c.in_ok-extend_from_slice-3.ensures.items)
    c.new-next.ensures.items c.in_ok-extend_from_slice-2.ensures.items in (
      subst (λ asked. TakesAnswers c.args.json c.args.known.now asked (g.W.Sink.contents c.args.writer.now)
          (g.W.Sink.contents c.write_answers.new.writer)) found.0 c.in_ok-are.ensures.written,
      λ none. absurd (found.2 none),
      c.in_ok-are.ensures.kept,
    )

use Rattle.std.proofs.Common.{sym, ◌∙◌}
use Rattle.dw_cprint.specs.Judgements.{is_printed}
use Rattle.dw_cprint.proofs.JudgementLemmas.{kept-in, kept-out}
use Rattle.dw_cprint.proofs.listing.printed_of.Goals.{then-is_printed+in_ok-insert, else-is_printed}
use Rattle.dw_cprint.proofs.listing.printed_of.Goals as goal

pub loop-number-preserved : goal.loop-number-preserved
loop-number-preserved c =
    let p = is_printed c.args.refusals.now in
    let numbers = c.args.numbers.now in
    let i = c.loop-number.number-index in
    elim c.if-is_printed.branch [
      | then-is_printed+in_ok-insert w ↦
          rw w.printed-is (kept-in p numbers i c.loop-number-test.true c.loop-number.printed.keys
          w.insert.new.self.keys c.requires c.loop-number.invariant
          (sym c.is_printed.ensures ∙ w.if-is_printed.true) w.in_ok-insert.ensures.keys)
      | else-is_printed w ↦
          rw w.printed-is (kept-out p numbers i c.loop-number-test.true c.loop-number.printed.keys
          c.loop-number.invariant (sym c.is_printed.ensures ∙ w.if-is_printed.false))
    ]

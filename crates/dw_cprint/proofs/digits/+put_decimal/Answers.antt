use Rattle.std.proofs.Common.{arith, append_assoc}
use Rattle.std.proofs.lemmas.Grind.{common_steps}
use Rattle.std.proofs.lemmas.Fmt.{decimal_step_wide}
use Rattle.dw_cprint.proofs.LexingLemmas.{numeral_step}
use Rattle.dw_cprint.proofs.digits.+put_decimal.Goals as goal

pub returns : goal.returns
returns t c = record {
  ok = (let step = numeral_step c.args.n c.if-n-lt10.false in grind (arith, common_steps, append_assoc, step));
  same =
      (let step = decimal_step_wide c.args.n c.if-n-lt10.false (omega (arith, c.ranges.n.fits)) in
      grind (arith, common_steps, append_assoc, step));
}

use Rattle.std.proofs.Common.{◌/◌, ◌%◌, ◌+◌, ◌∙◌, ap, length, arith}
use Rattle.std.proofs.lemmas.List.{length_push}
use Rattle.dw_cprint.specs.Digits.{numeral}
use Rattle.dw_cprint.proofs.LexingLemmas.{numeral_step}
use Rattle.dw_cprint.proofs.text.+digit_count.Goals as goal

pub returns-else-n-lt10 : goal.returns-else-n-lt10
returns-else-n-lt10 t c =
    let n = c.args.n in
    omega (
      arith,
      c.plus.ensures,
      c.digit_count.ensures,
      ap length (numeral_step n c.if-n-lt10.false)
          ∙ length_push (numeral (n / 10)) (48 + n % 10),
    )

use Rattle.std.proofs.Common.{◌≡◌, ◌++◌, codes, drop, subst, ◌∙◌, sym, arith}
use Rattle.std.specs.Prelude.{SomeIff}
use Rattle.dwv.specs.Words.{IsOffsetWord, offset_in}
use Rattle.dwv.proofs.OffsetLemmas.{offset_read}
use Rattle.dwv.proofs.words.offset_of.Goals as goal

pub returns : goal.returns
returns c =
    let word = c.args.text.now in
    let cut = c.in_ok-digits.ensures.cases in
    let two : cut.0 ≡ 2 = cut.1.0 in
    let front = subst (λ n. word ≡ codes "0x" ++ drop n word) two cut.1.1 in
    let rest = subst (λ n. c.in_ok-digits.digits.now ≡ drop n word) two cut.2 in
    let unsigned = sym (c.starts_with.ensures.byte (omega arith) (omega arith) (λ w o found. found))
    ∙ c.if-starts_with.false in
    subst (λ found. SomeIff found (IsOffsetWord word) (offset_in word)) (sym c.ok.ensures.value)
    (offset_read word c.in_ok-digits.digits.now c.from_str_radix.result front rest
    (omega (arith, c.if-digits-gt8.false)) unsigned c.from_str_radix.ensures.value)

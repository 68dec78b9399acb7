use Rattle.std.proofs.lemmas.Grind.{common_steps}
use Rattle.std.proofs.Common.{arith, ◌+◌, ◌-◌, ℕ, Bool, drop, ap, sym, ◌∙◌}
use Rattle.std.specs.Prelude.{is_some, ◌&&◌}
use Rattle.std.proofs.lemmas.List.{take_rest}
use Rattle.dw_cprint.specs.Declarations.{parts_of, words_of}
use Rattle.dw_cprint.proofs.NameLemmas.{words-none, words-whole, words-split}
use Rattle.dw_cprint.proofs.names.+are_type_words.Goals as goal

pub returns-then-most-eq0 : goal.returns-then-most-eq0
returns-then-most-eq0 t c =
    words-none c.args.name.now ∙ ap (λ (n : ℕ). is_some (words_of n (parts_of c.args.name.now)))
    (sym c.if-most-eq0.true)

pub returns-in-None : goal.returns-in-None
returns-in-None t c =
    c.is_type_word.ensures ∙ sym (words-whole c.args.most c.args.name.now c.if-most-eq0.false (sym c.in-None.ensures))

pub returns-then-is_type_word : goal.returns-then-is_type_word
returns-then-is_type_word t c = grind (arith, common_steps, words-split, take_rest)

pub returns-else-is_type_word : goal.returns-else-is_type_word
returns-else-is_type_word t c =
    let split = words-split c.args.most c.args.name.now c.in-Some.end c.if-most-eq0.false (sym c.in-Some.ensures) in
    c.if-is_type_word.false ∙ sym (split
    ∙ ap (λ (b : Bool). b && is_some
    (words_of (c.args.most - 1) (parts_of (drop (c.in-Some.end + 1) c.args.name.now))))
    (sym c.if-is_type_word.ensures))

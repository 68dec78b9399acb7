use Rattle.std.proofs.Common.{sym, ◌∙◌}
use Rattle.std.specs.Prelude.{bytes_eq}
use Rattle.dw_cprint.specs.Terms.{TypeWord}
use Rattle.dw_cprint.specs.Tokens.{type_word_spelling, type_words}
use Rattle.dw_cprint.proofs.NameLemmas.{some-found}
use Rattle.dw_cprint.proofs.names.is_type_word.Goals as goal

pub returns : goal.returns
returns c =
    c.is_one_of.ensures
    ∙ sym (some-found (λ (word : TypeWord). bytes_eq c.args.word.now (type_word_spelling word)) type_words)

use Rattle.std.proofs.Common.{rules, arith, eq-eqb, eqb-true}
use Rattle.dw_forms.proofs.Texts.{text_none, text_taken}
use Rattle.dw_forms.proofs.layout_reader.text.Goals as goal

pub returns-in_default-clause-exact : goal.returns-in_default-clause-exact
returns-in_default-clause-exact c =
    text_none _ _ (λ j lt zero_there. c.in_default.ensures j (omega arith) lt (eq-eqb _ _ zero_there))

pub returns-clause-exact : goal.returns-clause-exact
returns-clause-exact c = search (rules, text_taken, eq-eqb, eqb-true)

use Rattle.std.proofs.Common.{◌∙◌, sym, ap}
use Rattle.dw_entries.specs.Grammar.{declared_in}
use Rattle.dw_entries.specs.ItemLaws.{declared_code}
use Rattle.dw_entries.specs.Units.{context_in, numbers_in}
use Rattle.dw_entries.proofs.item.find_decl.Goals as goal

pub returns-in-Some-clause-number : goal.returns-in-Some-clause-number
unfolding declared_in
returns-in-Some-clause-number c =
    let code = declared_code (context_in c.args.context).table _ _ (sym c.in-Some.ensures.decl) in
    c.in-Some.ensures.number ∙ ap (numbers_in c.args.context) (sym code)

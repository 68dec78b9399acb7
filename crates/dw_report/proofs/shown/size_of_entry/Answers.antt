use Rattle.std.proofs.Common.{ap, sym, ◌∙◌}
use Rattle.std.specs.Option.{option_and_then}
use Rattle.dw_image.specs.Images.{size_table_in}
use Rattle.dw_report.proofs.ShownLemmas.{entry_sized}
use Rattle.dw_report.proofs.shown.size_of_entry.Goals as goal

pub returns-in-Some : goal.returns-in-Some
returns-in-Some c =
    c.size_of.ensures ∙ ap (option_and_then (size_table_in c.args.image.now)) (sym c.in-Some.is)
    ∙ entry_sized c.args.image.now c.args.id c.type_at.result c.requires c.type_at.ensures.exact

pub returns-in-None : goal.returns-in-None
returns-in-None c =
    ap (option_and_then (size_table_in c.args.image.now)) (sym c.in-None.is)
    ∙ entry_sized c.args.image.now c.args.id c.type_at.result c.requires c.type_at.ensures.exact

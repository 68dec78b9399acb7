use Rattle.std.proofs.Common.{rules, sym}
use Rattle.dw_forms.specs.KeptDecls.{decl_view}
use Rattle.dw_entries.proofs.PassLaws.{all_after}
use Rattle.dw_entries.proofs.item.skip_attributes.Goals as goal

pub returns-in-Ok : goal.returns-in-Ok
returns-in-Ok c =
    all_after _ (decl_view c.args.decl).attributes _ c.in-Ok.rest.now (sym c.if-allows.ensures) c.in-Ok.ensures

pub returns : goal.returns
returns c = search (rules)

use Rattle.std.proofs.Common.{rules, ap}
use Rattle.dw_forms.specs.Abbrev.{Declaration}
use Rattle.dw_forms.specs.KeptDecls.{decl_view}
use Rattle.dw_entries.proofs.KeptLaws.{kept_entry}
use Rattle.dw_entries.proofs.LeftLaws.{declares_none, undeclared}
use Rattle.dw_entries.proofs.entries.Entries.value.Goals as goal

pub returns-then-lacks : goal.returns-then-lacks
returns-then-lacks c =
    let kept = kept_entry c.args.self.now.scanned _ c.requires in
    let specs = (decl_view c.decl.result).attributes in
    undeclared kept specs _ (ap (λ (d : Declaration). d.attributes) c.decl.ensures)
    (declares_none specs _ (c.lacks.ensures.0 c.if-lacks.true))

pub returns : goal.returns
returns c = search (rules)

use Rattle.std.proofs.Common.{ap}
use Rattle.dw_forms.specs.Abbrev.{Declaration}
use Rattle.dw_forms.specs.KeptDecls.{decl_view}
use Rattle.dw_entries.proofs.KeptLaws.{kept_entry}
use Rattle.dw_entries.proofs.LeftLaws.{declares_none, undeclared}
use Rattle.dw_entries.proofs.entry.EntryAt.value.Goals as goal

pub returns-then-lacks : goal.returns-then-lacks
returns-then-lacks c =
    let it = c.self.inside in
    let kept = kept_entry it.entries.now.scanned it.id c.self.invariant.0 in
    let specs = (decl_view it.decl).attributes in
    rw (← c.self.view_is) (undeclared kept specs _ (ap (λ (d : Declaration). d.attributes) c.self.invariant.2)
    (declares_none specs _ (c.lacks.ensures.0 c.if-lacks.true)))

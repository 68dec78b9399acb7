use Rattle.std.proofs.Common.{map, arith}
use Rattle.std.proofs.lemmas.List.{length-map}
use Rattle.std.proofs.lemmas.Option.{slice_get_within}
use Rattle.dw_forms.specs.declared.abbrev.AttributeSpec.{AttributeSpec}
use Rattle.dw_forms.specs.AttributeLists.{spec_of}
use Rattle.dw_entries.specs.Views.{units_of}
use Rattle.dw_links.proofs.ListLookups.{one_more}
use Rattle.dw_units.specs.BatchSections.{IsAllowed}
use Rattle.dw_units.specs.IndependentBatches.{leaves_by}
use Rattle.dw_units.proofs.AloneLemmas.{refer_of}
use Rattle.dw_units.proofs.batches.refer_at_most.Goals as goal

pub loop-number-preserved : goal.loop-number-preserved
loop-number-preserved c =
    one_more (map spec_of c.decls-decls.result.now.lists.nodes.items)
    (λ (spec : AttributeSpec). IsAllowed c.args.most (leaves_by spec.form)) c.loop-number.number c.spec.result
    c.spec.ensures c.loop-number.invariant
    (rw c.leaves_by.ensures at (rw c.if-not-is_allowed.false at c.is_allowed.ensures))

pub returns : goal.returns
returns c =
    let nodes = c.decls-decls.result.now.lists.nodes.items in
    refer_of _ _ (units_of c.args.entries.now) (map spec_of nodes) c.args.entries.now.scanned.1.spells
    c.decls-decls.ensures.specs c.args.most
    (λ k spec is. c.loop-number.invariant k spec
    (omega (
      arith,
      slice_get_within (map spec_of nodes) k spec is,
      length-map nodes spec_of,
      c.spec_count-number-end.ensures,
      c.loop-number-test.false,
    )) is)

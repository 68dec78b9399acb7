use Rattle.std.proofs.Common.{List, map, sym, arith}
use Rattle.std.proofs.lemmas.List.{length-map}
use Rattle.std.proofs.lemmas.Option.{slice_get_within}
use Rattle.dw_forms.specs.declared.abbrev.AttributeSpec.{AttributeSpec}
use Rattle.dw_forms.specs.AttributeLists.{spec_of}
use Rattle.dw_entries.specs.Views.{units_of, PlacedUnit, placed}
use Rattle.dw_links.specs.RulesOfAttributes.{NeverFailsAt}
use Rattle.dw_links.proofs.ClassLemmas.{others_pass, ClassFails}
use Rattle.dw_links.proofs.ListLookups.{none_concerned, one_more}
use Rattle.dw_links.proofs.class.leave_open.Goals as goal

pub loop-number-preserved : goal.loop-number-preserved
loop-number-preserved c =
    let P : AttributeSpec → Type 0 = λ s. (units : List PlacedUnit) → NeverFailsAt (ClassFails units) s in
    one_more (map spec_of c.decls-decls.result.now.lists.nodes.items) P c.loop-number.number c.spec.result
    c.spec.ensures c.loop-number.invariant
    (λ units. others_pass units c.spec.result (sym c.if-is_open.ensures))

pub returns : goal.returns
returns c =
    let nodes = c.decls-decls.result.now.lists.nodes.items in
    let us = units_of c.args.entries.now in
    none_concerned _ _ us (map spec_of nodes) (ClassFails (placed us)) c.args.entries.now.scanned.1.spells
    c.decls-decls.ensures.specs
    (λ k spec is. c.loop-number.invariant k spec
    (omega (
      arith,
      slice_get_within (map spec_of nodes) k spec is,
      length-map nodes spec_of,
      c.spec_count-number-end.ensures,
      c.loop-number-test.false,
    )) is (placed us))

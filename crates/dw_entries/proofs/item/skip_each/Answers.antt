use Rattle.std.proofs.Common.{rules, sym}
use Rattle.std.proofs.lemmas.Result.{err_from_is_err_and}
use Rattle.dw_forms.specs.Suffixes.{specs_in}
use Rattle.dw_forms.proofs.SuffixLaws.{first_specs}
use Rattle.dw_entries.specs.Units.{context_in}
use Rattle.dw_entries.proofs.ReadingSteps.{attributes_turn, attributes_end}
use Rattle.dw_entries.proofs.item.skip_each.Goals as goal

pub returns-in_err-rest : goal.returns-in_err-rest
returns-in_err-rest c =
    let p = err_from_is_err_and c.from_residual.result c.from_residual.ensures.1 in
    let parts = first_specs c.loop-spec.left c.in-Some.after c.in-Some.spec c.in-Some.ensures in
    rw (p.1, p.2) (sym (attributes_turn (context_in c.args.context) c.in-Some.spec (specs_in c.loop-spec.left)
    (specs_in c.in-Some.after) c.loop-spec.rest.now _ _ parts c.in_err-rest.ensures c.loop-spec.invariant))

pub loop-spec-preserved : goal.loop-spec-preserved
loop-spec-preserved c =
    let parts = first_specs c.loop-spec.left _ _ c.in-Some.ensures in
    attributes_turn _ _ _ _ c.loop-spec.rest.now _ _ parts c.in_ok-rest.ensures c.loop-spec.invariant

pub loop-spec-smaller : goal.loop-spec-smaller
loop-spec-smaller c = search (rules, first_specs)

pub returns : goal.returns
returns c = search (rules, attributes_end)

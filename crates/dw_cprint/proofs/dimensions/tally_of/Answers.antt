use Rattle.dw_image.specs.Images.{entries_in}
use Rattle.dw_cprint.proofs.LookUpLemmas.{child_within, children_rest, children_within}
use Rattle.dw_cprint.proofs.CountLemmas.{dimensions_all}
use Rattle.dw_cprint.proofs.dimensions.tally_of.Goals as goal

pub loop-child-init : goal.loop-child-init
loop-child-init c =
    rw (c.into_iter-child-iterator.ensures.into_iter_gives, c.children-child-items.ensures) (record {
      within = children_within (entries_in c.args.image.now) c.args.id;
      so_far = c.new-tally.ensures _;
    })

pub dimension_at-requires : goal.dimension_at-requires
dimension_at-requires c =
    child_within _ c.in-Some.ensures.steps c.loop-child.invariant.within

pub loop-child-preserved : goal.loop-child-preserved
loop-child-preserved c = record {
  within =
      children_rest _ c.in-Some.ensures.steps c.loop-child.invariant.within;
  so_far =
      c.with-tally.ensures _ _
      (rw (c.in-Some.ensures.steps, ← c.dimension_at.ensures) at c.loop-child.invariant.so_far);
}

pub returns : goal.returns
returns c = dimensions_all _ _ (rw c.in-None.ensures.steps.0 at c.loop-child.invariant.so_far)

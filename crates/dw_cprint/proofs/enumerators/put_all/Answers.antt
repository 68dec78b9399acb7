use Rattle.std.proofs.Common.{rules}
use Rattle.dw_cprint.specs.EntryShapes.{enumerators_in}
use Rattle.dw_cprint.proofs.LookUpLemmas.{child_within, children_rest, children_within}
use Rattle.dw_cprint.proofs.ItemWriterLemmas.{enumerators_begin, enumerators_done}
use Rattle.dw_cprint.proofs.OptionLemmas.{from_ok}
use Rattle.dw_cprint.proofs.enumerators.put_all.Goals as goal

pub loop-child-init : goal.loop-child-init
loop-child-init c = search (rules, children_within, enumerators_begin)

pub enumerator_at-requires : goal.enumerator_at-requires
enumerator_at-requires c =
    child_within _ c.in-Some.ensures.steps c.loop-child.invariant.within

pub loop-child-preserved : goal.loop-child-preserved
loop-child-preserved c = record {
  within =
      children_rest _ c.in-Some.ensures.steps c.loop-child.invariant.within;
  so_far =
      c.in_ok-some.ensures _ _ _
      (rw (c.in-Some.ensures.steps, ← c.enumerator_at.ensures) at c.loop-child.invariant.so_far);
}

pub returns : goal.returns
returns c = from_ok _ c.put-2.ensures
    (enumerators_done (enumerators_in c.args.source.now.image.now c.args.id) _ _ _ _ c.loop-child.some
    c.in_ok-put.ensures (rw c.in-None.ensures.steps.0 at c.loop-child.invariant.so_far))

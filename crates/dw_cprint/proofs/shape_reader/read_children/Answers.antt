use Rattle.std.proofs.Common.{rules, ◌∷◌, Some, None, refl, append_assoc}
use Rattle.dw_cprint.proofs.LookUpLemmas.{child_within, children_rest, children_within, kept-all}
use Rattle.dw_cprint.proofs.shape_reader.read_children.Goals as goal

pub loop-child-init : goal.loop-child-init
loop-child-init g c = search (rules, children_within)

pub read-requires : goal.read-requires
read-requires g c =
    c.requires.callable c.in-Some.child
    (child_within _ c.in-Some.ensures.steps c.loop-child.invariant.within)

pub loop-child-preserved-in-Continue-branch-2 : goal.loop-child-preserved-in-Continue-branch-2
loop-child-preserved-in-Continue-branch-2 g c = record {
  within =
      children_rest _ c.in-Some.ensures.steps c.loop-child.invariant.within;
  so_far =
      λ rest keeps. rw (c.in_ok-push.ensures.items, append_assoc)
      ((rw c.in-Some.ensures.steps at c.loop-child.invariant.so_far) (c.in-Some-read.one ∷ rest)
      (Some c.in-Some-read.one, rest, c.in-Some-read.ensures, refl, keeps));
}

pub loop-child-preserved : goal.loop-child-preserved
loop-child-preserved g c = record {
  within =
      children_rest _ c.in-Some.ensures.steps c.loop-child.invariant.within;
  so_far =
      λ rest keeps. (rw c.in-Some.ensures.steps at c.loop-child.invariant.so_far) rest
      (None, rest, c.in_default.ensures, refl, keeps);
}

pub returns : goal.returns
returns g c =
    rw c.shrink_to_fit.ensures.items (kept-all _ _ _ _ c.loop-child.invariant.so_far c.in-None.ensures.steps.0)

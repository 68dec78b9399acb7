use Rattle.std.proofs.Common.{rules, true, false, refl, sym}
use Rattle.dw_cprint.proofs.LookUpLemmas.{child_within, children_rest, children_within}
use Rattle.dw_cprint.proofs.shape_reader.any_child.Goals as goal

pub loop-child-init : goal.loop-child-init
loop-child-init g c = search (rules, children_within)

pub test-requires : goal.test-requires
test-requires g c =
    c.requires.callable c.in-Some.child
    (child_within _ c.in-Some.ensures.steps c.loop-child.invariant.within)

pub returns-then-test : goal.returns-then-test
returns-then-test g c =
    let below = child_within _ c.in-Some.ensures.steps c.loop-child.invariant.within in
    c.loop-child.invariant.so_far true
    (λ passes says. rw (c.in-Some.ensures.steps, sym (says c.in-Some.child true below c.if-test.ensures)) refl)

pub loop-child-preserved : goal.loop-child-preserved
loop-child-preserved g c =
    let below = child_within _ c.in-Some.ensures.steps c.loop-child.invariant.within in
    record {
      within = children_rest _ c.in-Some.ensures.steps c.loop-child.invariant.within;
      so_far =
          λ found has. c.loop-child.invariant.so_far found
          (λ passes says. rw (c.in-Some.ensures.steps, sym (says c.in-Some.child false below c.if-test.ensures))
          (has passes says));
    }

pub returns : goal.returns
returns g c = c.loop-child.invariant.so_far false (λ passes says. rw c.in-None.ensures.steps.0 refl)

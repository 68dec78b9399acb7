use Rattle.std.proofs.Common.{rules, sym, ◌∙◌, append_assoc}
use Rattle.std.specs.List.{filter_map}
use Rattle.dw_types.specs.ChildrenLeft.{children_left}
use Rattle.dw_cprint.specs.EntryShapes.{member_at}
use Rattle.dw_cprint.proofs.LookUpLemmas.{child_within, children_rest, children_within}
use Rattle.dw_cprint.proofs.ReachLemmas.{types-here, types-none}
use Rattle.dw_cprint.proofs.reaching.put_types_of_members.Goals as goal

pub loop-child-init : goal.loop-child-init
loop-child-init c = search (rules, children_within)

pub member_type_at-requires : goal.member_type_at-requires
member_type_at-requires c =
    child_within _ c.in-Some.ensures.steps c.loop-child.invariant.within

pub loop-child-preserved-in-Continue-1 : goal.loop-child-preserved-in-Continue-1
loop-child-preserved-in-Continue-1 c =
    let f = member_at c.args.image.now in
    let here = types-here (f c.in-Some.child) c.in-Some-member_type_at.at (filter_map f (children_left c.next.new.self))
    (sym c.in-Some-member_type_at.is ∙ c.member_type_at.ensures) in
    record {
      within =
          children_rest _ c.in-Some.ensures.steps c.loop-child.invariant.within;
      so_far =
          rw (c.in_ok-push.ensures.items, append_assoc)
          (rw (c.in-Some.ensures.steps, here) at c.loop-child.invariant.so_far);
    }

pub loop-child-preserved : goal.loop-child-preserved
loop-child-preserved c =
    let f = member_at c.args.image.now in
    let here = types-none (f c.in-Some.child) (filter_map f (children_left c.next.new.self))
    (sym c.in_default.is ∙ c.member_type_at.ensures) in
    record {
      within =
          children_rest _ c.in-Some.ensures.steps c.loop-child.invariant.within;
      so_far = rw (c.in-Some.ensures.steps, here) at c.loop-child.invariant.so_far;
    }

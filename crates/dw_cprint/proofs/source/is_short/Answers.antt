use Rattle.std.proofs.Common.{rules, arith, sym}
use Rattle.std.proofs.lemmas.Bool.{lt-ltb}
use Rattle.std.proofs.lemmas.List.Sums.{sum_by-cons}
use Rattle.dw_types.specs.ChildrenLeft.{children_left}
use Rattle.dw_cprint.specs.LookUps.{bytes_at}
use Rattle.dw_cprint.proofs.LookUpLemmas.{child_within, children_rest, children_within}
use Rattle.dw_cprint.proofs.source.is_short.Goals as goal

pub loop-child-init : goal.loop-child-init
loop-child-init c = search (rules, children_within)

pub bytes_at-bytes-requires : goal.bytes_at-bytes-requires
bytes_at-bytes-requires c =
    child_within _ c.in-Some.ensures.steps c.loop-child.invariant.within

pub returns-then-bytes-most : goal.returns-then-bytes-most
returns-then-bytes-most c =
    let f = bytes_at c.args.image.now in
    let left = children_left c.next.new.self in
    let before = rw c.in-Some.ensures.steps at c.loop-child.invariant.so_far in
    sym (lt-ltb _ _ (omega (arith, before, sum_by-cons f c.in-Some.child left, c.bytes_at-bytes.ensures.exact)))

pub loop-child-preserved : goal.loop-child-preserved
loop-child-preserved c =
    let f = bytes_at c.args.image.now in
    let left = children_left c.next.new.self in
    let before = rw c.in-Some.ensures.steps at c.loop-child.invariant.so_far in
    record {
      within =
          children_rest _ c.in-Some.ensures.steps c.loop-child.invariant.within;
      so_far = omega (arith, before, sum_by-cons f c.in-Some.child left, c.bytes_at-bytes.ensures.exact);
      few = search rules;
    }

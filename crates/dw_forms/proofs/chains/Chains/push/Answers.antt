use Rattle.std.proofs.Common.{rules, ◌≡◌, length}
use Rattle.dw_forms.proofs.CodeLaws.{found_more, found_either}
use Rattle.dw_forms.proofs.chains.Chains.push.Goals as goal

pub invariant_of-self-2 : goal.invariant_of-self-2
invariant_of-self-2 c =
    let links = c.args.self.now.links.items in
    let start : c.len-branches.result ≡ length c.args.self.now.branches.items = search rules in
    let kept = c.in_ok-places.ensures.found in
    let below = rw c.in-Some.is at c.in_ok-places.ensures.below in
    let branches = rw c.in-Some.is at c.in_ok-places.ensures.branches in
    record {
      found =
          found_either _ c.push_branches.new.branches.items links c.push.new.self.items _ c.push.ensures.items kept
          (rw start (found_more c.push_branches.new.branches.items links _ kept
          (rw c.deref.ensures.value at c.run_before-run.ensures.short)
          (rw c.deref.ensures.value at c.run_before-run.ensures.run) below branches));
    }

use Rattle.std.proofs.Common.{rules}
use Rattle.dw_entries.specs.Views.{units_of}
use Rattle.dw_types.proofs.SiblingLemmas.{next-sibling}
use Rattle.dw_types.proofs.children.ChildrenIterator.next.Goals as goal

pub next_sibling-self-requires : goal.next_sibling-self-requires
next_sibling-self-requires c = (c.args.self.now.linked c.in_ok-id.id c.in_ok-id.was).0

pub invariant_of-self : goal.invariant_of-self
invariant_of-self c = record {
  linked = (next-sibling (units_of c.args.self.now.entries.now) c.args.self.now.parent c.in_ok-id.id
      c.next_sibling-self.result (c.args.self.now.linked c.in_ok-id.id c.in_ok-id.was)
      c.next_sibling-self.ensures).child;
}

pub returns-clause-steps : goal.returns-clause-steps
returns-clause-steps c = search (rules, next-sibling)

pub returns-clause-goes : goal.returns-clause-goes
returns-clause-goes c = search (rules, next-sibling)

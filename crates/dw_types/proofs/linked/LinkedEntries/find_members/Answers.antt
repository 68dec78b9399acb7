use Rattle.std.proofs.Common.{ℕ, Bool, ◌∙◌}
use Rattle.dw_types.specs.Entries.{entry_in}
use Rattle.dw_types.specs.Held.{units_held}
use Rattle.dw_types.specs.Kinds.{has_members}
use Rattle.dw_types.specs.StoredFlags.{flag_at}
use Rattle.dw_types.proofs.FlagLemmas.{told-more, unset-more}
use Rattle.dw_types.proofs.linked.LinkedEntries.find_members.Goals as goal

pub loop-node-preserved : goal.loop-node-preserved
loop-node-preserved c =
    let is : ℕ → Bool = λ k. has_members (entry_in (units_held c.args.self.now) k) in
    let set = rw (c.has_members.ensures, c.at.ensures.found, c.id-id.ensures, c.loop-node.invariant.same) at
    c.set_if.ensures.set in
    let old = flag_at c.loop-node.flags in
    let new = flag_at c.set_if.new.self in
    let told = c.loop-node.invariant.told in
    let unset = c.loop-node.invariant.unset in
    record {
      same = c.at.ensures.same ∙ c.loop-node.invariant.same;
      room = rw c.set_if.ensures.room c.loop-node.invariant.room;
      told = told-more old is new c.loop-node.node told unset set;
      unset = unset-more old is new c.loop-node.node told unset set;
    }

use Rattle.std.proofs.Common.{arith, rules}
use Rattle.dw_entries.proofs.FindLaws.{entries_counted, scanned_few}
use Rattle.dw_entries.proofs.DepthLaws.{starts, above_within, depth_less, climbs, lower, is_deep}
use Rattle.dw_entries.proofs.entries.Entries.depth.Goals as goal

pub loop-above-init : goal.loop-above-init
loop-above-init c =
    rw c.get-above.ensures (starts c.args.self.now.scanned c.args.id c.record.result c.requires
    c.record.ensures)

pub overflow_add-depth : goal.overflow_add-depth
overflow_add-depth c = search (rules, depth_less, entries_counted, scanned_few)

pub index-requires : goal.index-requires
index-requires c =
    let here = rw c.in-Some.is at c.loop-above.invariant in
    omega (arith, above_within c.args.self.now.scanned _ _ _ here)

pub loop-above-smaller : goal.loop-above-smaller
loop-above-smaller c =
    let here = rw c.in-Some.is at c.loop-above.invariant in
    rw (c.in-Some.is, c.get-above-in-Some.ensures) (lower c.args.self.now.scanned _ _ _ here _ c.index.ensures)

pub loop-above-preserved : goal.loop-above-preserved
loop-above-preserved c =
    let here = rw c.in-Some.is at c.loop-above.invariant in
    rw c.get-above-in-Some.ensures (climbs c.args.self.now.scanned _ _ _ here _ c.index.ensures)

pub returns : goal.returns
returns c =
    is_deep c.args.self.now.scanned c.args.id c.loop-above.depth
    (rw c.in_default.is at c.loop-above.invariant)

use Rattle.std.proofs.Common.{arith}
use Rattle.dw_entries.proofs.FindLaws.{entries_counted, scanned_few}
use Rattle.dw_entries.proofs.entries.Entries.nth.Goals as goal

pub overflow_cast-k : goal.overflow_cast-k
overflow_cast-k c =
    let scanned = c.args.self.now.scanned in
    omega (arith, scanned_few _ _ _ _ _ scanned, entries_counted _ _ _ _ _ scanned)

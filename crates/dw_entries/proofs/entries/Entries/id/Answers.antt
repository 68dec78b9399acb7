use Rattle.std.proofs.Common.{arith}
use Rattle.dw_entries.proofs.FindLaws.{entries_counted, scanned_few}
use Rattle.dw_entries.proofs.entries.Entries.id.Goals as goal

pub overflow_cast-number : goal.overflow_cast-number
overflow_cast-number c =
    omega (arith, entries_counted _ _ _ _ _ c.args.self.now.scanned, scanned_few _ _ _ _ _ c.args.self.now.scanned)

use Rattle.std.proofs.Common.{arith}
use Rattle.dw_entries.proofs.FindLaws.{entries_counted}
use Rattle.dw_entries.proofs.OrderLaws.{scanned_few}
use Rattle.dw_types.proofs.linked.LinkedEntries.new.Goals as goal

pub returns-clause-few : goal.returns-clause-few
returns-clause-few c =
    let entries = c.cursor.result.entries.now in
    omega (
      arith,
      entries_counted _ _ _ _ _ entries.scanned,
      scanned_few _ _ _ _ _ entries.scanned,
      entries.sections.info_fits,
    )

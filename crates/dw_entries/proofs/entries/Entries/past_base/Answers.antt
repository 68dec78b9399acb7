use Rattle.std.proofs.Common.{rules, arith}
use Rattle.dw_entries.proofs.FindLaws.{unit_past}
use Rattle.dw_entries.proofs.KeptLaws.{kept_is, kept_unit, units_counted}
use Rattle.dw_entries.proofs.entries.Entries.past_base.Goals as goal

pub index-requires : goal.index-requires
index-requires c = search (rules, units_counted)

pub overflow_sub-result : goal.overflow_sub-result
overflow_sub-result c =
    let at = (kept_is (kept_unit c.args.self.now.scanned _ c.requires) _ c.index.ensures).at in
    omega (arith, unit_past c.args.self.now.scanned _ c.requires)

pub returns : goal.returns
returns c =
    let at = (kept_is (kept_unit c.args.self.now.scanned _ c.requires) _ c.index.ensures).at in
    omega (arith, unit_past c.args.self.now.scanned _ c.requires)

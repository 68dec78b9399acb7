use Rattle.std.proofs.Common.{sym, ◌∙◌, arith}
use Rattle.dw_entries.proofs.FindLaws.{few_from, found_from, none_from}
use Rattle.dw_entries.proofs.entries.Entries.find_past.Goals as goal

pub number_from-requires : goal.number_from-requires
number_from-requires c =
    rw c.deref.ensures.value (few_from c.args.self.now.scanned _ c.args.self.now.starts _
    (omega arith))

pub returns-in_err-number_from-clause-none : goal.returns-in_err-number_from-clause-none
returns-in_err-number_from-clause-none c =
    rw c.from_residual.ensures (none_from c.args.self.now.scanned _ c.args.self.now.starts _
    (rw c.deref.ensures.value at (sym c.number_from.ensures ∙ c.in_err-number_from.was)))

pub returns-clause-found : goal.returns-clause-found
returns-clause-found c =
    rw c.new.ensures (found_from c.args.self.now.scanned _ c.args.self.now.starts _
    _ (rw c.deref.ensures.value at (sym c.number_from.ensures ∙ c.in_ok-number_from.was)))

use Rattle.std.proofs.Common.{◌+◌, arith}
use Rattle.dw_entries.proofs.EntryFacts.{entries_rise}
use Rattle.dw_entries.proofs.RunLaws.{never_far, never_other, reaches_by_range}
use Rattle.dw_entries.proofs.entries.Entries.find_in_range.Goals as goal
use Rattle.dw_entries.proofs.entries.Entries.find_in_range.Goals.{then-number-range-via-then-number-range, then-number-range-via-else-number-range+then-number-range-2}

pub returns-in_err-checked_add-clause-none : goal.returns-in_err-checked_add-clause-none
returns-in_err-checked_add-clause-none c =
    rw c.from_residual.ensures
    (never_far c.args.self.now.scanned c.args.unit c.args.offset _ c.requires.past
    (omega arith) (omega arith))

pub returns-then-number-range-clause-none : goal.returns-then-number-range-clause-none
returns-then-number-range-clause-none c =
    never_other _ _ _ (c.args.self.now.sections.base + c.in_ok-checked_add.field-0) c.args.range.0
    c.args.range.1 _ c.requires.unit (entries_rise _ _ c.args.self.now.scanned.1.spells.are)
    (omega arith) c.in_ok-id.ensures.found
    c.requires.first c.requires.end (λ low high. elim c.then-number-range.branch [
      | then-number-range-via-then-number-range w ↦ omega arith
      | then-number-range-via-else-number-range+then-number-range-2 w ↦
          omega arith
    ])

pub returns-clause-found : goal.returns-clause-found
returns-clause-found c =
    reaches_by_range _ _ _ (c.args.self.now.sections.base + c.in_ok-checked_add.field-0) c.args.range.0
    c.args.range.1 _ c.requires.unit
    (omega arith) c.in_ok-id.ensures.found
    c.requires.first c.requires.end (omega arith)
    (omega arith)

use Rattle.std.proofs.Common.{length}
use Rattle.dw_entries.specs.Entries.{entries_of}
use Rattle.dw_entries.proofs.EntryFacts.{entries_rise}
use Rattle.dw_types.specs.Entries.{entry_in}
use Rattle.dw_types.specs.Held.{entries_held, units_held}
use Rattle.dw_types.specs.SizeFaults.{fails_size, IsFirstSizeFault}
use Rattle.dw_types.specs.SizeTables.{size_at}
use Rattle.dw_types.specs.StoredSizes.{ObeysCappedLines}
use Rattle.dw_types.specs.TypeFailures.{plain_fault_at, IsFirstAt, NoneFailsBefore}
use Rattle.dw_types.proofs.FirstLemmas.{none-of_entries, plain-fault}
use Rattle.dw_types.proofs.SizeFaultLemmas.{first-is_first, found-is_table}
use Rattle.dw_types.proofs.measuring.sizes_by.Goals as goal

pub returns-in-Some-clause-fault : goal.returns-in-Some-clause-fault
returns-in-Some-clause-fault c =
    let us = units_held c.args.linked.now in
    let found = c.in-Some.found in
    let table = size_at c.in_ok-sizes.sizes in
    let lines : ObeysCappedLines us table = c.in_ok-sizes.ensures.lines in
    let first : IsFirstAt (entries_held c.args.linked.now) (fails_size us table) found.0 found.1 =
    rw (c.in_ok-sizes.ensures.same, c.in-Some.is) at c.in_ok-found.ensures.first in
    plain-fault (IsFirstSizeFault us) (plain_fault_at found.1 (entry_in us found.0).at) c.fault.result
    (first-is_first us c.args.order.now.ranks c.requires.order.falls
    (entries_rise _ us c.args.linked.now.cursor.entries.now.scanned.1.spells.are) table lines found.0 found.1 first)
    (rw (c.in_ok-found.ensures.same, c.in_ok-sizes.ensures.same) at c.fault.ensures)

pub returns-clause-only : goal.returns-clause-only
returns-clause-only c =
    let us = units_held c.args.linked.now in
    let table = size_at c.in_ok-sizes.sizes in
    let lines : ObeysCappedLines us table = c.in_ok-sizes.ensures.lines in
    let pass : NoneFailsBefore (fails_size us table) (length (entries_of us)) =
    rw (c.in_ok-sizes.ensures.same, c.in_default.is) at c.in_ok-found.ensures.first in
    found-is_table us c.args.order.now.ranks c.requires.order.falls table lines pass

pub returns-clause-sound : goal.returns-clause-sound
returns-clause-sound c =
    let us = units_held c.args.linked.now in
    let table = size_at c.in_ok-sizes.sizes in
    let pass : NoneFailsBefore (fails_size us table) (length (entries_of us)) =
    rw (c.in_ok-sizes.ensures.same, c.in_default.is) at c.in_ok-found.ensures.first in
    none-of_entries (entries_of us) (fails_size us table) pass

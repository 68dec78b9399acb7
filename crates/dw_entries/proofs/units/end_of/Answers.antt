use Rattle.std.proofs.Common.{rules, ◌+◌, Some, sym, ap, ◌∙◌, arith}
use Rattle.std.proofs.lemmas.Option.{slice_get-get_or}
use Rattle.dw_entries.specs.declared.records.UnitRecord.{UnitRecord}
use Rattle.dw_entries.proofs.UnitRanges.{few_records, ends_with_next, ends_with_all, units_counted}
use Rattle.dw_entries.proofs.units.end_of.Goals as goal

pub overflow_add-next : goal.overflow_add-next
overflow_add-next c = search (rules, few_records, units_counted)

pub returns-then-next-len : goal.returns-then-next-len
returns-then-next-len c =
    let unit = c.index.result.now in
    ends_with_next c.args.entries.now.scanned _ unit (slice_get-get_or _ (c.args.number + 1) unit
    (omega arith) ∙ ap (λ (u : UnitRecord). Some u) (sym c.index.ensures))

pub returns-else-next-len : goal.returns-else-next-len
returns-else-next-len c = search (rules, ends_with_all)

use Rattle.std.proofs.Common.{rules, ◌<◌, length, Some, sym, ap, ◌∙◌, arith}
use Rattle.std.proofs.lemmas.Option.{slice_get-get_or}
use Rattle.dw_entries.specs.declared.records.UnitRecord.{UnitRecord}
use Rattle.dw_entries.proofs.UnitRanges.{kept_first, units_counted}
use Rattle.dw_entries.proofs.entries.Entries.range.Goals as goal

pub index-requires : goal.index-requires
index-requires c = search (rules, units_counted)

pub returns-clause-first : goal.returns-clause-first
returns-clause-first c =
    let it = c.args.self.now in
    let n = c.args.unit in
    let within : n < length it.units.items = omega (arith, units_counted it.scanned) in
    let kept = slice_get-get_or it.units.items n _ within
    ∙ ap (λ (u : UnitRecord). Some u) (sym c.index.ensures) in
    (kept_first it.scanned n _ kept).1

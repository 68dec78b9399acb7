use Rattle.std.proofs.Common.{rules, ◌<◌, length, Some, sym, ap, ◌∙◌, arith}
use Rattle.std.proofs.lemmas.Option.{slice_get-get_or}
use Rattle.dw_entries.specs.declared.records.UnitRecord.{UnitRecord}
use Rattle.dw_entries.proofs.UnitRanges.{its_entries, units_counted}
use Rattle.dw_entries.proofs.cursor.Cursor.at.Goals as goal

pub index-requires : goal.index-requires
index-requires c = search (rules, units_counted)

pub invariant_of-self : goal.invariant_of-self
invariant_of-self c =
    let it = c.args.self.now.entries.now in
    let n = c.unit_number-unit.result in
    let within : n < length it.units.items = omega (arith, units_counted it.scanned) in
    let kept = slice_get-get_or it.units.items n _ within
    ∙ ap (λ (u : UnitRecord). Some u) (sym c.index.ensures) in
    record {
      its = search (rules, its_entries);
    }

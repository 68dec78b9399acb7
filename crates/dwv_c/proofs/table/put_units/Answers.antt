use Rattle.std.proofs.Common.{rules, ◌<◌, length, subst, arith}
use Rattle.std.proofs.lemmas.Option.{get_or_from_slice_get}
use Rattle.dw_entries.specs.ByNumber.{no_placed}
use Rattle.dw_entries.specs.Entries.{PlacedUnit, placed}
use Rattle.dw_image.specs.Images.{unit_count, units_in}
use Rattle.dwv_c.specs.declared.table_rows.UnitRow.{UnitRow}
use Rattle.dwv_c.specs.Tables.{IsUnitRow}
use Rattle.dwv_c.proofs.TableLemmas.{have_more, rest_more}
use Rattle.dwv_c.proofs.table.put_units.Goals as goal

pub loop-number-preserved : goal.loop-number-preserved
loop-number-preserved c =
    let i = c.args.image.now in
    let n = c.loop-number.number in
    let below : n < unit_count i = search rules in
    let room : n < length c.loop-number.units = search rules in (
      have_more (λ k (p : PlacedUnit) (r : UnitRow). IsUnitRow i p r) (placed (units_in i)) n c.loop-number.units
          c.unit_row.result room c.loop-number.invariant.0
          (λ p is. subst (λ (q : PlacedUnit). IsUnitRow i q c.unit_row.result)
          (get_or_from_slice_get (placed (units_in i)) n p no_placed is) c.unit_row.ensures),
      rest_more c.loop-number.units c.args.units.now n c.unit_row.result c.loop-number.invariant.1,
      omega (arith, below),
    )

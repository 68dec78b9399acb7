use Rattle.std.proofs.Common.{arith}
use Rattle.dw_entries.specs.Views.{units_of}
use Rattle.dw_units.proofs.AloneLemmas.{no_type_unit_of}
use Rattle.dw_units.proofs.batches.have_no_type_unit.Goals as goal

pub returns : goal.returns
returns c =
    no_type_unit_of (units_of c.args.entries.now)
    (λ k below. c.loop-number.invariant k
    (omega (arith, below, c.unit_count-number-end.ensures, c.loop-number-test.false)))

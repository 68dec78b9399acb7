-- State: the steps by value and the sizes, if no rule on types fails.
use Rattle.std.specs.Prelude.{◌≡◌, List, length}
use Rattle.dw_entries.specs.Entries.{entries_of, DebugUnit}
use Rattle.dw_entries.specs.Failures.{HasNone}
use Rattle.dw_types.specs.declared.by_value.ByValue.{ByValue}
use Rattle.dw_types.specs.Graphs.{HasNoCycle}
use Rattle.dw_types.specs.Kinds.{count_of_types}
use Rattle.dw_types.specs.Orders.{Ranking, IsOrderOf}
use Rattle.dw_types.specs.Packing.{cut}
use Rattle.dw_types.specs.StepFlags.{TellSizeFlags}
use Rattle.dw_types.specs.Shapes.{ShapeFailures}
use Rattle.dw_types.specs.Steps.{by_value}
use Rattle.dw_types.specs.SizeTables.{Size, size_at}
use Rattle.dw_image.specs.Valid.{HasSizes}

-- these are the steps by value, this is how many entries are types, and these flags tell what the sizes ask
pub record AreSteps (units : List DebugUnit) (steps : ByValue) : Type 0 where
  pub graph : cut steps.packed.steps 0 steps.packed.ends ≡ by_value units
  pub types : steps.types ≡ count_of_types (entries_of units)
  pub flags : TellSizeFlags units steps.size_flags

-- no rule on types fails, and these are the sizes
pub record AreMeasures (units : List DebugUnit) (table : List Size) : Type 0 where
  pub shapes : HasNone (ShapeFailures units)
  pub contained : HasNoCycle (by_value units)
  pub long : length table ≡ length (entries_of units)
  pub sizes : HasSizes units (size_at table)

-- each step by value goes to a smaller rank, and the shapes of types are right
pub record AreOrdered (units : List DebugUnit) (order : Ranking) : Type 0 where
  pub shapes : HasNone (ShapeFailures units)
  pub contained : HasNoCycle (by_value units)
  pub ordered : IsOrderOf (by_value units) order

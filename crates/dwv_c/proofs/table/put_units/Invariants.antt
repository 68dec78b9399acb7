use Rattle.std.proofs.Common.{◌≡◌, ◌≤◌, drop}
use Rattle.dw_image.specs.Images.{unit_count}
use Rattle.dwv_c.specs.Tables.{HaveUnits}
use Rattle.dwv_c.proofs.table.put_units.Given as goal

abbrev pub invariant-loop-number : goal.invariant-loop-number
invariant-loop-number l =
    HaveUnits l.image l.number l.units
    × (drop l.number l.units ≡ drop l.number l.fn.units)
    × (l.number ≤ unit_count l.image)

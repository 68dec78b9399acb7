-- Chapter: what is counted over the units of a file (this project's choice).
use Rattle.std.specs.Prelude.{ℕ, ◌+◌, ◌-◌, ◌^◌, min, Option, Some, None, ◌==◌, if◌then◌else◌}
use Rattle.dw_ranges.specs.declared.totals.RangeCounts.{RangeCounts}
use Rattle.dw_ranges.specs.declared.totals.Totals.{Totals}

-- nothing is counted yet, and so many bytes of range lists may be read
abbrev pub no_totals : (budget : ℕ) → Totals
no_totals budget = record { left = budget; ranges = 0; functions = 0; inlined = 0; dead = 0 }

-- a count and more. One that passes the greatest number of 64 bits stays there
abbrev pub plus : ℕ → ℕ → ℕ
plus count more = min (count + more) (2 ^ 64 - 1)

-- one if an entry is a function that is not inlined, by the group that it is in, which is 0 for these
abbrev pub one_function : Option ℕ → ℕ
one_function None = 0
one_function (Some group) = if group == 0 then 1 else 0

-- one if it is an inlined function
abbrev pub one_inlined : Option ℕ → ℕ
one_inlined None = 0
one_inlined (Some group) = if group == 0 then 0 else 1

-- the totals with one more entry, which leaves so many bytes for range lists, has so many ranges, and is of this group
-- if it is a function
abbrev pub counted : Totals → (left : ℕ) → RangeCounts → Option ℕ → Totals
counted before left counts group = record {
  left = left;
  ranges = plus before.ranges counts.ranges;
  functions = plus before.functions (one_function group);
  inlined = plus before.inlined (one_inlined group);
  dead = plus before.dead counts.dead;
}

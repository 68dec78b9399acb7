use Rattle.std.proofs.Common.{◌≡◌, take}
use Rattle.std.specs.Prelude.{count_by}
use Rattle.std.proofs.lemmas.List.Filters.{FiltersInPlace}
use Rattle.dw_ranges.specs.Live.{is_live, is_dead}
use Rattle.dw_ranges.proofs.live.keep_live.Given as goal

abbrev pub invariant-loop-k : goal.invariant-loop-k
invariant-loop-k l =
    FiltersInPlace (is_live l.code) l.initial.ranges.items l.ranges.items l.kept l.k
    × (l.dead ≡ count_by (is_dead l.code) (take l.k l.initial.ranges.items))

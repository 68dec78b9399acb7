use Rattle.std.proofs.Common.{◌≡◌, ◌-◌, ◌++◌, drop, length}
use Rattle.dw_entries.specs.Views.{all_entries}
use Rattle.dw_addresses.specs.Frames.{frames_of, place_in}
use Rattle.dw_addresses.proofs.frames.push_functions.Given as goal

abbrev pub invariant-loop-k : goal.invariant-loop-k
invariant-loop-k l =
    (l.frames.items ≡ l.initial.frames.items
    ++ frames_of (all_entries l.entries) l.fn.row (drop (length l.functions - l.k) l.functions))
    × (l.place ≡ place_in (all_entries l.entries) l.fn.row (drop (length l.functions - l.k) l.functions))

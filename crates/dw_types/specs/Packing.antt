-- State: a graph in two lists: all steps, and where those of each node end.
use Rattle.std.specs.Prelude.{ℕ, ◌-◌, ◌<◌, ◌≤◌, List, [], ◌∷◌, length, take, drop, slice_index}
use Rattle.dw_types.specs.Graphs.{Graph}

-- the steps from a place on, cut at the ends
abbrev pub cut : List ℕ → ℕ → List ℕ → Graph
cut steps from [] = []
cut steps from (end ∷ ends) = take (end - from) (drop from steps) ∷ cut steps end ends

-- where the steps of a node start
abbrev pub begin_of : List ℕ → ℕ → ℕ
begin_of ends node = slice_index (0 ∷ ends) node

-- the steps of no node end before they start, or past the last step
abbrev pub CutsInOrder : List ℕ → List ℕ → Type 0
CutsInOrder steps ends =
    (node : ℕ) → node < length ends
    → (begin_of ends node ≤ slice_index ends node) × (slice_index ends node ≤ length steps)

-- each step goes to one of so many nodes
abbrev pub LeadsBelow : List ℕ → ℕ → Type 0
LeadsBelow steps nodes = (k : ℕ) → k < length steps → slice_index steps k < nodes

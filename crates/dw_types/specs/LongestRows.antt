-- Chapter: how many steps the longest row of steps from a node of a graph has.
use Rattle.std.specs.Prelude.{◌≡◌, ℕ, zero, suc, ◌+◌, ◌<◌, ◌≤◌, ◌⊎◌, List, length, slice_index, Contains}
use Rattle.dw_types.specs.Graphs.{Graph, steps_of, step_at, IsStep}

-- a row of so many steps starts at a node
abbrev pub HasRow : Graph → ℕ → ℕ → Type 0
HasRow graph node zero = Unit {0}
HasRow graph node (suc count) = (next : ℕ) × IsStep graph node next × HasRow graph next count

-- the longest row of steps from a node has so many
pub record IsLongest (graph : Graph) (node count : ℕ) : Type 0 where
  pub has_row : HasRow graph node count
  pub none_longer : (k : ℕ) → HasRow graph node k → k ≤ count

-- the longest rows from some nodes
abbrev pub AreLongest : Graph → List ℕ → (ℕ → ℕ) → Type 0
AreLongest graph nodes counts = (node : ℕ) → Contains nodes node → IsLongest graph node (counts node)

-- one more than the largest count at the steps of a node, and 0 if it has none
pub record IsOneMore (graph : Graph) (counts : List ℕ) (node count : ℕ) : Type 0 where
  pub above : (k : ℕ) → k < length (steps_of graph node) → slice_index counts (step_at graph node k) < count
  pub tight : (count ≡ 0)
      ⊎ ((k : ℕ) × (k < length (steps_of graph node)) × (count ≡ slice_index counts (step_at graph node k) + 1))

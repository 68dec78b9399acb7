-- Chapter: which nodes of a graph reach a cycle, and an order of the others.
use Rattle.std.specs.Prelude.{◌≡◌, ◌≢◌, ℕ, ◌<◌, List, length, slice_index, Contains}
use Rattle.dw_types.specs.Graphs.{Graph, steps_of, step_at, IsStep}
use Rattle.dw_types.specs.Paths.{ReachesCycle}

-- each node of the list comes after those that its steps lead to
abbrev pub ComeInOrder : Graph → List ℕ → Type 0
ComeInOrder graph nodes =
    (place k : ℕ) → place < length nodes → k < length (steps_of graph (slice_index nodes place))
    → (before : ℕ) × (before < place) × (slice_index nodes before ≡ step_at graph (slice_index nodes place) k)

-- nodes that reach no cycle, each once and after those that its steps lead to; each other node reaches a cycle
pub record AreClear (graph : Graph) (nodes : List ℕ) : Type 0 where
  pub within : (place : ℕ) → place < length nodes → slice_index nodes place < length graph
  pub once : (i j : ℕ) → i < j → j < length nodes → slice_index nodes i ≢ slice_index nodes j
  pub ordered : ComeInOrder graph nodes
  pub others : (node : ℕ) → node < length graph → (Contains nodes node → ⊥) → ReachesCycle (IsStep graph) node

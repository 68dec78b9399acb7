-- Chapter: an order of the nodes of a graph along its steps.
use Rattle.std.specs.Prelude.{◌≡◌, ℕ, ◌+◌, ◌<◌, ◌≤◌, List, length, slice_index}
use Rattle.dw_types.specs.Graphs.{Graph, FallsAlong, step_count, steps_of}

-- the rank of each node, the nodes by rising rank, how many turns it took to rank them, and how many of the first have
-- no steps
pub record Ranking : Type 0 where
  pub ranks : List ℕ
  pub by_rank : List ℕ
  pub turns : ℕ
  pub leaves : ℕ

-- so many of the first nodes by rank have no steps
abbrev pub AreLeaves : Graph → List ℕ → ℕ → Type 0
AreLeaves graph by_rank count =
    (count ≤ length by_rank) × ((k : ℕ) → k < count → length (steps_of graph (slice_index by_rank k)) ≡ 0)

-- each node has a rank, each step goes to a smaller one, and there were as many turns as nodes and steps
pub record IsOrderOf (graph : Graph) (order : Ranking) : Type 0 where
  pub nodes : length order.ranks ≡ length graph
  pub falls : FallsAlong graph order.ranks
  pub turns : order.turns ≡ length graph + step_count graph
  pub listed : (node : ℕ) → node < length graph
      → (slice_index order.ranks node < length order.by_rank)
      × (slice_index order.by_rank (slice_index order.ranks node) ≡ node)
  pub ranked : (k : ℕ) → k < length order.by_rank
      → (slice_index order.by_rank k < length graph) × (slice_index order.ranks (slice_index order.by_rank k) ≡ k)
  pub leaves : AreLeaves graph order.by_rank order.leaves

-- Chapter: graphs of steps, lists of nodes along steps, and cycles.
use Rattle.std.specs.Prelude.{◌≡◌, ◌≢◌, ℕ, suc, ◌+◌, ◌-◌, ◌<◌, ◌≤◌, List, [], length}
use Rattle.std.specs.Prelude.{slice_index, slice_index_or, sum_by}

-- the steps of each node, in order: the node k has the k-th list, and a step is the node that it goes to
abbrev pub Graph : Type 0
Graph = List (List ℕ)

-- the steps of a node; none past the last node
abbrev pub steps_of : Graph → ℕ → List ℕ
steps_of graph node = slice_index_or graph node []

-- the node that the k-th step of a node goes to
abbrev pub step_at : Graph → ℕ → ℕ → ℕ
step_at graph node k = slice_index (steps_of graph node) k

-- a number tells where the first step of a node goes: it is the one after that of the target. 0 tells nothing
abbrev pub AreFirsts : Graph → List ℕ → Type 0
AreFirsts graph firsts = (node to : ℕ) → slice_index firsts node ≡ suc to → step_at graph node 0 ≡ to

-- some step goes from one node to another
abbrev pub IsStep : Graph → ℕ → ℕ → Type 0
IsStep graph from to = (k : ℕ) × (k < length (steps_of graph from)) × (step_at graph from k ≡ to)

-- each step goes to a node
abbrev pub LeadsToNodes : Graph → Type 0
LeadsToNodes graph = (node k : ℕ) → k < length (steps_of graph node) → step_at graph node k < length graph

-- how many steps there are, two to one node counted as two
abbrev pub step_count : Graph → ℕ
step_count graph = sum_by length graph

-- each node of the list but the first is a step from the one before
abbrev pub FollowsSteps : Graph → List ℕ → Type 0
FollowsSteps graph nodes =
    (k : ℕ) → k + 1 < length nodes → IsStep graph (slice_index nodes k) (slice_index nodes (k + 1))

-- a closed list: at least two nodes, each a step from the one before, the first and the last equal
pub record IsClosed (graph : Graph) (nodes : List ℕ) : Type 0 where
  pub two : 2 ≤ length nodes
  pub steps : FollowsSteps graph nodes
  pub closed : slice_index nodes 0 ≡ slice_index nodes (length nodes - 1)

-- a cycle: a closed list that starts and ends with its least node, and has every other node once
pub record IsCycle (graph : Graph) (nodes : List ℕ) : Type 0 where
  pub closed : IsClosed graph nodes
  pub least : (k : ℕ) → k < length nodes → slice_index nodes 0 ≤ slice_index nodes k
  pub once : (i j : ℕ) → i < j → j + 1 < length nodes → slice_index nodes i ≢ slice_index nodes j

-- no list of nodes is closed
abbrev pub HasNoCycle : Graph → Type 0
HasNoCycle graph = (nodes : List ℕ) → IsClosed graph nodes → ⊥

-- each step goes to a node of smaller rank
abbrev pub FallsAlong : Graph → List ℕ → Type 0
FallsAlong graph ranks =
    (node k : ℕ) → k < length (steps_of graph node) → slice_index ranks (step_at graph node k) < slice_index ranks node

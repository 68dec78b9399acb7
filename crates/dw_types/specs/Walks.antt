-- State: what holds of the state of a walk over a graph before and after each turn.
use Rattle.std.specs.Prelude.{◌≡◌, ◌≢◌, ℕ, ◌+◌, ◌-◌, ◌^◌, ◌<◌, ◌≤◌, ◌⊎◌, Bool, true, false, List, [], length}
use Rattle.std.specs.Prelude.{slice_index}
use Rattle.std.specs.Prelude.{Option, Some, None, sum, count_by}
use Rattle.dw_types.specs.Paths.{ReachesCycle}
use Rattle.dw_types.specs.declared.walk.Mark.{Mark}
use Rattle.dw_types.specs.declared.walk.Mark.TheVariants.{Fresh, Open, Ranked}
use Rattle.dw_types.specs.Graphs.{Graph, steps_of, step_at, FollowsSteps, IsStep}
use Rattle.dw_types.specs.WalkStates.{WalkState, Kept, counted, mark_in, mark_of}

-- marks, counters and ranks have a place for each node
pub record HasPlaces (graph : Graph) (s : WalkState) : Type 0 where
  pub marks : length s.marks ≡ length graph
  pub next : length s.next ≡ length graph
  pub ranks : length s.ranks ≡ length graph
  pub few : length graph < 2 ^ 64

-- the node is on the stack
abbrev pub IsStacked : WalkState → ℕ → Type 0
IsStacked s node = (k : ℕ) × (k < length s.stack) × (slice_index s.stack k ≡ node)

-- the stack has each open node once, but for those that were given up, which reach cycles; each node of the stack but
-- the first is a step from the one below
pub record HasStack (graph : Graph) (s : WalkState) : Type 0 where
  pub opened : (k : ℕ) → k < length s.stack → mark_of s (slice_index s.stack k) ≡ Open
  pub stacked : (node : ℕ) → mark_of s node ≡ Open
      → IsStacked s node ⊎ ((s.gave_up ≡ true) × ReachesCycle (IsStep graph) node)
  pub once : (i j : ℕ) → i < j → j < length s.stack → slice_index s.stack i ≢ slice_index s.stack j
  pub steps : FollowsSteps graph s.stack

-- the steps of a node that were looked at: none of a fresh one, all of one that was ranked
pub record HasCounters (graph : Graph) (s : WalkState) : Type 0 where
  pub within : (node : ℕ) → slice_index s.next node ≤ length (steps_of graph node)
  pub small : (node : ℕ) → slice_index s.next node < 2 ^ 64
  pub fresh : (node : ℕ) → mark_of s node ≡ Fresh → slice_index s.next node ≡ 0
  pub ranked : (node : ℕ) → mark_of s node ≡ Ranked → slice_index s.next node ≡ length (steps_of graph node)

-- the nodes that were ranked have ranks, which fall along their steps
pub record HasRanks (graph : Graph) (s : WalkState) : Type 0 where
  pub below : (node : ℕ) → mark_of s node ≡ Ranked → slice_index s.ranks node < length s.by_rank
  pub listed : (node : ℕ) → mark_of s node ≡ Ranked → slice_index s.by_rank (slice_index s.ranks node) ≡ node
  pub ranked : (k : ℕ) → k < length s.by_rank
      → (mark_of s (slice_index s.by_rank k) ≡ Ranked) × (slice_index s.ranks (slice_index s.by_rank k) ≡ k)
  pub leads : (node k : ℕ) → mark_of s node ≡ Ranked → k < length (steps_of graph node)
      → mark_of s (step_at graph node k) ≡ Ranked
  pub falls : (node k : ℕ) → mark_of s node ≡ Ranked → k < length (steps_of graph node)
      → slice_index s.ranks (step_at graph node k) < slice_index s.ranks node

-- the node was taken up
abbrev pub is_taken : Mark → Bool
is_taken Fresh = false
is_taken Open = true
is_taken Ranked = true

-- what holds in the middle of a turn too
pub record IsCoherent (graph : Graph) (s : WalkState) : Type 0 where
  pub places : HasPlaces graph s
  pub stack : HasStack graph s
  pub counters : HasCounters graph s
  pub ranks : HasRanks graph s
  pub turns : s.turns ≡ count_by is_taken s.marks + sum s.next

-- the node is on the stack, above a place
abbrev pub IsAbove : WalkState → ℕ → ℕ → Type 0
IsAbove s place node = (k : ℕ) × (place < k) × (k < length s.stack) × (slice_index s.stack k ≡ node)

-- the node that the k-th step of the node at a place of the stack goes to
abbrev pub stack_step : Graph → WalkState → ℕ → ℕ → ℕ
stack_step graph s place k = step_at graph (slice_index s.stack place) k

-- each step that was looked at goes to a node that was ranked, or to one further up the stack
abbrev pub LooksUp : Graph → WalkState → Type 0
LooksUp graph s = (place k : ℕ) → place < length s.stack → k < slice_index s.next (slice_index s.stack place)
    → (mark_of s (stack_step graph s place k) ≡ Ranked) ⊎ IsAbove s place (stack_step graph s place k)

-- the state is one that a walk over the graph comes to
pub record IsWalk (graph : Graph) (s : WalkState) : Type 0 where
  pub coherent : IsCoherent graph s
  pub looks_up : LooksUp graph s

-- a step from the node on top of the stack goes to an open node
pub record IsAtCycle (graph : Graph) (s : WalkState) (to : ℕ) : Type 0 where
  pub coherent : IsCoherent graph s
  pub some : 0 < length s.stack
  pub closes : IsStep graph (slice_index s.stack (length s.stack - 1)) to
  pub opened : mark_of s to ≡ Open

-- what is kept is that of a state that a walk over the graph comes to
pub record IsKept (graph : Graph) (it : Kept) : Type 0 where
  pub next : List ℕ
  pub walk : IsWalk graph (counted it next)
  pub long : length it.looked ≡ length it.stack
  pub looked : (k : ℕ) → k < length it.stack → slice_index it.looked k ≡ slice_index next (slice_index it.stack k)

-- the walk goes on with an empty stack, or a step goes to an open node
abbrev pub ComesTo : Graph → Kept → Option ℕ → Type 0
ComesTo graph it None = IsKept graph it × (it.stack ≡ [])
ComesTo graph it (Some to) = (next : List ℕ) × IsAtCycle graph (counted it next) to

-- a node that was taken up is not fresh again
abbrev pub KeepsTaken : (old new : List Mark) → Type 0
KeepsTaken old new = (node : ℕ) → mark_in new node ≡ Fresh → mark_in old node ≡ Fresh

-- each node without steps was taken up
abbrev pub HasLeaves : Graph → List Mark → Type 0
HasLeaves graph marks =
    (node : ℕ) → node < length graph → length (steps_of graph node) ≡ 0 → mark_in marks node ≢ Fresh

-- the nodes that had a rank have it still
abbrev pub KeepsRanks : (old new : List ℕ) → Type 0
KeepsRanks old new =
    (length old ≤ length new) × ((k : ℕ) → k < length old → slice_index new k ≡ slice_index old k)

-- steps of a node from one on, up to another one, go to nodes that were ranked
abbrev pub GoToRanked : Graph → List Mark → ℕ → (from end : ℕ) → Type 0
GoToRanked graph marks node from end =
    (k : ℕ) → from ≤ k → k < end → mark_in marks (step_at graph node k) ≡ Ranked

-- the step is the first of a node, from one on, that goes to a node that was not ranked: to this one
pub record IsFirstOther (graph : Graph) (marks : List Mark) (node from last to : ℕ) : Type 0 where
  pub after : from ≤ last
  pub step_in : last < length (steps_of graph node)
  pub earlier : GoToRanked graph marks node from last
  pub leads : to ≡ step_at graph node last
  pub other : mark_in marks to ≢ Ranked

-- how many steps of a node are looked at, once those from one on are, up to the first that goes to a node that was not
-- ranked, if there is one
abbrev pub LooksOn : Graph → List Mark → (node from looked : ℕ) → Option ℕ → Type 0
LooksOn graph marks node from looked None =
    (looked ≡ length (steps_of graph node)) × GoToRanked graph marks node from looked
LooksOn graph marks node from looked (Some to) =
    (last : ℕ) × (looked ≡ last + 1) × IsFirstOther graph marks node from last to

-- a node was taken up: each node that was taken up from there on has its rank, or a step goes to an open node
pub record HasWalked (graph : Graph) (old new : Kept) (stop : Option ℕ) : Type 0 where
  pub comes : ComesTo graph new stop
  pub taken : KeepsTaken old.marks new.marks
  pub gave_up : new.gave_up ≡ old.gave_up
  pub ranks : KeepsRanks old.by_rank new.by_rank

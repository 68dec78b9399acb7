-- State: the state of a walk over a graph, what it keeps of it, and what it is after each kind of turn.
use Rattle.std.specs.Prelude.{Bool, true, ℕ, ◌+◌, ◌-◌, List, [], ◌∷◌, ◌++◌, length, take}
use Rattle.std.specs.Prelude.{slice_index, slice_index_or, slice_set}
use Rattle.dw_types.specs.declared.walk.Mark.{Mark}
use Rattle.dw_types.specs.declared.walk.Mark.TheVariants.{Fresh, Open, Ranked}

-- what a walk keeps: the mark and the rank of each node, the nodes that were ranked in their order, the nodes that were
-- taken up and not ranked yet, how many steps of each of these were looked at, the turns so far, and whether such nodes
-- were given up
pub record Kept : Type 0 where
  pub marks : List Mark
  pub ranks : List ℕ
  pub by_rank : List ℕ
  pub stack : List ℕ
  pub looked : List ℕ
  pub turns : ℕ
  pub gave_up : Bool

-- how far a walk has come with a node
abbrev pub mark_in : List Mark → ℕ → Mark
mark_in marks node = slice_index_or marks node Fresh

-- what is kept, with a node on the stack of which so many steps were looked at
abbrev pub with_hand : Kept → ℕ → ℕ → Kept
with_hand it node looked = record it { stack = it.stack ++ node ∷ []; looked = it.looked ++ looked ∷ [] }

-- what is kept once a node is taken up, which is not on the stack yet
abbrev pub opened : Kept → ℕ → Kept
opened it node = record it { marks = slice_set it.marks node Open; turns = it.turns + 1 }

-- what is kept once so many steps were looked at
abbrev pub turned : Kept → ℕ → Kept
turned it count = record it { turns = it.turns + count }

-- what is kept once a node has the next rank, which is not on the stack any more
abbrev pub ranked : Kept → ℕ → Kept
ranked it node = record it {
  marks = slice_set it.marks node Ranked;
  ranks = slice_set it.ranks node (length it.by_rank);
  by_rank = it.by_rank ++ node ∷ [];
}

-- what is kept once the nodes on the stack are given up
abbrev pub without_stack : Kept → Kept
without_stack it = record it { stack = []; looked = []; gave_up = true }

-- the state of a walk: what it keeps, but how many steps were looked at of each node, also of those not on the stack
pub record WalkState : Type 0 where
  pub marks : List Mark
  pub next : List ℕ
  pub ranks : List ℕ
  pub by_rank : List ℕ
  pub stack : List ℕ
  pub turns : ℕ
  pub gave_up : Bool

-- the state by what is kept, and by how many steps of each node were looked at
abbrev pub counted : Kept → List ℕ → WalkState
counted it next = record {
  marks = it.marks;
  next = next;
  ranks = it.ranks;
  by_rank = it.by_rank;
  stack = it.stack;
  turns = it.turns;
  gave_up = it.gave_up;
}

-- how far the walk has come with a node
abbrev pub mark_of : WalkState → ℕ → Mark
mark_of s node = mark_in s.marks node

-- the state once a node is put on the stack
abbrev pub taken_up : WalkState → ℕ → WalkState
taken_up s node = record s { marks = slice_set s.marks node Open; stack = s.stack ++ node ∷ []; turns = s.turns + 1 }

-- the state once so many more steps of a node were looked at
abbrev pub with_steps : WalkState → ℕ → ℕ → WalkState
with_steps s node count =
    record s { next = slice_set s.next node (slice_index s.next node + count); turns = s.turns + count }

-- the state once the node on top of the stack has the next rank
abbrev pub with_rank : WalkState → ℕ → WalkState
with_rank s node = record s {
  marks = slice_set s.marks node Ranked;
  ranks = slice_set s.ranks node (length s.by_rank);
  by_rank = s.by_rank ++ node ∷ [];
  stack = take (length s.stack - 1) s.stack;
}

-- the state once the nodes on the stack are given up
abbrev pub given_up : WalkState → WalkState
given_up s = record s { stack = []; gave_up = true }

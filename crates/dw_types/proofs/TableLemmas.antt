-- Lines that read a table only at a node's steps: where ranks fall along the steps, exactly one table obeys them.
use Rattle.std.proofs.Common.{rules, ◌≡◌, ℕ, ◌<◌, List, length, get_or, arith, sym, ap, ◌∙◌, suc, zero, None}
use Rattle.dw_types.specs.Graphs.{Graph, steps_of, step_at, LeadsToNodes, FallsAlong}
use Rattle.dw_types.specs.SizeTables.{Size, cap_size}

-- a line for each node, which says its size by a table
abbrev pub Lines : Type 0
Lines = (ℕ → Size) → ℕ → Size

abbrev pub SameAtSteps : Graph → (ℕ → Size) → (ℕ → Size) → ℕ → Type 0
SameAtSteps graph table other node =
    (k : ℕ) → k < length (steps_of graph node) → table (step_at graph node k) ≡ other (step_at graph node k)

abbrev pub IsLocal : Graph → Lines → Type 0
IsLocal graph line =
    (table other : ℕ → Size) (node : ℕ) → node < length graph → SameAtSteps graph table other node
    → line table node ≡ line other node

abbrev pub ObeysLines : Graph → Lines → (ℕ → Size) → Type 0
ObeysLines graph line table = (node : ℕ) → node < length graph → table node ≡ line table node

abbrev pub SameAt : Graph → (ℕ → Size) → (ℕ → Size) → Type 0
SameAt graph table other = (node : ℕ) → node < length graph → table node ≡ other node

-- the value of a node by so many uses of the lines
abbrev pub size_by : Lines → ℕ → ℕ → Size
size_by line zero node = None
size_by line (suc uses) node = line (size_by line uses) node

-- as many uses as its rank and one more
abbrev pub size_by_rank : Lines → List ℕ → ℕ → Size
size_by_rank line ranks node = size_by line (suc (get_or ranks node 0)) node

module _ (graph : Graph) (ranks : List ℕ) (falls : FallsAlong graph ranks) (leads : LeadsToNodes graph) where
  below-same : (line : Lines) → IsLocal graph line → (table other : ℕ → Size) → ObeysLines graph line table
      → ObeysLines graph line other
      → (bound node : ℕ) → node < length graph → get_or ranks node 0 < bound → table node ≡ other node
  below-same line local table other left right zero node in_graph below = absurd (omega arith)
  below-same line local table other left right (suc bound) node in_graph below =
      left node in_graph
      ∙ (local table other node in_graph (λ k in_steps.
      let fall = falls node k in_steps in
      below-same line local table other left right bound (step_at graph node k) (leads node k in_steps) (omega arith))
      ∙ sym (right node in_graph))

  -- two tables that obey the lines are the same
  pub only-one : (line : Lines) → IsLocal graph line → (table other : ℕ → Size) → ObeysLines graph line table
      → ObeysLines graph line other → SameAt graph table other
  only-one line local table other left right node in_graph =
      below-same line local table other left right (suc (get_or ranks node 0)) node in_graph (omega arith)

  uses-same : (line : Lines) → IsLocal graph line → (f g node : ℕ) → node < length graph → get_or ranks node 0 < f
      → get_or ranks node 0 < g → size_by line f node ≡ size_by line g node
  uses-same line local zero g node in_graph left right = absurd (omega arith)
  uses-same line local (suc f) zero node in_graph left right = absurd (omega arith)
  uses-same line local (suc f) (suc g) node in_graph left right =
      local (size_by line f) (size_by line g) node in_graph (λ k in_steps.
      let fall = falls node k in_steps in
      uses-same line local f g (step_at graph node k) (leads node k in_steps) (omega arith) (omega arith))

  -- some table obeys the lines
  pub some-obeys : (line : Lines) → IsLocal graph line → ObeysLines graph line (size_by_rank line ranks)
  some-obeys line local node in_graph = search (rules, uses-same)

  -- a table that obeys capped lines is the capped table
  pub capped-table : (line : Lines) → IsLocal graph line → (limit : ℕ)
      → ((table : ℕ → Size) (node : ℕ)
      → cap_size limit (line table node) ≡ cap_size limit (line (λ n. cap_size limit (table n)) node))
      → (exact found : ℕ → Size) → ObeysLines graph line exact
      → ObeysLines graph (λ table node. cap_size limit (line table node)) found
      → SameAt graph found (λ node. cap_size limit (exact node))
  capped-table line local limit caps exact found left right =
      let capped : Lines = λ table node. cap_size limit (line table node) in
      let capped_local : IsLocal graph capped = λ table other node in_graph same. ap (cap_size limit)
      (local table other node in_graph same) in
      let capped_exact : ObeysLines graph capped (λ node. cap_size limit (exact node)) = λ node in_graph. ap
      (cap_size limit) (left node in_graph) ∙ caps exact node in
      only-one capped capped_local found (λ node. cap_size limit (exact node)) right capped_exact

  -- a table that is the same as one that obeys the lines obeys them too
  pub same-obeys : (line : Lines) → IsLocal graph line → (exact found : ℕ → Size) → ObeysLines graph line exact
      → SameAt graph found exact → ObeysLines graph line found
  same-obeys line local exact found obeys same node in_graph = search rules

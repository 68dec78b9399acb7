-- Laws: the nodes and steps of a graph that is cut from a list of steps.
use Rattle.std.proofs.Common.{◌≡◌, ℕ, ◌+◌, ◌-◌, ◌<◌, ◌≤◌, List, [], ◌∷◌, ◌++◌, length, get_or, take, drop, inl, inr}
use Rattle.std.proofs.Common.{arith, refl, ap, ◌∙◌, suc, zero, length-append, length-drop}
use Rattle.std.proofs.lemmas.Bool.{cases_lt}
use Rattle.std.proofs.lemmas.List.{length-take-le, get_or-take, get_or-drop, get_or_past, take_all, take-append-le}
use Rattle.std.proofs.lemmas.List.{drop-append-le, drop_at}
use Rattle.dw_types.specs.Graphs.{Graph, steps_of, step_at, LeadsToNodes}
use Rattle.dw_types.specs.Packing.{cut, begin_of, CutsInOrder, LeadsBelow}

pub length-cut : (steps : List ℕ) (from : ℕ) (ends : List ℕ) → length (cut steps from ends) ≡ length ends
length-cut steps from [] = refl
length-cut steps from (end ∷ ends) = ap suc (length-cut steps end ends)

-- the steps of a node are between its start and its end
pub cut-at : (steps : List ℕ) (from : ℕ) (ends : List ℕ) (node : ℕ) → node < length ends
    → get_or (cut steps from ends) node []
    ≡ take (get_or ends node 0 - get_or (from ∷ ends) node 0) (drop (get_or (from ∷ ends) node 0) steps)
cut-at steps from [] node below = absurd (omega arith)
cut-at steps from (end ∷ ends) zero below = refl
cut-at steps from (end ∷ ends) (suc node) below = cut-at steps end ends node (omega arith)

pub cut-length : (steps ends : List ℕ) (node : ℕ) → CutsInOrder steps ends → node < length ends
    → length (steps_of (cut steps 0 ends) node) ≡ get_or ends node 0 - begin_of ends node
cut-length steps ends node order below =
    let here = order node below in
    let rest = length-drop (begin_of ends node) steps in
    rw (cut-at steps 0 ends node below)
    (length-take-le (get_or ends node 0 - begin_of ends node) (drop (begin_of ends node) steps) (omega arith))

pub cut-step : (steps ends : List ℕ) (node k : ℕ) → CutsInOrder steps ends → node < length ends
    → k < length (steps_of (cut steps 0 ends) node)
    → (begin_of ends node + k < length steps)
    × (step_at (cut steps 0 ends) node k ≡ get_or steps (begin_of ends node + k) 0)
cut-step steps ends node k order below in_steps =
    let here = order node below in
    let short : k < get_or ends node 0 - begin_of ends node =
    rw (cut-length steps ends node order below) at in_steps in (
      omega arith,
      rw (cut-at steps 0 ends node below)
          (get_or-take _ (drop (begin_of ends node) steps) k 0 short ∙ get_or-drop (begin_of ends node) steps k 0),
    )

pub cut-leads : (steps ends : List ℕ) → CutsInOrder steps ends → LeadsBelow steps (length ends)
    → LeadsToNodes (cut steps 0 ends)
cut-leads steps ends order leads node k in_steps =
    elim (cases_lt node (length ends)) [
      | inl below ↦
          let p = cut-step steps ends node k order below in_steps in
          rw (p.1, length-cut steps 0 ends) (leads _ p.0)
      | inr above ↦
          let none = get_or_past (cut steps 0 ends) node [] (rw length-cut above) in
          let some : k < length {A = ℕ} [] = rw none at in_steps in
          absurd (omega arith)
    ]

-- more steps at the end leave what was cut before
cut-append : (steps more : List ℕ) (from : ℕ) (ends : List ℕ) → from ≤ length steps
    → ((k : ℕ) → k < length ends → (get_or (from ∷ ends) k 0 ≤ get_or ends k 0) × (get_or ends k 0 ≤ length steps))
    → cut (steps ++ more) from ends ≡ cut steps from ends
cut-append steps more from [] here order = refl
cut-append steps more from (end ∷ ends) here order =
    let first = order 0 (omega arith) in
    let rest = length-drop from steps in
    rw (
      drop-append-le from steps more here,
      take-append-le (end - from) (drop from steps) more (omega arith),
      cut-append steps more end ends first.1 (λ k below. order (suc k) (omega arith)),
    ) refl

-- one more end cuts one more list
cut-push : (steps : List ℕ) (from : ℕ) (ends : List ℕ) (end : ℕ)
    → cut steps from (ends ++ end ∷ [])
    ≡ cut steps from ends
    ++ take (end - get_or (from ∷ ends) (length ends) 0) (drop (get_or (from ∷ ends) (length ends) 0) steps) ∷ []
cut-push steps from [] end = refl
cut-push steps from (first ∷ ends) end =
    ap (λ (graph : Graph). take (first - from) (drop from steps) ∷ graph) (cut-push steps first ends end)

-- one more node with its steps
pub cut-more : (steps row ends : List ℕ) → CutsInOrder steps ends → begin_of ends (length ends) ≡ length steps
    → cut (steps ++ row) 0 (ends ++ length (steps ++ row) ∷ []) ≡ cut steps 0 ends ++ row ∷ []
cut-more steps row ends order last =
    let long = length-append steps row in
    let size : length (steps ++ row) - length steps ≡ length row = omega arith in
    rw (
      cut-push (steps ++ row) 0 ends (length (steps ++ row)),
      cut-append steps row 0 ends (omega arith) order,
      last,
      drop_at steps row (length steps) refl,
      size,
      take_all (length row) row (omega arith),
    ) refl

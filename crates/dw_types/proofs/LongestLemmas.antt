-- The longest rows of steps from nodes, by those from the nodes that their steps lead to.
use Rattle.std.proofs.Common.{rules, ◌≡◌, ℕ, zero, suc, ◌+◌, ◌<◌, ◌≤◌, List, length, get_or, set, inl, inr, arith, sym, ◌∙◌, subst, get_or-set_same, get_or-set_other}
use Rattle.std.specs.Prelude.{◌⊎◌, Contains}
use Rattle.std.proofs.lemmas.Bool.{cases_eq, cases_lt}
use Rattle.std.proofs.lemmas.List.{get_or_default}
use Rattle.dw_types.proofs.ListLemmas.{at_set}
use Rattle.dw_types.specs.Paths.{Leads, IsOnCycle, ReachesCycle}
use Rattle.dw_types.specs.Cycles.{AreClear}
use Rattle.dw_types.specs.Graphs.{Graph, steps_of, step_at, IsStep}
use Rattle.dw_types.specs.LongestRows.{HasRow, IsLongest, AreLongest, IsOneMore}

-- a node by the nodes that its steps lead to
module _ (graph : Graph) (counts : List ℕ) (node : ℕ) where
  pub longest-above : (count : ℕ) → IsOneMore graph counts node count
      → ((k : ℕ) → k < length (steps_of graph node)
      → IsLongest graph (step_at graph node k) (get_or counts (step_at graph node k) 0))
      → IsLongest graph node count
  longest-above count above known = grind arith

-- the longest rows from the first nodes are known
abbrev pub KnownUpTo : Graph → List ℕ → List ℕ → ℕ → Type 0
KnownUpTo graph clear counts place =
    (k : ℕ) → k < place → IsLongest graph (get_or clear k 0) (get_or counts (get_or clear k 0) 0)

-- no row has more steps than there are nodes before a place
abbrev pub AreFew : List ℕ → ℕ → Type 0
AreFew counts place = (node : ℕ) → get_or counts node 0 ≤ place

module _ (graph : Graph) (clear : List ℕ) (h : AreClear graph clear) (counts : List ℕ) (place : ℕ) where
  -- what is known at the steps of the node at this place
  known-step : KnownUpTo graph clear counts place → place < length clear → (k : ℕ)
      → k < length (steps_of graph (get_or clear place 0))
      → IsLongest graph (step_at graph (get_or clear place 0) k)
      (get_or counts (step_at graph (get_or clear place 0) k) 0)
  known-step known below k within =
      let (before, less, same) = h.ordered place k below within in
      let P : ℕ → Type 0 = λ n. IsLongest graph n (get_or counts n 0) in
      subst P same (known before less)

  in-counts : length counts ≡ length graph → place < length clear → get_or clear place 0 < length counts
  in-counts long below = search rules

  pub known-more : (count : ℕ) → length counts ≡ length graph → place < length clear
      → KnownUpTo graph clear counts place
      → IsOneMore graph counts (get_or clear place 0) count
      → KnownUpTo graph clear (set counts (get_or clear place 0) count) (place + 1)
  known-more count long below known above k within = elim (cases_eq (get_or clear k 0) node) [
    | inl same ↦
        let P : ℕ → Type 0 = λ n. IsLongest graph n (get_or (set counts node count) n 0) in
        subst P (sym same) (rw (get_or-set_same counts node count 0 (in-counts long below))
        (longest-above graph counts node count above (known-step known below)))
    | inr other ↦ search (rules, cases_lt, get_or-set_other)
  ]
    where
      node : ℕ
      node = get_or clear place 0

  few-above : (node count : ℕ) → AreFew counts place
      → (count ≡ 0) ⊎ ((k : ℕ) × (k < length (steps_of graph node))
      × (count ≡ get_or counts (step_at graph node k) 0 + 1)) → count ≤ place + 1
  few-above node count few (inl e) = omega arith
  few-above node count few (inr (k, within, e)) = search rules

  pub few-more : (count : ℕ) → length counts ≡ length graph → place < length clear → AreFew counts place
      → IsOneMore graph counts (get_or clear place 0) count
      → AreFew (set counts (get_or clear place 0) count) (place + 1)
  few-more count long below few above n = search (rules, at_set, in-counts, few-above)

  pub known-all : length clear ≤ place → KnownUpTo graph clear counts place
      → AreLongest graph clear (λ node. get_or counts node 0)
  known-all over known node (k, w, e) =
      let same : get_or clear k 0 ≡ node = get_or_default clear k 0 node w ∙ e in
      let P : ℕ → Type 0 = λ n. IsLongest graph n (get_or counts n 0) in
      subst P same (known k (omega arith))

-- a row that goes on where some steps lead
pub row-after : (graph : Graph) (k n from to : ℕ) → Leads (IsStep graph) k from to → HasRow graph to n
    → HasRow graph from (k + n)
row-after graph zero n from to same row = search rules
row-after graph (suc k) n from to (next, step, led) row =
    let P : ℕ → Type 0 = λ m. HasRow graph from m in
    let e : suc (k + n) ≡ suc k + n = omega arith in
    subst P e (next, step, row-after graph k n next to led row)

-- ---- nodes that reach no cycle

module _ (graph : Graph) (clear : List ℕ) (h : AreClear graph clear) where
  -- steps from one of them lead to one that is at least as many places before it
  led-before : (k place to : ℕ) → place < length clear → Leads (IsStep graph) k (get_or clear place 0) to
      → (before : ℕ) × (before + k ≤ place) × (get_or clear before 0 ≡ to)
  led-before zero place to within same = search rules
  led-before (suc k) place to within (next, (m, below, is), led) =
      let (before, less, same) = h.ordered place m within below in
      let P : ℕ → Type 0 = λ n. Leads (IsStep graph) k n to in
      let (last, fits, ends) = led-before k before to (omega arith) (subst P (sym (same ∙ is)) led) in
      (last, omega (arith, fits), ends)

  off-cycle : (most place : ℕ) → place < most → place < length clear → IsOnCycle (IsStep graph) (get_or clear place 0)
      → ⊥
  off-cycle zero place less within cycle = absurd (omega arith)
  off-cycle (suc most) place less within (k, led) =
      let (before, fits, same) = led-before (suc k) place (get_or clear place 0) within led in
      off-cycle most before (omega arith) (omega arith) (subst (IsOnCycle (IsStep graph)) (sym same) (k, led))

  -- no step from one of them leads to a cycle
  pub clear-free : (node : ℕ) → Contains clear node → ReachesCycle (IsStep graph) node → ⊥
  clear-free node (place, within, is) (k, to, led, cycle) =
      let here : get_or clear place 0 ≡ node = get_or_default clear place 0 node within ∙ is in
      let P : ℕ → Type 0 = λ n. Leads (IsStep graph) k n to in
      let (before, fits, same) = led-before k place to within (subst P (sym here) led) in
      off-cycle (suc before) before (omega arith) (omega arith) (subst (IsOnCycle (IsStep graph)) (sym same) cycle)

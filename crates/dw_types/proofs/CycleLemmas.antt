-- Closed lists of steps: none where ranks fall, and how a ring is turned into a cycle that begins with its least node.
use Rattle.std.proofs.Common.{rules, ◌≡◌, ◌≢◌, ℕ, ◌+◌, ◌-◌, ◌<◌, ◌≤◌, ◌⊎◌, List, [], ◌∷◌, ◌++◌, length, get_or, take, drop, inl, inr, arith, refl, sym, ◌∙◌, ap, suc, zero, length-append, length-drop}
use Rattle.std.proofs.lemmas.Bool.{cases_lt, cases_order}
use Rattle.std.proofs.lemmas.List.{length_push, get_or_at, get_or_append_left, get_or-append_right, get_or-take, get_or-drop, length-take-le}
use Rattle.dw_types.specs.Graphs.{Graph, IsStep, FollowsSteps, IsCycle, HasNoCycle, FallsAlong}

-- along a list of steps the rank falls by at least one at each
falls-by : (graph : Graph) (ranks nodes : List ℕ) → FallsAlong graph ranks → FollowsSteps graph nodes → (k : ℕ)
    → k < length nodes
    → get_or ranks (get_or nodes k 0) 0 + k ≤ get_or ranks (get_or nodes 0 0) 0
falls-by graph ranks nodes falls steps zero in_list = omega arith
falls-by graph ranks nodes falls steps (suc k) in_list =
    let before = falls-by graph ranks nodes falls steps k (omega arith) in
    let next : k + 1 ≡ suc k = omega arith in
    let step = steps k (omega arith) in
    let fall = falls (get_or nodes k 0) step.0 step.1 in
    let lower : get_or ranks (get_or nodes (suc k) 0) 0
    < get_or ranks (get_or nodes k 0) 0 = rw (← next) (rw (← step.2) fall) in
    omega arith

pub no_cycle-from_falls : (graph : Graph) (ranks : List ℕ) → FallsAlong graph ranks → HasNoCycle graph
no_cycle-from_falls graph ranks falls nodes closed =
    let two = closed.two in
    let last = falls-by graph ranks nodes falls closed.steps (length nodes - 1) (omega arith) in
    let same : get_or ranks (get_or nodes 0 0) 0
    ≡ get_or ranks (get_or nodes (length nodes - 1) 0) 0 = ap (λ (node : ℕ). get_or ranks node 0) closed.closed in
    omega arith

-- distinct nodes, each a step from the one before, and the first from the last
pub record IsRing (graph : Graph) (ring : List ℕ) : Type 0 where
  pub once : (i j : ℕ) → i < j → j < length ring → get_or ring i 0 ≢ get_or ring j 0
  pub steps : FollowsSteps graph ring
  pub closes : IsStep graph (get_or ring (length ring - 1) 0) (get_or ring 0 0)

-- the list round the ring from a place back to it
abbrev pub round : List ℕ → ℕ → List ℕ
round ring m = (drop m ring ++ take m ring) ++ get_or ring m 0 ∷ []

module _ (ring : List ℕ) (m : ℕ) (in_ring : m < length ring) where
  front-length : length (drop m ring ++ take m ring) ≡ length ring
  front-length = search (rules, length-append, length-drop, length-take-le)

  pub round-length : length (round ring m) ≡ length ring + 1
  round-length = search (rules, length_push, front-length)

  -- which place of the ring a place of the round is
  pub round-at : (k : ℕ) → k ≤ length ring → (j : ℕ) × (j < length ring) × (get_or (round ring m) k 0 ≡ get_or ring j 0)
      × (((k < length ring - m) × (j ≡ m + k)) ⊎ ((length ring - m ≤ k) × (j + length ring ≡ m + k)))
  round-at k within =
      let lead = length-drop m ring in
      let tail = length-take-le m ring (omega arith) in
      let all = front-length in
      elim (cases_lt k (length ring)) [
        | inl below ↦ elim (cases_lt k (length ring - m)) [
          | inl early ↦ (
            m + k,
            (omega arith),
            get_or_append_left (drop m ring ++ take m ring) _ 0 k (omega arith)
                ∙ (get_or_append_left (drop m ring) (take m ring) 0 k (omega arith) ∙ get_or-drop m ring k 0),
            inl (early, refl),
          )
          | inr late ↦ (
            k - (length ring - m),
            (omega arith),
            get_or_append_left (drop m ring ++ take m ring) _ 0 k (omega arith)
                ∙ (get_or-append_right (drop m ring) (take m ring) (length ring - m) k 0 lead late
                ∙ get_or-take m ring (k - (length ring - m)) 0 (omega arith)),
            inr (late, (omega arith)),
          )
        ]
        | inr over ↦
            let last : k ≡ length ring = omega arith in (
              m,
              in_ring,
              get_or_at (drop m ring ++ take m ring) (get_or ring m 0) [] 0 k (omega arith),
              inr
                  ((omega arith), (omega arith)),
            )
      ]

-- where a place of the round lies in the ring
abbrev LiesAt : ℕ → ℕ → ℕ → ℕ → Type 0
LiesAt n m k j = ((k < n - m) × (j ≡ m + k)) ⊎ ((n - m ≤ k) × (j + n ≡ m + k))

-- from one place of the round to the next
step-round : (graph : Graph) (ring : List ℕ) → IsRing graph ring → (m k i j : ℕ) → m < length ring → i < length ring
    → j < length ring
    → LiesAt (length ring) m k i → LiesAt (length ring) m (k + 1) j → IsStep graph (get_or ring i 0) (get_or ring j 0)
step-round graph ring h m k i j in_ring in_i in_j p q =
    elim (cases_lt (i + 1) (length ring)) [
      | inl below ↦
          let next : j ≡ i + 1 = elim p [
            | inl a ↦ elim q [
              | inl b ↦ (let x = a.1 in let y = b.1 in omega arith)
              | inr b ↦ (let x = a.1 in let y = b.1 in let z = a.0 in let w = b.0 in omega arith)
            ]
            | inr a ↦ elim q [
              | inl b ↦ (let x = a.1 in let y = b.1 in let z = a.0 in let w = b.0 in omega arith)
              | inr b ↦ (let x = a.1 in let y = b.1 in omega arith)
            ]
          ] in
          rw next (h.steps i below)
      | inr over ↦ search rules
    ]

-- two places of the round but its last are two of the ring
apart : (ring : List ℕ) (m k l i j : ℕ) → k < l → l < length ring → m < length ring → i < length ring → j < length ring
    → ((a b : ℕ) → a < b → b < length ring → get_or ring a 0 ≢ get_or ring b 0)
    → LiesAt (length ring) m k i → LiesAt (length ring) m l j → get_or ring i 0 ≢ get_or ring j 0
apart ring m k l i j lt in_ring in_m in_i in_j once p q same = search (rules, cases_order)

-- a ring, gone round from its least node, is a cycle
pub cycle-from_ring : (graph : Graph) (ring : List ℕ) (m : ℕ) → IsRing graph ring → m < length ring
    → ((k : ℕ) → k < length ring → get_or ring m 0 ≤ get_or ring k 0) → IsCycle graph (round ring m)
cycle-from_ring graph ring m h in_ring least =
    let long = round-length ring m in_ring in
    let at = round-at ring m in_ring in
    let p = at 0 (omega arith) in
    let same : p.0 ≡ m = elim p.3 [
      | inl q ↦ (let e = q.1 in omega arith)
      | inr q ↦ (let e = q.1 in let le = q.0 in absurd (omega arith))
    ] in
    let starts : get_or (round ring m) 0 0 ≡ get_or ring m 0 = p.2 ∙ ap (λ (j : ℕ). get_or ring j 0) same in
    let ends : get_or (round ring m) (length (round ring m) - 1) 0 ≡ get_or ring m 0 =
    get_or_at (drop m ring ++ take m ring) (get_or ring m 0) [] 0 (length (round ring m) - 1)
    (let e = front-length ring m in_ring in omega arith) in
    record {
      closed = record {
        two = omega arith;
        steps = λ k within.
            let p = at k (omega arith) in
            let q = at (k + 1) (omega arith) in
            let j = p.1 in
            let j' = q.1 in
            rw (p.2, q.2) (step-round graph ring h m k p.0 q.0 in_ring j j' p.3 q.3);
        closed = starts ∙ sym ends;
      };
      least = λ k within. let p = at k (omega arith) in rw (starts, p.2) (least p.0 p.1);
      once = λ i j lt within same.
          let p = at i (omega arith) in
          let q = at j (omega arith) in
          apart ring m i j p.0 q.0 lt (omega arith) in_ring p.1 q.1 h.once p.3 q.3 (sym p.2 ∙ (same ∙ q.2));
    }

-- a stack from one of its nodes on is a ring, where a step leads from its top to that node
pub ring-from_stack : (graph : Graph) (stack : List ℕ) (place to : ℕ) → place < length stack → get_or stack place 0 ≡ to
    → ((i j : ℕ) → i < j → j < length stack → get_or stack i 0 ≢ get_or stack j 0) → FollowsSteps graph stack
    → IsStep graph (get_or stack (length stack - 1) 0) to → IsRing graph (drop place stack)
ring-from_stack graph stack place to in_stack found once steps closes =
    let short = length-drop place stack in
    record {
      once =
          λ i j lt in_ring same. once (place + i) (place + j) (omega arith) (omega arith)
          (sym (get_or-drop place stack i 0) ∙ (same ∙ get_or-drop place stack j 0));
      steps = λ k in_ring.
          let next : place + (k + 1) ≡ (place + k) + 1 = omega arith in
          rw (get_or-drop place stack k 0, get_or-drop place stack (k + 1) 0, next) (steps (place + k) (omega arith));
      closes =
          let last : place + (length (drop place stack) - 1) ≡ length stack - 1 = omega arith in
          let first : place + 0 ≡ place = omega arith in
          rw (
            get_or-drop place stack (length (drop place stack) - 1) 0,
            get_or-drop place stack 0 0,
            last,
            first,
            found,
          ) closes;
    }

-- A node is taken up, or a step looked at: each turn of a walk leads to another state of one, and how many turns a walk
-- has taken.
use Rattle.std.proofs.Common.{rules, ◌≡◌, Option, None, Some, ℕ, ◌+◌, ◌^◌, ◌<◌, ◌≤◌, List, [], ◌∷◌, Bool, true, cond, length, get_or, arith, refl, sum, count_by, suc, ◌≢◌, ◌-◌, ◌⊎◌, inl, inr, sym, ◌∙◌, length-set, get_or-set_same}
use Rattle.std.proofs.lemmas.Grind.{common_steps}
use Rattle.std.specs.List.{sum_by}
use Rattle.std.proofs.lemmas.List.Sums.{sum_by-cons, sum_by-le, count_by-le-length, sum_by-set}
use Rattle.std.proofs.lemmas.List.Elements.{All-from_get_or}
use Rattle.std.proofs.lemmas.Bool.{cond-true, cases_lt}
use Rattle.std.proofs.lemmas.List.{length_push, get_or_push, get_or_past, get_or_append_left}
use Rattle.dw_types.specs.declared.walk.Mark.TheVariants.{Fresh, Ranked, Open}
use Rattle.dw_types.specs.Graphs.{Graph, step_count, steps_of, step_at, IsStep}
use Rattle.dw_types.specs.Walks.{IsCoherent, is_taken, HasPlaces, HasStack, HasCounters, IsAbove, IsWalk, LooksUp, stack_step}
use Rattle.dw_types.specs.WalkStates.{WalkState, mark_of, taken_up, with_steps}
use Rattle.dw_types.proofs.ListLemmas.{at_set, at_push}

-- a count of a list each of whose elements passes
count_by-all : {X : Type 0} (p : X → Bool) (xs : List X) (d : X) → ((k : ℕ) → k < length xs → p (get_or xs k d) ≡ true)
    → count_by p xs ≡ length xs
count_by-all p [] d all = refl
count_by-all {X} p (x ∷ xs) d all =
    let step = sum_by-cons (λ (y : X). cond (p y) 1 0) x xs in
    let rest = count_by-all p xs d (λ k below. all (suc k) (omega arith)) in
    let one : cond {A = ℕ} (p x) 1 0 ≡ 1 = cond-true (p x) 1 0 (all 0 (omega arith)) in
    omega arith

-- the node on top of the stack
pub record IsTop (s : WalkState) (node : ℕ) : Type 0 where
  pub some : 0 < length s.stack
  pub top : get_or s.stack (length s.stack - 1) 0 ≡ node

-- each step that was looked at goes to a node that was ranked, or to one further up the stack, or to the one that stops
abbrev pub LooksUpBut : Graph → WalkState → Option ℕ → Type 0
LooksUpBut graph s stop = (place k : ℕ) → place < length s.stack → k < get_or s.next (get_or s.stack place 0) 0
    → ((mark_of s (stack_step graph s place k) ≡ Ranked) ⊎ IsAbove s place (stack_step graph s place k))
    ⊎ (stop ≡ Some (stack_step graph s place k))

-- two sums, by their terms
sum-le : (counts : List ℕ) (graph : Graph) → length counts ≡ length graph
    → ((k : ℕ) → get_or counts k 0 ≤ length (get_or graph k [])) → sum counts ≤ sum_by length graph
sum-le [] [] e le = omega arith
sum-le [] (steps ∷ graph) e le = absurd (omega arith)
sum-le (n ∷ counts) [] e le = absurd (omega arith)
sum-le (n ∷ counts) (steps ∷ graph) e le =
    let left = sum_by-cons (λ (x : ℕ). x) n counts in
    let right = sum_by-cons length steps graph in
    let here = le 0 in
    let rest = sum-le counts graph (omega arith) (λ k. le (suc k)) in
    omega arith

sum-same : (counts : List ℕ) (graph : Graph) → length counts ≡ length graph
    → ((k : ℕ) → k < length graph → get_or counts k 0 ≡ length (get_or graph k [])) → sum counts ≡ sum_by length graph
sum-same [] [] e same = refl
sum-same [] (steps ∷ graph) e same = absurd (omega arith)
sum-same (n ∷ counts) [] e same = absurd (omega arith)
sum-same (n ∷ counts) (steps ∷ graph) e same =
    let left = sum_by-cons (λ (x : ℕ). x) n counts in
    let right = sum_by-cons length steps graph in
    let here = same 0 (omega arith) in
    let rest = sum-same counts graph (omega arith) (λ k below. same (suc k) (omega arith)) in
    omega arith

-- there are at most as many turns as nodes and steps
pub turns-le : (graph : Graph) (s : WalkState) → IsCoherent graph s → s.turns ≤ length graph + step_count graph
turns-le graph s h = search (rules, count_by-le-length, sum-le)

-- two more turns can be counted
pub turns-room : (graph : Graph) (s : WalkState) → IsCoherent graph s → s.turns + 2 < 2 ^ 128
turns-room graph s h =
    let turns = h.turns in
    let taken = count_by-le-length is_taken s.marks in
    let marks = h.places.marks in
    let next = h.places.next in
    let few = h.places.few in
    let looked = sum_by-le (λ (x : ℕ). x) 18446744073709551615 s.next
    (All-from_get_or (λ (x : ℕ). x ≤ 18446744073709551615) s.next 0
    (λ k below. let small = h.counters.small k in omega arith)) in
    omega arith

-- once each node was ranked, each node was taken up and each step looked at
pub turns-all : (graph : Graph) (s : WalkState) → IsCoherent graph s
    → ((node : ℕ) → node < length graph → mark_of s node ≡ Ranked) → s.turns ≡ length graph + step_count graph
turns-all graph s h all =
    let turns = h.turns in
    let marks = h.places.marks in
    let taken = count_by-all is_taken s.marks Fresh (λ k below. rw (all k (omega arith)) refl) in
    let looked = sum-same s.next graph h.places.next (λ k below. h.counters.ranked k (all k below)) in
    omega arith

pub top-opened : (graph : Graph) (s : WalkState) (node : ℕ) → HasStack graph s → IsTop s node → mark_of s node ≡ Open
top-opened graph s node h t = search rules

-- a node with a mark other than `Fresh` is one of the graph
pub in-graph : (graph : Graph) (s : WalkState) (node : ℕ) → HasPlaces graph s → (mark_of s node ≡ Fresh → ⊥)
    → node < length graph
in-graph graph s node h ne = search (rules, cases_lt, get_or_past)

-- looking at steps of the node on top

look-counters : (graph : Graph) (s : WalkState) (node count : ℕ) → IsCoherent graph s → IsTop s node
    → node < length s.next
    → get_or s.next node 0 + count ≤ length (steps_of graph node) → get_or s.next node 0 + count < 2 ^ 64
    → HasCounters graph (with_steps s node count)
look-counters graph s node count h t in_graph more small = search (rules, top-opened, at_set)

pub look-coherent : (graph : Graph) (s : WalkState) (node count : ℕ) → IsCoherent graph s → IsTop s node
    → node < length s.next
    → get_or s.next node 0 + count ≤ length (steps_of graph node) → get_or s.next node 0 + count < 2 ^ 64
    → IsCoherent graph (with_steps s node count)
look-coherent graph s node count h t in_graph more small = search (rules, length-set, look-counters, sum_by-set)

-- each step that is looked at goes to a node that was ranked, or to the one that stops
pub look-but : (graph : Graph) (s : WalkState) (node count : ℕ) (stop : Option ℕ) → IsWalk graph s
    → node < length s.next
    → ((k : ℕ) → get_or s.next node 0 ≤ k → k < get_or s.next node 0 + count
    → (mark_of s (step_at graph node k) ≡ Ranked) ⊎ (stop ≡ Some (step_at graph node k)))
    → LooksUpBut graph (with_steps s node count) stop
look-but graph s node count stop h in_graph known place k in_stack seen = search (rules, at_set, cases_lt)

-- where none stops, that is all
pub looked-all : (graph : Graph) (s : WalkState) → LooksUpBut graph s None → LooksUp graph s
looked-all graph s but place k in_stack seen = search rules

-- taking up a fresh node

module _ (graph : Graph) (s : WalkState) (node : ℕ) (h : IsCoherent graph s) (in_graph : node < length s.marks)
    (new : mark_of s node ≡ Fresh)
    (link : 0 < length s.stack → IsStep graph (get_or s.stack (length s.stack - 1) 0) node) where
  -- a mark afterwards is the one before, but for the node's own
  up-mark : (a : ℕ) → ((a ≡ node) × (mark_of (taken_up s node) a ≡ Open))
      ⊎ ((a ≢ node) × (mark_of (taken_up s node) a ≡ mark_of s a))
  up-mark a = search (rules, at_set)

  up-ranked : (a : ℕ) → mark_of s a ≡ Ranked → mark_of (taken_up s node) a ≡ Ranked
  up-ranked a done = search (rules, up-mark)

  was-ranked : (a : ℕ) → mark_of (taken_up s node) a ≡ Ranked → mark_of s a ≡ Ranked
  was-ranked a done = search (rules, up-mark)

  pub was-fresh : (a : ℕ) → mark_of (taken_up s node) a ≡ Fresh → mark_of s a ≡ Fresh
  was-fresh a done = search (rules, up-mark)

  up-length : length (taken_up s node).stack ≡ length s.stack + 1
  up-length = length_push s.stack node

  up-stack : HasStack graph (taken_up s node)
  up-stack = record {
    opened = search (rules, at_push, get_or-set_same, up-mark);
    stacked = λ a opened. elim (up-mark a) [
      | inl p ↦ inl (
        length s.stack,
        (let e = up-length in omega arith),
        get_or_push s.stack node 0 (length s.stack)
            refl ∙ sym p.0,
      )
      | inr p ↦ search (rules, up-length, get_or_append_left)
    ];
    once = search (rules, at_push, get_or_append_left);
    steps = λ k in_stack. elim (at_push s.stack (k + 1) node 0 in_stack) [
      | inl p ↦ search (rules, get_or_append_left)
      | inr p ↦
          let below : k < length s.stack = omega arith in
          let e = get_or_append_left s.stack (node ∷ []) 0 k below in
          rw (p.1, e) (h.stack.steps k p.0)
    ];
  }

  pub up-coherent : IsCoherent graph (taken_up s node)
  up-coherent = search (rules, length-set, up-stack, was-fresh, was-ranked, up-ranked, sum_by-set)

  pub up-looks_up : LooksUpBut graph s (Some node) → LooksUp graph (taken_up s node)
  up-looks_up but place k in_stack seen =
      elim (at_push s.stack place node 0 in_stack) [
        | inl p ↦ search rules
        | inr p ↦
            rw p.1 (elim (but place k p.0 (rw p.1 at seen)) [
              | inl known ↦ search (rules, up-ranked, up-length, get_or_append_left)
              | inr here ↦ inr (
                length s.stack,
                p.0,
                (let e = up-length in omega arith),
                get_or_push s.stack node 0
                    (length s.stack) refl ∙ (let same : node ≡ stack_step graph s place k = cc in same),
              )
            ])
      ]

-- a walk with an empty stack takes up a fresh node
module _ (graph : Graph) (s : WalkState) (node : ℕ) (h : IsWalk graph s) (empty : s.stack ≡ [])
    (in_graph : node < length graph) (new : mark_of s node ≡ Fresh) where
  first-in_marks : node < length s.marks
  first-in_marks = search rules

  first-link : 0 < length s.stack → IsStep graph (get_or s.stack (length s.stack - 1) 0) node
  first-link some = search rules

  pub first-walk : IsWalk graph (taken_up s node)
  first-walk = grind (arith, common_steps, up-coherent, first-in_marks, first-link, up-looks_up)

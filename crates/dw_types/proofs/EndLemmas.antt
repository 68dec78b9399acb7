-- How a walk begins, and what holds at its end, also where it goes on past cycles: the nodes that are given up reach
-- one, and those that have ranks reach none.
use Rattle.std.proofs.Common.{rules, ◌≡◌, ◌≢◌, ℕ, ◌^◌, ◌+◌, ◌<◌, ◌≤◌, get_or-set_other, ◌⊎◌, ◌∙◌, true, false, [], ◌∷◌, ◌++◌, length, get_or, replicate, set, inl, inr, arith, refl, sym, ap, sum, count_by, zero, suc, ◌-◌, List, subst}
use Rattle.std.proofs.lemmas.Bool.{cases_lt}
use Rattle.std.proofs.lemmas.List.{length-replicate, length_push, get_or-replicate, get_or_past, get_or_default, set-set}
use Rattle.std.proofs.lemmas.List.Sums.{sum_by-cons}
use Rattle.std.specs.Prelude.{Contains}
use Rattle.dw_types.specs.Paths.{ReachesCycle, Leads}
use Rattle.dw_types.specs.Cycles.{AreClear}
use Rattle.dw_types.specs.declared.walk.Mark.{Mark}
use Rattle.dw_types.specs.declared.walk.Mark.TheVariants.{Fresh, Open, Ranked}
use Rattle.dw_types.specs.Graphs.{AreFirsts, Graph, FallsAlong, IsStep, FollowsSteps, step_at, steps_of}
use Rattle.dw_types.specs.declared.flags.Flags.{Flags}
use Rattle.dw_types.specs.Orders.{AreLeaves, IsOrderOf}
use Rattle.dw_types.specs.StepFlags.{TellSteps}
use Rattle.dw_types.specs.StoredFlags.{flag_at}
use Rattle.dw_types.specs.Walks.{HasLeaves, HasStack, IsKept, IsWalk, KeepsRanks, KeepsTaken, is_taken, IsAtCycle}
use Rattle.dw_types.specs.RanksListed.{ranks_listed}
use Rattle.dw_types.specs.WalkStates.{Kept, WalkState, counted, given_up, mark_in, mark_of, opened, ranked, without_stack}
use Rattle.dw_types.proofs.HandLemmas.{first-ranked}
use Rattle.dw_types.proofs.ListLemmas.{at_push, at_set}
use Rattle.dw_types.proofs.RankLemmas.{ranks_listed-push}
use Rattle.dw_types.proofs.WalkLemmas.{in-graph, turns-all}

pub get_or-same : {X : Type 0} (n k : ℕ) (x : X) → get_or (replicate n x) k x ≡ x
get_or-same n k x = search (rules, cases_lt, get_or-replicate, get_or_past, length-replicate)

-- where first steps lead: nothing is known, and that of one node more

pub no-firsts : (graph : Graph) (n : ℕ) → AreFirsts graph (replicate n 0)
no-firsts graph n node to is = search (rules, get_or-same)

pub more-firsts : (graph : Graph) (firsts : List ℕ) (node first : ℕ) → node < length firsts
    → AreFirsts graph firsts → ((to : ℕ) → first ≡ suc to → step_at graph node 0 ≡ to)
    → AreFirsts graph (set firsts node first)
more-firsts graph firsts node first inside known here other to is =
    elim (at_set firsts node other first 0 inside) [
      | inl p ↦ rw p.0 (here to (sym p.1 ∙ is))
      | inr p ↦ known other to (sym p.1 ∙ is)
    ]

pub sum-zeros : (n : ℕ) → sum (replicate n 0) ≡ 0
sum-zeros zero = refl
sum-zeros (suc n) = search (rules, sum_by-cons, (sum-zeros n))

count-fresh : (n : ℕ) → count_by is_taken (replicate n Fresh) ≡ 0
count-fresh zero = refl
count-fresh (suc n) = search (rules, sum_by-cons, (count-fresh n))

-- what a walk keeps once some nodes have their ranks, and no other was taken up
abbrev pub begun : ℕ → List Mark → List ℕ → Kept
begun nodes marks by_rank =
    record {
      marks = marks;
      ranks = ranks_listed nodes by_rank;
      by_rank = by_rank;
      stack = [];
      looked = [];
      turns = length by_rank;
      gave_up = false;
    }

-- what it keeps before its first turn
abbrev start : ℕ → Kept
start n = begun n (replicate n Fresh) []

start-walk : (graph : Graph) → length graph < 2 ^ 64
    → IsWalk graph (counted (start (length graph)) (replicate (length graph) 0))
start-walk graph few = search (rules, get_or-same, length-replicate, sum-zeros, count-fresh)

pub start-kept : (graph : Graph) → length graph < 2 ^ 64 → IsKept graph (start (length graph))
start-kept graph few =
    record {
      next = replicate (length graph) 0;
      walk = start-walk graph few;
      long = refl;
      looked = λ k below. absurd (omega arith);
    }

-- one more node, which has no steps, has its rank
pub begun-more : (graph : Graph) (nodes : ℕ) (marks : List Mark) (by_rank : List ℕ) (node : ℕ)
    → IsKept graph (begun nodes marks by_rank) → node < length graph → mark_in marks node ≡ Fresh
    → length (steps_of graph node) ≡ 0 → IsKept graph (begun nodes (set marks node Ranked) (by_rank ++ node ∷ []))
begun-more graph nodes marks by_rank node h inside fresh none =
    let same : ranked (opened (begun nodes marks by_rank) node) node
    ≡ begun nodes (set marks node Ranked) (by_rank ++ node ∷ []) =
    rw (set-set marks node Open Ranked, ranks_listed-push nodes by_rank node, length_push by_rank node) refl in
    subst (IsKept graph) same (first-ranked graph (begun nodes marks by_rank) node h refl inside fresh none)

-- the nodes without steps before one have their ranks, and no other node was taken up
pub record HasBegun (graph : Graph) (marks : List Mark) (by_rank : List ℕ) (end : ℕ) : Type 0 where
  pub kept : IsKept graph (begun (length graph) marks by_rank)
  pub leaves : AreLeaves graph by_rank (length by_rank)
  pub taken : (node : ℕ) → node < end → length (steps_of graph node) ≡ 0 → mark_in marks node ≢ Fresh
  pub fresh : (node : ℕ) → end ≤ node → mark_in marks node ≡ Fresh

pub begun-none : (graph : Graph) → length graph < 2 ^ 64 → HasBegun graph (replicate (length graph) Fresh) [] 0
begun-none graph few =
    record {
      kept = start-kept graph few;
      leaves = (omega arith, λ k below. absurd (omega arith));
      taken = λ node below. absurd (omega arith);
      fresh = λ node after. get_or-same (length graph) node Fresh;
    }

module _ (graph : Graph) (marks : List Mark) (by_rank : List ℕ) (node : ℕ) (h : HasBegun graph marks by_rank node) where
  -- the next node has steps
  pub begun-other : length (steps_of graph node) ≢ 0 → HasBegun graph marks by_rank (node + 1)
  begun-other some =
      record {
        kept = h.kept;
        leaves = h.leaves;
        taken = λ other below none. elim (cases_lt other node) [
          | inl before ↦ h.taken other before none
          | inr after ↦
              let same : other ≡ node = omega arith in
              absurd (some (rw (← same) none))
        ];
        fresh = λ other after. h.fresh other (omega arith);
      }

  -- the next node has none, and is ranked
  pub begun-leaf : node < length graph → length (steps_of graph node) ≡ 0
      → HasBegun graph (set marks node Ranked) (by_rank ++ node ∷ []) (node + 1)
  begun-leaf inside none =
      let in_marks : node < length marks = (let long = h.kept.walk.coherent.places.marks in omega arith) in
      record {
        kept =
            begun-more graph (length graph) marks by_rank node h.kept inside (h.fresh node (omega arith)) none;
        leaves = (
          omega arith,
          λ k below. elim (at_push by_rank k node 0 below) [
            | inl p ↦ rw p.1 none
            | inr p ↦ rw p.1 (h.leaves.1 k p.0)
          ],
        );
        taken = λ other below empty. elim (at_set marks node other Ranked Fresh in_marks) [
          | inl p ↦ λ is. cc
          | inr p ↦ λ is. h.taken other (let apart = p.0 in omega arith) empty (sym p.1 ∙ is)
        ];
        fresh = λ other after. get_or-set_other marks node other Ranked Fresh (λ same. absurd (omega arith))
            ∙ h.fresh other (omega arith);
      }

-- the first nodes by rank that have no steps are those that had ranks before, if these are kept
pub leaves-kept : (graph : Graph) (old new : List ℕ) (count : ℕ) → AreLeaves graph old count → KeepsRanks old new
    → AreLeaves graph new count
leaves-kept graph old new count leaves keeps =
    (omega (arith, leaves.0, keeps.0), λ k below. rw (keeps.1 k (omega (arith, leaves.0))) (leaves.1 k below))

-- with an empty stack, a node that was taken up was ranked, or given up
end-by_mark : (graph : Graph) (s : WalkState) (node : ℕ) → IsWalk graph s → s.stack ≡ [] → mark_of s node ≢ Fresh
    → (m : Mark) → mark_of s node ≡ m → (m ≡ Ranked) ⊎ ((s.gave_up ≡ true) × ReachesCycle (IsStep graph) node)
end-by_mark graph s node h empty taken Fresh e = absurd (taken e)
end-by_mark graph s node h empty taken Open e = search rules
end-by_mark graph s node h empty taken Ranked e = inl refl

end-of_taken : (graph : Graph) (s : WalkState) (node : ℕ) → IsWalk graph s → s.stack ≡ [] → mark_of s node ≢ Fresh
    → (mark_of s node ≡ Ranked) ⊎ ((s.gave_up ≡ true) × ReachesCycle (IsStep graph) node)
end-of_taken graph s node h empty taken = search (rules, end-by_mark)

-- so it was ranked, if none was given up
ranked-from_taken : (graph : Graph) (s : WalkState) (node : ℕ) → IsWalk graph s → s.stack ≡ [] → s.gave_up ≡ false
    → mark_of s node ≢ Fresh → mark_of s node ≡ Ranked
ranked-from_taken graph s node h empty kept taken = search (rules, end-of_taken)

-- once each node was ranked, each step leads to a smaller rank
falls-from_ranked : (graph : Graph) (s : WalkState) → IsWalk graph s
    → ((node : ℕ) → node < length graph → mark_of s node ≡ Ranked) → FallsAlong graph s.ranks
falls-from_ranked graph s h all node k in_steps = search (rules, cases_lt, get_or_past)

-- where a node was taken up, and no node that was is fresh again, none up to it is fresh
pub taken-more : (old new : List Mark) (node : ℕ) → node < length old → KeepsTaken (set old node Open) new
    → ((k : ℕ) → k < node → mark_in old k ≢ Fresh) → (k : ℕ) → k < node + 1 → mark_in new k ≢ Fresh
taken-more old new node inside keeps before = search (rules, at_set)

-- and the nodes without steps stay taken up
pub others-kept : (graph : Graph) (old new : List Mark) (node : ℕ) → node < length old
    → KeepsTaken (set old node Open) new → HasLeaves graph old → HasLeaves graph new
others-kept graph old new node inside keeps known = search (rules, at_set)

-- what flags of nodes with steps tell of a node
module _ (graph : Graph) (flags : Flags) (tell : TellSteps graph flags) (node : ℕ) (inside : node < length graph) where
  pub no-steps : flag_at flags node ≡ false → length (steps_of graph node) ≡ 0
  no-steps unset = let told = tell.told node inside in search rules

  pub some-steps : flag_at flags node ≡ true → 0 < length (steps_of graph node)
  some-steps set = let told = tell.told node inside in search rules

-- where nodes without steps were taken up, the nodes up to the next one with steps are not fresh either
pub taken-on : (graph : Graph) (flags : Flags) (marks : List Mark) (from next : ℕ) → TellSteps graph flags
    → HasLeaves graph marks → next ≤ length graph
    → ((k : ℕ) → from ≤ k → k < next → flag_at flags k ≡ false)
    → ((node : ℕ) → node < from → mark_in marks node ≢ Fresh) → (node : ℕ) → node < next → mark_in marks node ≢ Fresh
taken-on graph flags marks from next tell known within unset before node below = elim (cases_lt node from) [
  | inl earlier ↦ before node earlier
  | inr later ↦
      known node (omega arith) (no-steps graph flags tell node (omega arith) (unset node later below))
]

-- the order at the end of a walk in which each node was taken up, and none given up
pub order-at_end : (graph : Graph) (it : Kept) (leaves : ℕ) → IsKept graph it → it.stack ≡ [] → it.gave_up ≡ false
    → ((node : ℕ) → node < length graph → mark_in it.marks node ≢ Fresh) → AreLeaves graph it.by_rank leaves
    → IsOrderOf graph (record { ranks = it.ranks; by_rank = it.by_rank; turns = it.turns; leaves = leaves })
order-at_end graph it leaves h empty kept taken first =
    let s = counted it h.next in
    let all : (node : ℕ) → node < length graph
    → mark_of s node ≡ Ranked = λ node below. ranked-from_taken graph s node h.walk empty kept (taken node below) in
    let ranks = h.walk.coherent.ranks in
    record {
      nodes = h.walk.coherent.places.ranks;
      falls = falls-from_ranked graph s h.walk all;
      turns = turns-all graph s h.walk.coherent all;
      listed = λ node below. (ranks.below node (all node below), ranks.listed node (all node below));
      ranked =
          λ k below. let here = ranks.ranked k below in
          (in-graph graph s _ h.walk.coherent.places (λ fresh. cc), here.1);
      leaves = first;
    }

-- one step more at the end
leads-more : (graph : Graph) (k a b c : ℕ) → Leads (IsStep graph) k a b → IsStep graph b c
    → Leads (IsStep graph) (suc k) a c
leads-more graph zero a b c same step = search rules
leads-more graph (suc k) a b c (next, first, rest) step = (next, first, leads-more graph k next b c rest step)

-- what leads to a node that reaches a cycle reaches it
reaches-back : (graph : Graph) (k from to : ℕ) → Leads (IsStep graph) k from to → ReachesCycle (IsStep graph) to
    → ReachesCycle (IsStep graph) from
reaches-back graph zero from to same reaches = search rules
reaches-back graph (suc k) from to (next, step, led) reaches =
    let (n, end, way, cycle) = reaches-back graph k next to led reaches in
    (suc n, end, (next, step, way), cycle)

-- from a node of the stack to a later one
along : (graph : Graph) (stack : List ℕ) (d i : ℕ) → FollowsSteps graph stack → i + d < length stack
    → Leads (IsStep graph) d (get_or stack i 0) (get_or stack (i + d) 0)
along graph stack zero i chain within = search rules
along graph stack (suc d) i chain within =
    let there : i + 1 + d ≡ i + suc d = omega arith in
    let rest : Leads (IsStep graph) d (get_or stack (i + 1) 0) (get_or stack (i + 1 + d) 0) = along graph stack d
    (i + 1) chain
    (omega arith) in (
      get_or stack (i + 1) 0,
      chain i (omega arith),
      subst
          (λ (n : ℕ). Leads (IsStep graph) d (get_or stack (i + 1) 0) (get_or stack n 0)) there rest,
    )

module _ (graph : Graph) (s : WalkState) (to : ℕ) (h : IsAtCycle graph s to) where
  -- each node of the stack leads to the one that the step goes to
  leads-on : (k : ℕ) → k < length s.stack → Leads (IsStep graph) (suc (length s.stack - 1 - k)) (get_or s.stack k 0) to
  leads-on k within =
      let top = length s.stack - 1 in
      let sum : k + (top - k) ≡ top = omega arith in
      let way : Leads (IsStep graph) (top - k) (get_or s.stack k 0) (get_or s.stack (k + (top - k)) 0) = along graph
      s.stack
      (top - k) k h.coherent.stack.steps (omega arith) in
      leads-more graph (top - k) (get_or s.stack k 0) (get_or s.stack top 0) to (rw sum at way) h.closes

  -- where none was given up, that one is on the stack
  pub on-stack : s.gave_up ≡ false → Contains s.stack to
  on-stack kept = search (rules, get_or_default)

  to-reaches : ReachesCycle (IsStep graph) to
  to-reaches = elim (h.coherent.stack.stacked to h.opened) [
    | inl (i, within, same) ↦
        let led = leads-on i within in (
          0,
          to,
          refl,
          (
            length s.stack - 1 - i,
            subst (λ (x : ℕ). Leads (IsStep graph) (suc (length s.stack - 1 - i)) x to) same
                led,
          ),
        )
    | inr lost ↦ lost.1
  ]

  stacked-reaches : (k : ℕ) → k < length s.stack → ReachesCycle (IsStep graph) (get_or s.stack k 0)
  stacked-reaches k within =
      reaches-back graph (suc (length s.stack - 1 - k)) (get_or s.stack k 0) to (leads-on k within) to-reaches

  given_up-walk : IsWalk graph (given_up s)
  given_up-walk =
      let old = h.coherent in
      let stack : HasStack graph (given_up s) = record {
        opened = λ k below. absurd (omega arith);
        stacked = λ node opened. inr (
          refl,
          elim (old.stack.stacked node opened) [
            | inl (k, within, same) ↦ subst (λ (x : ℕ). ReachesCycle (IsStep graph) x) same (stacked-reaches k within)
            | inr lost ↦ lost.1
          ],
        );
        once = λ i j lt below. absurd (omega arith);
        steps = λ k below. absurd (omega arith);
      } in
      search rules

-- what is kept once the nodes on the stack are given up
pub without_stack-kept : (graph : Graph) (it : Kept) (to : ℕ) → ((next : List ℕ) × IsAtCycle graph (counted it next) to)
    → IsKept graph (without_stack it)
without_stack-kept graph it to at =
    record {
      next = at.0;
      walk = given_up-walk graph (counted it at.0) to at.1;
      long = refl;
      looked = λ k below. absurd (omega arith);
    }

-- once each node was taken up, those that have ranks are the clear ones
pub clear-at_end : (graph : Graph) (s : WalkState) → IsWalk graph s → s.stack ≡ []
    → ((node : ℕ) → node < length graph → mark_of s node ≢ Fresh) → AreClear graph s.by_rank
clear-at_end graph s h empty taken =
    let ranks = h.coherent.ranks in
    record {
      within = λ place w. let here = (ranks.ranked place w).0 in in-graph graph s _ h.coherent.places (λ fresh. cc);
      once = λ i j before w same.
          let first = (ranks.ranked i (omega arith)).1 in
          let last = (ranks.ranked j w).1 in
          let equal : i ≡ j = sym first ∙ ap (λ (node : ℕ). get_or s.ranks node 0) same ∙ last in
          omega arith;
      ordered = λ place k w below.
          let here = ranks.ranked place w in
          let node = get_or s.by_rank place 0 in
          let to = step_at graph node k in
          let falls = ranks.falls node k here.0 below in
          (get_or s.ranks to 0, omega (arith, falls, here.1), ranks.listed to (ranks.leads node k here.0 below));
      others = λ node w missing. elim (end-of_taken graph s node h empty (taken node w)) [
        | inl done ↦ absurd (missing (
          get_or s.ranks node 0,
          ranks.below node done,
          sym
              (get_or_default s.by_rank (get_or s.ranks node 0) 0 node (ranks.below node done))
              ∙ ranks.listed node done,
        ))
        | inr lost ↦ lost.1
      ];
    }

-- A walk with a node at hand: it is taken up, its steps are looked at, and it is ranked or put on the stack; each of
-- these leads to what a walk keeps.
use Rattle.std.proofs.Common.{rules, ◌≡◌, ◌≢◌, Option, None, Some, ℕ, ◌+◌, ◌*◌, ◌-◌, ◌^◌, ◌<◌, ◌≤◌, ◌∙◌, List, [], ◌∷◌, ◌++◌, length, get_or, inl, inr, arith, refl, sym, ap, set, get_or-set_same, get_or-set_other}
use Rattle.std.proofs.lemmas.List.{length_push, get_or_push, get_or_append_left}
use Rattle.std.proofs.lemmas.Bool.{cases_lt}
use Rattle.std.specs.Prelude.{MatchOption}
use Rattle.dw_types.specs.declared.walk.Hand.{Hand}
use Rattle.dw_types.specs.declared.walk.Mark.{Mark}
use Rattle.dw_types.specs.declared.walk.Mark.TheVariants.{Fresh, Open, Ranked}
use Rattle.dw_types.specs.Graphs.{Graph, IsStep, LeadsToNodes, step_at, step_count, steps_of}
use Rattle.dw_types.specs.Walks.{GoToRanked, IsAtCycle, IsCoherent, IsFirstOther, IsKept, IsWalk, KeepsRanks, KeepsTaken, LooksOn}
use Rattle.dw_types.specs.WalkStates.{Kept, counted, mark_in, opened, ranked, turned, with_hand}
use Rattle.dw_types.proofs.ListLemmas.{at_push, at_set}
use Rattle.dw_types.proofs.RankLemmas.{done-walk, take-push}
use Rattle.dw_types.proofs.WalkLemmas.{IsTop, LooksUpBut, in-graph, look-but, first-walk, look-coherent, looked-all, top-opened, turns-le, up-coherent, up-looks_up}

-- what is kept beside the node at hand, if there is one
abbrev pub IsAtHand : Graph → Kept → Option Hand → Type 0
IsAtHand graph it None = IsKept graph it × (it.stack ≡ [])
IsAtHand graph it (Some hand) = IsKept graph (with_hand it hand.node hand.looked)

-- how far the turns are from their number, and the stack from empty
abbrev pub work_left : Graph → Kept → Option Hand → ℕ
work_left graph it None = 0
work_left graph it (Some _) = 2 * (length graph + step_count graph - it.turns) + length it.stack + 1

-- how many steps were looked at of each node on the stack
abbrev pub AreLooked : Kept → List ℕ → Type 0
AreLooked it next =
    (length it.looked ≡ length it.stack)
    × ((k : ℕ) → k < length it.stack → get_or it.looked k 0 ≡ get_or next (get_or it.stack k 0) 0)

looked-push : (it : Kept) (next : List ℕ) (node looked : ℕ) → AreLooked it next → get_or next node 0 ≡ looked
    → AreLooked (with_hand it node looked) next
looked-push it next node looked known here = search (rules, length_push, at_push, get_or_push, get_or_append_left)

looked-pop : (it : Kept) (next : List ℕ) (node looked : ℕ) → AreLooked (with_hand it node looked) next
    → AreLooked it next
looked-pop it next node looked known = search (rules, length_push, get_or_append_left)

module _ (graph : Graph) (it : Kept) (node from : ℕ) (h : IsKept graph (with_hand it node from)) where
  hand-long : length it.looked ≡ length it.stack
  hand-long = (looked-pop it h.next node from (h.long, h.looked)).0

  hand-top : IsTop (counted (with_hand it node from) h.next) node
  hand-top = search (rules, length_push, get_or_push)

  pub hand-in : node < length graph
  hand-in =
      in-graph graph (counted (with_hand it node from) h.next) node h.walk.coherent.places
      (λ fresh. let opened = top-opened graph (counted (with_hand it node from) h.next) node h.walk.coherent.stack
      hand-top in cc)

  hand-looked : get_or h.next node 0 ≡ from
  hand-looked = grind (arith, length_push, get_or_push, hand-long)

  pub hand-within : from ≤ length (steps_of graph node)
  hand-within = search (rules, hand-looked)

  module _ (looked : ℕ) (after : from ≤ looked) (within : looked ≤ length (steps_of graph node))
      (small : looked < 2 ^ 64) where
    -- the steps of each node that were looked at then
    abbrev next-on : List ℕ
    next-on = set h.next node (get_or h.next node 0 + (looked - from))

    abbrev kept-on : Kept
    kept-on = with_hand (turned it (looked - from)) node looked

    on-in : node < length h.next
    on-in = search (rules, hand-in)

    pub on-coherent : IsCoherent graph (counted kept-on next-on)
    on-coherent =
        look-coherent graph (counted (with_hand it node from) h.next) node (looked - from) h.walk.coherent hand-top
        on-in (let same = hand-looked in omega arith) (let same = hand-looked in omega arith)

    on-top : IsTop (counted kept-on next-on) node
    on-top = search (rules, hand-top)

    on-here : get_or next-on node 0 ≡ looked
    on-here = search (rules, get_or-set_same, on-in, hand-looked)

    on-waiting : AreLooked it next-on
    on-waiting =
        let known = looked-pop it h.next node from (h.long, h.looked) in (
          known.0,
          λ k below.
              let other : get_or it.stack k 0 ≢ node = λ same. h.walk.coherent.stack.once k (length it.stack) below
              (let a = length_push it.stack node in omega arith)
              (get_or_append_left it.stack (node ∷ []) 0 k below
              ∙ (same ∙ sym (get_or_push it.stack node 0 (length it.stack) refl))) in
              rw (get_or-set_other h.next node (get_or it.stack k 0) (get_or h.next node 0 + (looked - from)) 0 other)
              (known.1 k below),
        )

    on-looked : AreLooked kept-on next-on
    on-looked = search (rules, looked-push, on-waiting, on-here)

    -- all its steps lead to ranked nodes, so it is ranked
    pub ranked-kept : looked ≡ length (steps_of graph node) → GoToRanked graph it.marks node from looked
        → IsKept graph (ranked (turned it (looked - from)) node)
    ranked-kept all known =
        let but : LooksUpBut graph (counted kept-on next-on) None = look-but graph
        (counted (with_hand it node from) h.next) node (looked - from) None h.walk on-in
        (λ k above below. inl (known k (let same = hand-looked in omega arith) (let same = hand-looked in omega arith)))
        in
        let walk : IsWalk graph (counted kept-on next-on) =
        record { coherent = on-coherent; looks_up = looked-all graph (counted kept-on next-on) but } in
        let done = done-walk graph (counted kept-on next-on) node walk on-top (on-here ∙ all) in
        record {
          next = next-on;
          walk = rw (take-push it.stack node) at done;
          long = on-waiting.0;
          looked = on-waiting.1;
        }

    module _ (last to : ℕ) (one : looked ≡ last + 1) (first : IsFirstOther graph it.marks node from last to) where
      other-but : LooksUpBut graph (counted kept-on next-on) (Some to)
      other-but =
          look-but graph (counted (with_hand it node from) h.next) node (looked - from) (Some to) h.walk on-in
          (λ k above below. elim (cases_lt k last) [
            | inl earlier ↦ inl (first.earlier k (let same = hand-looked in omega arith) earlier)
            | inr later ↦ inr (ap Some (first.leads
                ∙ ap (step_at graph node) (let same = hand-looked in let e : last ≡ k = omega arith in e)))
          ])

      other-link : IsStep graph (get_or (it.stack ++ node ∷ []) (length (it.stack ++ node ∷ []) - 1) 0) to
      other-link = search (rules, hand-top)

      -- its last step leads to a fresh node, which is taken up
      pub fresh-kept : mark_in it.marks to ≡ Fresh → to < length graph
          → IsKept graph (with_hand (opened kept-on to) to 0)
      fresh-kept fresh inside =
          let in_marks : to < length it.marks = (let long = on-coherent.places.marks in omega arith) in
          let known = looked-push (opened kept-on to) next-on to 0 on-looked (on-coherent.counters.fresh to fresh) in
          record {
            next = next-on;
            walk = record {
              coherent = up-coherent graph (counted kept-on next-on) to on-coherent in_marks fresh (λ _. other-link);
              looks_up =
                  up-looks_up graph (counted kept-on next-on) to on-coherent in_marks fresh (λ _. other-link) other-but;
            };
            long = known.0;
            looked = known.1;
          }

      -- its last step leads to an open node
      pub open-kept : mark_in it.marks to ≡ Open → (next : List ℕ) × IsAtCycle graph (counted kept-on next) to
      open-kept is = search (rules, on-coherent, hand-top, other-link)

-- a walk with an empty stack takes up a fresh node
pub first-kept : (graph : Graph) (it : Kept) (node : ℕ) → IsKept graph it → it.stack ≡ [] → node < length graph
    → mark_in it.marks node ≡ Fresh → IsKept graph (with_hand (opened it node) node 0)
first-kept graph it node h empty inside fresh =
    let known = looked-push (opened it node) h.next node 0 (h.long, h.looked)
    (h.walk.coherent.counters.fresh node fresh) in
    record {
      next = h.next;
      walk = first-walk graph (counted it h.next) node h.walk empty inside fresh;
      long = known.0;
      looked = known.1;
    }

-- a mark other than `Fresh` is written
pub keeps-set : (old marks : List Mark) (node : ℕ) (mark : Mark) → node < length marks → mark ≢ Fresh
    → KeepsTaken old marks → KeepsTaken old (set marks node mark)
keeps-set old marks node mark inside taken keeps a fresh = search (rules, at_set)

-- one more node has a rank, and those before keep theirs
keeps-push : (ranks : List ℕ) (node : ℕ) → KeepsRanks ranks (ranks ++ node ∷ [])
keeps-push ranks node = search (rules, length_push, get_or_append_left)

pub keeps-ranked : (old : Kept) (node : ℕ) (new : Kept) (at : Option Hand)
    → MatchOption at ((old.stack ≡ []) × (new ≡ ranked old node))
    (λ next. ranked old node ≡ with_hand new next.node next.looked) → KeepsRanks old.by_rank new.by_rank
keeps-ranked old node new None e =
    let same : new.by_rank ≡ old.by_rank ++ node ∷ [] = ap (λ (kept : Kept). kept.by_rank) e.1 in
    rw same (keeps-push old.by_rank node)
keeps-ranked old node new (Some next) e =
    let same : old.by_rank ++ node ∷ [] ≡ new.by_rank = ap (λ (kept : Kept). kept.by_rank) e in
    rw (← same) (keeps-push old.by_rank node)

pub keeps-on : (first next last : List ℕ) → KeepsRanks first next → KeepsRanks next last → KeepsRanks first last
keeps-on first next last a b =
    (omega (arith, a.0, b.0), λ k below. b.1 k (omega (arith, a.0)) ∙ a.1 k below)

-- the steps that are looked at are those from one on
pub looks-after : (graph : Graph) (marks : List Mark) (node from looked : ℕ) (stop : Option ℕ)
    → from ≤ length (steps_of graph node) → LooksOn graph marks node from looked stop → from ≤ looked
looks-after graph marks node from looked None within looks = search rules
looks-after graph marks node from looked (Some to) within looks = search rules

pub looks-within : (graph : Graph) (marks : List Mark) (node from looked : ℕ) (stop : Option ℕ)
    → LooksOn graph marks node from looked stop → looked ≤ length (steps_of graph node)
looks-within graph marks node from looked None looks = search rules
looks-within graph marks node from looked (Some to) looks = search rules

-- a mark that is no other is `Open`
is-open : (mark : Mark) → mark ≢ Fresh → mark ≢ Ranked → mark ≡ Open
is-open Fresh a b = absurd (a refl)
is-open Open a b = refl
is-open Ranked a b = absurd (b refl)

-- a walk goes on with the node at hand, if there is one, and has less work left
pub record GoesOn (graph : Graph) (old : Kept) (hand : Hand) (new : Kept) (at : Option Hand) : Type 0 where
  pub kept : IsAtHand graph new at
  pub taken : KeepsTaken old.marks new.marks
  pub gave_up : new.gave_up ≡ old.gave_up
  pub less : work_left graph new at < work_left graph old (Some hand)

module _ (graph : Graph) (old : Kept) (hand : Hand) (looked : ℕ) (small : looked < 2 ^ 64)
    (h : IsKept graph (with_hand old hand.node hand.looked)) where
  hand-in_marks : hand.node < length old.marks
  hand-in_marks = search (rules, hand-in)

  -- the node at hand is ranked, and the one on top of the stack is at hand next
  pub goes-ranked : (new : Kept) (at : Option Hand) → LooksOn graph old.marks hand.node hand.looked looked None
      → MatchOption at ((old.stack ≡ []) × (new ≡ ranked (turned old (looked - hand.looked)) hand.node))
      (λ next. ranked (turned old (looked - hand.looked)) hand.node ≡ with_hand new next.node next.looked)
      → GoesOn graph old hand new at
  goes-ranked new None looks e = search (rules, hand-within, ranked-kept, keeps-set, hand-in_marks)
  goes-ranked new (Some next) looks e = search (rules, hand-within, ranked-kept, keeps-set, hand-in_marks, length_push)

  module _ (to : ℕ) (looks : LooksOn graph old.marks hand.node hand.looked looked (Some to)) where
    -- the node at hand is put on the stack, and a fresh node is at hand next
    pub goes-fresh : LeadsToNodes graph → mark_in old.marks to ≡ Fresh
        → GoesOn graph old hand (opened (with_hand (turned old (looked - hand.looked)) hand.node looked) to)
        (Some (record { node = to; looked = 0 }))
    goes-fresh inside fresh =
        let below : to < length graph = rw looks.2.leads (inside hand.node looks.0 looks.2.step_in) in
        let kept = fresh-kept graph old hand.node hand.looked h looked
        (looks-after graph old.marks hand.node hand.looked looked (Some to)
        (hand-within graph old hand.node hand.looked h) looks)
        (looks-within graph old.marks hand.node hand.looked looked (Some to) looks) small looks.0 to looks.1 looks.2
        fresh below in
        let few = turns-le graph _ kept.walk.coherent in
        let in_marks : to < length old.marks = (let long = h.walk.coherent.places.marks in omega arith) in
        record {
          kept = kept;
          taken = keeps-set old.marks old.marks to Open in_marks (λ same. cc) (λ a fresh. fresh);
          gave_up = refl;
          less =
              let one = looks.1 in let last = looks.2.after in let long = length_push old.stack hand.node in
              omega arith;
        }

    -- the node at hand is put on the stack, and its last step leads to an open node
    pub goes-open : mark_in old.marks to ≢ Fresh
        → (next : List ℕ) × IsAtCycle graph
        (counted (with_hand (turned old (looked - hand.looked)) hand.node looked) next) to
    goes-open taken =
        open-kept graph old hand.node hand.looked h looked
        (looks-after graph old.marks hand.node hand.looked looked (Some to)
        (hand-within graph old hand.node hand.looked h) looks)
        (looks-within graph old.marks hand.node hand.looked looked (Some to) looks) small looks.0 to looks.1 looks.2
        (is-open (mark_in old.marks to) taken looks.2.other)

-- a fresh node without steps is taken up and ranked
pub first-ranked : (graph : Graph) (it : Kept) (node : ℕ) → IsKept graph it → it.stack ≡ []
    → node < length graph → mark_in it.marks node ≡ Fresh → length (steps_of graph node) ≡ 0
    → IsKept graph (ranked (opened it node) node)
first-ranked graph it node h empty inside fresh none =
    let first = opened it node in
    let same : it.turns + 1 ≡ it.turns + 1 + (0 - 0) = omega arith in
    (goes-ranked graph first (record { node = node; looked = 0 }) 0 (omega arith)
    (first-kept graph it node h empty inside fresh) (ranked first node) None
    (sym none, (λ k from below. absurd (omega arith)))
    (empty, ap (λ (turns : ℕ). ranked (record first { turns = turns }) node) same)).kept.0

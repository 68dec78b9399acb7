-- A node on top of the stack, all of whose steps were looked at, is ranked; ranks by the nodes in their order.
use Rattle.std.proofs.lemmas.Grind.{common_steps}
use Rattle.std.proofs.Common.{rules, ◌≡◌, ◌≢◌, ℕ, ◌+◌, ◌<◌, List, [], ◌∷◌, ◌++◌, length, get_or, set, take, suc, arith, refl, ◌∙◌, length-set, get_or-set_same, get_or-set_other, ◌-◌, ◌⊎◌}
use Rattle.std.proofs.lemmas.List.{length-replicate, length-take-le, take_more, length_push, get_or_push, get_or_append_left, get_or-take}
use Rattle.std.proofs.lemmas.Bool.{cases_lt}
use Rattle.std.proofs.lemmas.List.Sums.{sum_by-set}
use Rattle.std.proofs.Math.Seq.{take-append_seam}
use Rattle.dw_types.specs.RanksListed.{ranks_from, ranks_listed}
use Rattle.dw_types.specs.declared.walk.Mark.TheVariants.{Fresh, Open, Ranked}
use Rattle.dw_types.specs.Graphs.{Graph, steps_of, step_at}
use Rattle.dw_types.specs.Walks.{HasStack, HasRanks, IsWalk}
use Rattle.dw_types.specs.WalkStates.{WalkState, mark_of, with_rank}
use Rattle.dw_types.proofs.ListLemmas.{at_set, at_push}
use Rattle.dw_types.proofs.WalkLemmas.{IsTop, top-opened, in-graph}

ranks_from-push : (ranks : List ℕ) (first : ℕ) (nodes : List ℕ) (node : ℕ)
    → ranks_from ranks first (nodes ++ node ∷ []) ≡ set (ranks_from ranks first nodes) node (first + length nodes)
ranks_from-push ranks first [] node = search rules
ranks_from-push ranks first (other ∷ rest) node =
    search (rules, (ranks_from-push (set ranks other first) (suc first) rest node))

length-ranks_from : (ranks : List ℕ) (first : ℕ) (nodes : List ℕ) → length (ranks_from ranks first nodes) ≡ length ranks
length-ranks_from ranks first [] = refl
length-ranks_from ranks first (node ∷ rest) =
    length-ranks_from (set ranks node first) (suc first) rest ∙ length-set ranks node first

-- the next rank
pub ranks_listed-push : (nodes : ℕ) (by_rank : List ℕ) (node : ℕ)
    → ranks_listed nodes (by_rank ++ node ∷ []) ≡ set (ranks_listed nodes by_rank) node (length by_rank)
ranks_listed-push nodes by_rank node = search (rules, ranks_from-push)

pub length-ranks_listed : (nodes : ℕ) (by_rank : List ℕ) → length (ranks_listed nodes by_rank) ≡ nodes
length-ranks_listed nodes by_rank = search (rules, length-ranks_from, length-replicate)

-- the rank of a node once one more node has its rank
module _ (nodes node : ℕ) (by_rank : List ℕ) (place : ℕ) (inside : node < nodes) (below : place < length by_rank) where
  more : ranks_listed nodes (take (place + 1) by_rank)
      ≡ set (ranks_listed nodes (take place by_rank)) (get_or by_rank place 0) place
  more = grind (arith, common_steps, take_more, ranks_listed-push, length-take-le)

  pub rank-here : node ≡ get_or by_rank place 0 → place ≡ get_or (ranks_listed nodes (take (place + 1) by_rank)) node 0
  rank-here same = search (rules, length-ranks_listed, more, get_or-set_same)

  pub rank-other : node ≢ get_or by_rank place 0
      → get_or (ranks_listed nodes (take place by_rank)) node 0
      ≡ get_or (ranks_listed nodes (take (place + 1) by_rank)) node 0
  rank-other other = search (rules, more, get_or-set_other)

-- ranking the node on top of the stack, all of whose steps were looked at

module _ (graph : Graph) (s : WalkState) (node : ℕ) (h : IsWalk graph s) (t : IsTop s node)
    (all : get_or s.next node 0 ≡ length (steps_of graph node)) where
  done-opened : mark_of s node ≡ Open
  done-opened = search (rules, top-opened)

  done-in : node < length graph
  done-in = search (rules, in-graph, done-opened)

  done-in_marks : node < length s.marks
  done-in_marks = search (rules, done-in)

  done-in_ranks : node < length s.ranks
  done-in_ranks = search (rules, done-in)

  done-mark : (a : ℕ) → ((a ≡ node) × (mark_of (with_rank s node) a ≡ Ranked))
      ⊎ ((a ≢ node) × (mark_of (with_rank s node) a ≡ mark_of s a))
  done-mark a = at_set s.marks node a Ranked Fresh done-in_marks

  done-rank : (a : ℕ) → ((a ≡ node) × (get_or (with_rank s node).ranks a 0 ≡ length s.by_rank))
      ⊎ ((a ≢ node) × (get_or (with_rank s node).ranks a 0 ≡ get_or s.ranks a 0))
  done-rank a = search (rules, at_set, done-in_ranks)

  done-ranked : (a : ℕ) → mark_of s a ≡ Ranked → mark_of (with_rank s node) a ≡ Ranked
  done-ranked a done = search (rules, done-mark)

  done-fresh : (a : ℕ) → mark_of (with_rank s node) a ≡ Fresh → mark_of s a ≡ Fresh
  done-fresh a fresh = search (rules, done-mark)

  -- each step of the node leads to one that was ranked, since none is above the top
  done-leads : (k : ℕ) → k < length (steps_of graph node) → mark_of s (step_at graph node k) ≡ Ranked
  done-leads k in_steps = search rules

  -- a node that was ranked before has a rank below the new one, and keeps it
  done-keeps : (a : ℕ) → mark_of s a ≡ Ranked → get_or (with_rank s node).ranks a 0 ≡ get_or s.ranks a 0
  done-keeps a done = search (rules, done-rank, done-opened)

  done-length : length (take (length s.stack - 1) s.stack) ≡ length s.stack - 1
  done-length = search (rules, length-take-le)

  done-at : (k : ℕ) → k < length s.stack - 1 → get_or (take (length s.stack - 1) s.stack) k 0 ≡ get_or s.stack k 0
  done-at k below = search (rules, get_or-take)

  -- the node stood on top alone
  done-other : (k : ℕ) → k < length s.stack - 1 → get_or s.stack k 0 ≢ node
  done-other k below same = search rules

  done-stack : HasStack graph (with_rank s node)
  done-stack =
      let short = done-length in
      record {
        opened = search (rules, done-at, done-mark, done-other);
        stacked = search (rules, done-mark, cases_lt, done-at);
        once = search (rules, done-at);
        steps = λ k in_stack.
            let below : k + 1 < length s.stack - 1 = omega arith in
            rw (done-at (k + 1) below, done-at k (omega arith)) (h.coherent.stack.steps k (omega arith));
      }

  done-ranks : HasRanks graph (with_rank s node)
  done-ranks =
      search (
        rules,
        length_push,
        done-mark,
        get_or-set_same,
        done-in_ranks,
        done-keeps,
        get_or_push,
        get_or_append_left,
        at_push,
        done-in_marks,
        done-ranked,
        done-leads,
      )

  pub done-walk : IsWalk graph (with_rank s node)
  done-walk = record {
    coherent =
        search (
          rules,
          length-set,
          done-stack,
          done-fresh,
          done-mark,
          done-ranks,
          sum_by-set,
          done-in_marks,
          done-opened,
        );
    looks_up = search (rules, done-length, done-at, done-ranked, cases_lt, get_or-set_same, done-in_marks);
  }

-- a list without the element that was just added
pub take-push : (xs : List ℕ) (x : ℕ) → take (length (xs ++ x ∷ []) - 1) (xs ++ x ∷ []) ≡ xs
take-push xs x =
    let long = length_push xs x in let e : length (xs ++ x ∷ []) - 1 ≡ length xs = omega arith in
    rw e (take-append_seam xs (x ∷ []))

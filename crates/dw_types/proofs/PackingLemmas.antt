-- A loop that packs one node after another.
use Rattle.std.proofs.Common.{rules}
use Rattle.std.proofs.lemmas.Grind.{common_steps}
use Rattle.std.proofs.Common.{◌≡◌, ℕ, ◌+◌, ◌-◌, ◌<◌, ◌≤◌, List, [], ◌∷◌, ◌++◌, length, get_or, replicate, take, arith, below_more, refl, subst, sym, ◌∙◌, append-nil, append_assoc, length-append, zero, suc}
use Rattle.std.proofs.lemmas.List.{get_or_append_left, get_or_push, length_push, take_more}
use Rattle.dw_types.specs.Graphs.{Graph}
use Rattle.dw_types.specs.Packing.{cut, begin_of, CutsInOrder, LeadsBelow}
use Rattle.dw_types.specs.PackingLaws.{cut-more}
use Rattle.dw_types.proofs.ListLemmas.{at_push}

-- so many nodes of the graph are packed
pub record PacksUpTo (graph : Graph) (steps ends : List ℕ) (node : ℕ) : Type 0 where
  pub same : cut steps 0 ends ≡ take node graph
  pub ends_so_far : length ends ≡ node
  pub last : begin_of ends (length ends) ≡ length steps
  pub in_order : CutsInOrder steps ends

-- each node's steps end where those of the next start, the last ones at the end of all steps
pub record AreEnds (steps ends : List ℕ) : Type 0 where
  pub last : begin_of ends (length ends) ≡ length steps
  pub in_order : CutsInOrder steps ends

pub ends-more : (steps row ends : List ℕ) → AreEnds steps ends
    → AreEnds (steps ++ row) (ends ++ length (steps ++ row) ∷ [])
ends-more steps row ends h =
    grind (arith, common_steps, length-append, length_push, get_or_push, get_or_append_left, at_push)

pub packs-more : (graph : Graph) (steps ends : List ℕ) (node : ℕ) → node < length graph
    → PacksUpTo graph steps ends node
    → PacksUpTo graph (steps ++ get_or graph node []) (ends ++ length (steps ++ get_or graph node []) ∷ []) (node + 1)
packs-more graph steps ends node below h =
    let row = get_or graph node [] in
    let end = length (steps ++ row) in
    let more = ends-more steps row ends (record { last = h.last; in_order = h.in_order }) in
    record {
      same = cut-more steps row ends h.in_order h.last ∙ rw h.same (sym (take_more graph node [] below));
      ends_so_far = let e = h.ends_so_far in let long = length_push ends end in omega arith;
      last = more.last;
      in_order = more.in_order;
    }

-- the nodes from one on, so many of them, have no steps
pub packs-fill : (graph : Graph) (steps ends : List ℕ) (node n : ℕ) → node + n ≤ length graph
    → ((k : ℕ) → node ≤ k → k < node + n → get_or graph k [] ≡ []) → PacksUpTo graph steps ends node
    → PacksUpTo graph steps (ends ++ replicate n (length steps)) (node + n)
packs-fill graph steps ends node zero within none h =
    let same : node ≡ node + 0 = omega arith in rw append-nil (subst (PacksUpTo graph steps ends) same h)
packs-fill graph steps ends node (suc n) within none h =
    let row : get_or graph node [] ≡ [] = none node (omega arith) (omega arith) in
    let more = rw (row, append-nil) at (packs-more graph steps ends node (omega arith) h) in
    let rest = packs-fill graph steps (ends ++ length steps ∷ []) (node + 1) n (omega arith)
    (λ k from below. none k (omega arith) (omega arith)) more in
    let count : node + 1 + n ≡ node + suc n = omega arith in
    rw (count, append_assoc) at rest

-- so many nodes of the graph are packed but for the last ones, which have no steps
pub record FillsUpTo (graph : Graph) (steps ends : List ℕ) (node : ℕ) : Type 0 where
  pub packs : PacksUpTo graph steps ends (length ends)
  pub within : length ends ≤ node
  pub none : (k : ℕ) → length ends ≤ k → k < node → get_or graph k [] ≡ []

pub fills-none : (graph : Graph) → FillsUpTo graph [] [] 0
fills-none graph = record {
  packs = record {
    same = refl;
    ends_so_far = refl;
    last = refl;
    in_order = λ node below. absurd (omega arith);
  };
  within = omega arith;
  none = λ k from below. absurd (omega arith);
}

module _ (graph : Graph) (steps ends : List ℕ) (node : ℕ) (h : FillsUpTo graph steps ends node) where
  -- with the ends of those too, each is packed
  pub fills-all : node ≤ length graph
      → PacksUpTo graph steps (ends ++ replicate (node - length ends) (length steps)) node
  fills-all inside =
      let within = h.within in
      let same : length ends + (node - length ends) ≡ node = omega arith in
      subst (PacksUpTo graph steps (ends ++ replicate (node - length ends) (length steps))) same
      (packs-fill graph steps ends (length ends) (node - length ends) (omega arith)
      (λ k from below. h.none k from (omega arith)) h.packs)

  -- one more node without steps
  pub fills-next : get_or graph node [] ≡ [] → FillsUpTo graph steps ends (node + 1)
  fills-next last = record {
    packs = h.packs;
    within = let within = h.within in omega arith;
    none = λ k from below. below_more (λ k. length ends ≤ k → get_or graph k [] ≡ []) node
        (λ k below from. h.none k from below) (λ from. last) k below from;
  }

  -- one more node with its steps
  pub fills-more : (row : List ℕ) → node < length graph → get_or graph node [] ≡ row
      → FillsUpTo graph (steps ++ row)
      ((ends ++ replicate (node - length ends) (length steps)) ++ length (steps ++ row) ∷ []) (node + 1)
  fills-more row inside is =
      let filled = ends ++ replicate (node - length ends) (length steps) in
      let all = fills-all (omega arith) in
      let more = rw is at (packs-more graph steps filled node inside all) in
      let long : length (filled ++ length (steps ++ row) ∷ []) ≡ node + 1 = more.ends_so_far in
      record {
        packs = subst (PacksUpTo graph (steps ++ row) (filled ++ length (steps ++ row) ∷ [])) (sym long) more;
        within = omega arith;
        none = λ k from below. absurd (omega arith);
      }

-- one more step of a row
pub row-more : (steps all row : List ℕ) (k : ℕ) → k < length row → all ≡ steps ++ take k row
    → all ++ get_or row k 0 ∷ [] ≡ steps ++ take (k + 1) row
row-more steps all row k below is = search (rules, append_assoc, take_more)

-- one more step that leads to a node
pub leads-more : (steps : List ℕ) (to nodes : ℕ) → LeadsBelow steps nodes → to < nodes
    → LeadsBelow (steps ++ to ∷ []) nodes
leads-more steps to nodes leads below k within = search (rules, at_push)

-- a list with no more numbers after one is added
pub added-none : (xs row : List ℕ) → length (xs ++ row) ≡ length xs → row ≡ []
added-none xs [] same = refl
added-none xs (first ∷ row) same = let long = length-append xs (first ∷ row) in absurd (omega arith)

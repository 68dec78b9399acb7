-- An entry's children are the entry behind it, if that is a child, and the next siblings from there on.
use Rattle.std.proofs.Common.{rules, ◌≡◌, ℕ, suc, ◌+◌, ◌<◌, ◌≤◌, ◌==◌, Bool, true, false, if◌then◌else◌, List, [], ◌∷◌, ◌++◌, length, drop, Option, Some, None, IfSome, refl, sym, ap, subst, arith, append_assoc, ne_eqb, eq-eqb}
use Rattle.std.proofs.Math.Seq.{drop-append-add}
use Rattle.dw_entries.specs.Tree.{Node, Nodes, leaf, parent, none, ◌then◌, node_bytes, head_bytes}
use Rattle.dw_entries.specs.Entries.{Entry, node_count, nodes_count, first_id, node_entries, nodes_entries, entries_from, DebugUnit, unit_bytes}
use Rattle.dw_entries.proofs.EntryFacts.{length-nodes_entries, unit_header_size}
use Rattle.dw_types.specs.Children.{is_parent}

-- ---- children among joined entries

-- the numbers of those of these entries, numbered from k on, whose parent is the entry with this number
abbrev pub children_from : List Entry → ℕ → ℕ → List ℕ
children_from [] id k = []
children_from (e ∷ es) id k =
    if is_parent e.parent id then k ∷ children_from es id (suc k) else children_from es id (suc k)

join_if : (b : Bool) (k : ℕ) (xs ys zs : List ℕ) → zs ≡ xs ++ ys
    → (if b then k ∷ zs else zs) ≡ (if b then k ∷ xs else xs) ++ ys
join_if true k xs ys zs e = ap (λ rest. k ∷ rest) e
join_if false k xs ys zs e = e

children_from-append : (es fs : List Entry) (p k : ℕ)
    → children_from (es ++ fs) p k ≡ children_from es p k ++ children_from fs p (k + length es)
children_from-append [] fs p k = search rules
children_from-append (e ∷ es) fs p k = search (rules, join_if, (children_from-append es fs p (suc k)))

-- none of the joined entries is a child
no_children-append : (es fs : List Entry) (p k : ℕ) → children_from es p k ≡ []
    → children_from fs p (k + length es) ≡ [] → children_from (es ++ fs) p k ≡ []
no_children-append es fs p k x y = search (rules, children_from-append)

-- an entry that is no child
pub skip_one : (e : Entry) (es : List Entry) (p k : ℕ) → is_parent e.parent p ≡ false
    → children_from (e ∷ es) p k ≡ children_from es p (suc k)
skip_one e es p k isnt = rw isnt refl

pub take_one : (e : Entry) (es : List Entry) (p k : ℕ) → is_parent e.parent p ≡ true
    → children_from (e ∷ es) p k ≡ k ∷ children_from es p (suc k)
take_one e es p k is = rw is refl

differs : (p q : ℕ) → p < q → (q == p) ≡ false
differs p q lt = search (rules, ne_eqb)

pub equals : (p : ℕ) → (p == p) ≡ true
equals p = eq-eqb p p refl

-- ---- entries of a node are children of its parent or of one another

mutual
  node_none : (p k unit : ℕ) (above : Option ℕ) (depth : ℕ) (next : Option ℕ) (id at : ℕ) (n : Node) → p < id
      → is_parent above p ≡ false
      → children_from (node_entries unit above depth next id at n) p k ≡ []
  node_none p k unit above depth next id at (leaf h) lt isnt = rw isnt refl
  node_none p k unit above depth next id at (parent h ns z) lt isnt =
      search (
        rules,
        skip_one,
        differs,
        nodes_none p (suc k) unit id (suc depth) (suc id) (at + length (head_bytes h)) ns (omega (arith, lt))
            (differs p id lt),
      )

  nodes_none : (p k unit above depth id at : ℕ) (ns : Nodes) → p < id → (above == p) ≡ false
      → children_from (nodes_entries unit above depth id at ns) p k ≡ []
  nodes_none p k unit above depth id at none lt isnt = refl
  nodes_none p k unit above depth id at (n then ns) lt isnt =
      let es : List Entry = node_entries unit (Some above) depth (first_id ns (id + node_count n)) id at n in
      let fs : List Entry = nodes_entries unit above depth (id + node_count n) (at + length (node_bytes n)) ns in
      no_children-append es fs p k (node_none p k unit (Some above) depth (first_id ns (id + node_count n)) id at n lt
      isnt)
      (nodes_none p (k + length es) unit above depth (id + node_count n) (at + length (node_bytes n)) ns
      (omega (arith, lt)) isnt)

units_none : (p k unit id at : ℕ) (us : List DebugUnit) → p < id → children_from (entries_from unit id at us) p k ≡ []
units_none p k unit id at [] lt = refl
units_none p k unit id at (u ∷ us) lt =
    let es : List Entry = node_entries unit None 0 None id (at + unit_header_size u.header.kind) u.root in
    let fs : List Entry = entries_from (suc unit) (id + node_count u.root) (at + length (unit_bytes u)) us in
    no_children-append es fs p k (node_none p k unit None 0 None id (at + unit_header_size u.header.kind) u.root lt
    refl)
    (units_none p (k + length es) (suc unit) (id + node_count u.root) (at + length (unit_bytes u)) us
    (omega (arith, lt)))

-- ---- what stands behind an entry, among the entries from number k on

-- the next sibling m: the entries before it are no children of the parent, and it is one
pub record IsNext (k : ℕ) (es : List Entry) (p m : ℕ) : Type 0 where
  pub j : ℕ
  pub number : m ≡ k + j
  pub same : children_from es p k ≡ children_from (drop j es) p m
  pub child : Entry
  pub rest : List Entry
  pub there : drop j es ≡ child ∷ rest
  pub parent : child.parent ≡ Some p

-- the children of its parent that come after an entry, by its next sibling
abbrev pub After : ℕ → List Entry → Option ℕ → Option ℕ → Type 0
After k es None next = Unit {0}
After k es (Some p) None = children_from es p k ≡ []
After k es (Some p) (Some m) = IsNext k es p m

-- the entries behind the one with this number: where the first is no child, none is
abbrev pub First : ℕ → List Entry → Type 0
First id [] = Unit {0}
First id (e ∷ es) = is_parent e.parent id ≡ false → children_from (e ∷ es) id (suc id) ≡ []

-- a parent stands before its children
abbrev pub Below : ℕ → Option ℕ → Type 0
Below k above = IfSome above (λ p. p < k)

pub record Link (k : ℕ) (e : Entry) (es : List Entry) : Type 0 where
  pub below : Below k e.parent
  pub after : After (suc k) es e.parent e.next
  pub first : First k es

-- each entry is linked to those behind it
abbrev pub Chained : ℕ → List Entry → Type 0
Chained k [] = Unit {0}
Chained k (e ∷ es) = Link k e es × Chained (suc k) es

-- none of these entries is a child of an entry with a number from low to high
abbrev Outside : ℕ → ℕ → List Entry → Type 0
Outside low high es = (p k : ℕ) → low ≤ p → p < high → children_from es p k ≡ []

-- entries that are no children of the parent may stand between
after_more : (ys more : List Entry) (i k : ℕ) (above next : Option ℕ) → k ≡ i + length ys
    → ((p : ℕ) → above ≡ Some p → children_from ys p i ≡ []) → After k more above next → After i (ys ++ more) above next
after_more ys more i k None next e clear after = tt
after_more ys more i k (Some p) None e clear after = search (rules, no_children-append)
after_more ys more i k (Some p) (Some m) e clear after = search (rules, drop-append-add, children_from-append)

pub below_get : (k : ℕ) (above : Option ℕ) (p : ℕ) → Below k above → above ≡ Some p → p < k
below_get k None p below is = absurd cc
below_get k (Some q) p below is = search rules

-- the first entry behind is no child: there is none
first_none : (id : ℕ) (more : List Entry) → children_from more id (suc id) ≡ [] → First id more
first_none id [] e = tt
first_none id (x ∷ xs) e = λ isnt. e

first_sibling : (unit above depth id at : ℕ) (ns : Nodes) (more : List Entry)
    → ((k : ℕ) → children_from more above k ≡ [])
    → After id (nodes_entries unit above depth id at ns ++ more) (Some above) (first_id ns id)
first_sibling unit above depth id at none more clear = clear id
first_sibling unit above depth id at (leaf h then ns) more clear =
    record { j = 0; number = omega arith; same = refl; child = _; rest = _; there = refl; parent = refl }
first_sibling unit above depth id at (parent h ms z then ns) more clear =
    record { j = 0; number = omega arith; same = refl; child = _; rest = _; there = refl; parent = refl }

first_of_nodes : (unit above depth at : ℕ) (ns : Nodes) (more : List Entry)
    → ((k : ℕ) → children_from more above k ≡ [])
    → First above (nodes_entries unit above depth (suc above) at ns ++ more)
first_of_nodes unit above depth at none more clear = search (rules, first_none)
first_of_nodes unit above depth at (leaf h then ns) more clear = search (rules, equals)
first_of_nodes unit above depth at (parent h ms z then ns) more clear = search (rules, equals)

mutual
  node_chained : (unit : ℕ) (above : Option ℕ) (depth : ℕ) (next : Option ℕ) (id at : ℕ) (n : Node) (more : List Entry)
      → Below id above → Outside id (id + node_count n) more
      → After (id + node_count n) more above next → Chained (id + node_count n) more
      → Chained id (node_entries unit above depth next id at n ++ more)
  node_chained unit above depth next id at (leaf h) more below outside after chained = search (rules, first_none)
  node_chained unit above depth next id at (parent h ns z) more below outside after chained =
      let ys : List Entry = nodes_entries unit id (suc depth) (suc id) (at + length (head_bytes h)) ns in
      let len : id + suc (nodes_count ns)
      ≡ suc id + length ys = omega (
        arith,
        length-nodes_entries unit id (suc depth) (suc id)
            (at + length (head_bytes h)) ns,
      ) in
      let same : id + suc (nodes_count ns) ≡ suc id + nodes_count ns = omega arith in
      let clear : (k : ℕ) → children_from more id k ≡ [] = λ k. outside id k (omega arith) (omega arith) in (
        record {
          below = below;
          after = after_more ys more (suc id) (id + suc (nodes_count ns)) above next len
              (λ p is. nodes_none p (suc id) unit id (suc depth) (suc id) (at + length (head_bytes h)) ns
              (let lt : p < id = below_get id above p below is in omega (arith, lt))
              (differs p id (below_get id above p below is))) after;
          first = first_of_nodes unit id (suc depth) (at + length (head_bytes h)) ns more clear;
        },
        nodes_chained unit id (suc depth) (suc id) (at + length (head_bytes h)) ns more (omega arith) clear
            (λ p k low high. outside p k (omega (arith, low)) (omega (arith, high)))
            (subst (λ k. Chained k more) same chained),
      )

  nodes_chained : (unit above depth id at : ℕ) (ns : Nodes) (more : List Entry) → above < id
      → ((k : ℕ) → children_from more above k ≡ []) → Outside id (id + nodes_count ns) more
      → Chained (id + nodes_count ns) more → Chained id (nodes_entries unit above depth id at ns ++ more)
  nodes_chained unit above depth id at none more below clear outside chained = search rules
  nodes_chained unit above depth id at (n then ns) more below clear outside chained =
      let here : ℕ = id + node_count n in
      let xs : List Entry = node_entries unit (Some above) depth (first_id ns here) id at n in
      let ys : List Entry = nodes_entries unit above depth here (at + length (node_bytes n)) ns in
      let len : id + (node_count n + nodes_count ns) ≡ id + node_count n + nodes_count ns = omega arith in
      subst (Chained id) (sym (append_assoc xs ys more))
      (node_chained unit (Some above) depth (first_id ns here) id at n (ys ++ more) below
      (λ p k low high. no_children-append ys more p k
      (nodes_none p k unit above depth here (at + length (node_bytes n)) ns high
      (ne_eqb above p (λ e. omega (arith, below, low, e))))
      (outside p (k + length ys) low (omega (arith, high))))
      (first_sibling unit above depth here (at + length (node_bytes n)) ns more clear)
      (nodes_chained unit above depth here (at + length (node_bytes n)) ns more (omega (arith, below)) clear
      (λ p k low high. outside p k (omega (arith, low)) (omega (arith, high)))
      (subst (λ k. Chained k more) len chained)))

pub units_chained : (unit id at : ℕ) (us : List DebugUnit) → Chained id (entries_from unit id at us)
units_chained unit id at [] = tt
units_chained unit id at (u ∷ us) =
    search (
      rules,
      node_chained,
      units_none,
      (units_chained (suc unit) (id + node_count u.root) (at + length (unit_bytes u)) us),
    )

-- The pass over a tree's items makes the tree's entries.
use Rattle.std.proofs.Common.{rules, ◌≡◌, ℕ, zero, suc, ◌+◌, true, false, List, [], ◌∷◌, ◌++◌, length, map, Option, Some, None, refl, sym, ap, ◌∙◌, append_assoc, append-nil, arith, length-append}
use Rattle.std.proofs.lemmas.List.{length-map, map-append}
use Rattle.dw_entries.specs.Tree.{Node, Nodes, leaf, parent, none, ◌then◌, IsNode, AreNodes, node_bytes, nodes_bytes, Context, Head, head_bytes}
use Rattle.dw_entries.specs.Items.{Item, null, node_items, nodes_items}
use Rattle.dw_entries.specs.Scanned.{Record, record_of}
use Rattle.dw_entries.specs.Records.{tree_records}
use Rattle.dw_entries.specs.Walk.{Level, Walk, link, link_last, walk_along}
use Rattle.dw_entries.proofs.EntryFacts.{length-node_entries, node_count, first_id, node_entries, nodes_entries}

length-link : (k id : ℕ) (rs : List Record) → length (link k id rs) ≡ length rs
length-link k id [] = refl
length-link zero id (r ∷ rs) = refl
length-link (suc k) id (r ∷ rs) = ap suc (length-link k id rs)

pub length-link_last : (o : Option ℕ) (id : ℕ) (rs : List Record) → length (link_last o id rs) ≡ length rs
length-link_last None id rs = refl
length-link_last (Some k) id rs = length-link k id rs

-- what is linked before these nodes are entered, and the last of them
abbrev linked : Nodes → Option ℕ → ℕ → List Record → List Record
linked none last id rs = rs
linked (n then ns) last id rs = link_last last id rs

abbrev last_id : Nodes → Option ℕ → ℕ → Option ℕ
last_id none last id = last
last_id (n then ns) last id = last_id ns (Some id) (id + node_count n)

linked-None : (ns : Nodes) (id : ℕ) (rs : List Record) → linked ns None id rs ≡ rs
linked-None none id rs = refl
linked-None (n then ns) id rs = refl

abbrev walk : List Record → List Level → Walk
walk rs ls = record { records = rs; levels = ls }

abbrev level : ℕ → Option ℕ → Level
level p last = record { parent = Some p; last = last }

parent_end : (at : ℕ) (h : Head) (ns : Nodes) (z : List ℕ)
    → ((at + length (head_bytes h)) + length (nodes_bytes ns)) + length z ≡ at + length (node_bytes (parent h ns z))
parent_end at h ns z = search (rules, length-append)

module _ (numbers : ℕ → ℕ) (unit : ℕ) where
  -- what is kept of the entries of a node, and of nodes
  abbrev node_kept : (above : Option ℕ) (depth : ℕ) (next : Option ℕ) (id at : ℕ) → Node → List Record
  node_kept above depth next id at n = map (record_of (λ _. numbers)) (node_entries unit above depth next id at n)

  abbrev nodes_kept : (above depth id at : ℕ) → Nodes → List Record
  nodes_kept above depth id at ns = map (record_of (λ _. numbers)) (nodes_entries unit above depth id at ns)

  -- the link of a node after these
  link_node : (rs : List Record) (above : Option ℕ) (depth id at : ℕ) (n : Node) (to : ℕ)
      → link (length rs) to (rs ++ node_kept above depth None id at n)
      ≡ rs ++ node_kept above depth (Some to) id at n
  link_node [] above depth id at (leaf h) to = refl
  link_node [] above depth id at (parent h ns z) to = refl
  link_node (r ∷ rs) above depth id at n to = search (rules, (link_node rs above depth id at n to))

  linked_node : (ns : Nodes) (rs : List Record) (above : Option ℕ) (depth id at : ℕ) (n : Node) (to : ℕ)
      → length rs ≡ id → linked ns (Some id) to (rs ++ node_kept above depth None id at n)
      ≡ rs ++ node_kept above depth (first_id ns to) id at n
  linked_node none rs above depth id at n to e = refl
  linked_node (m then ns) rs above depth id at n to e = search (rules, link_node)

  -- a parent is entered
  abbrev entered : Head → ℕ → List Record → ℕ → Option ℕ → List Record
  entered h at rs p last =
      link_last last (length rs) rs
      ++ record { at = at; decl = numbers h.decl.code; parent = Some p; next = None } ∷ []

  length-entered : (h : Head) (at : ℕ) (rs : List Record) (p : ℕ) (last : Option ℕ)
      → length (entered h at rs p last) ≡ suc (length rs)
  length-entered h at rs p last = search (rules, length-append, length-link_last)

  parent_records : (h : Head) (at : ℕ) (rs : List Record) (p : ℕ) (last : Option ℕ) (depth : ℕ) (ns : Nodes)
      (z : List ℕ)
      → linked ns None (length (entered h at rs p last)) (entered h at rs p last)
      ++ nodes_kept (length rs) (suc depth) (length (entered h at rs p last)) (at + length (head_bytes h)) ns
      ≡ link_last last (length rs) rs ++ node_kept (Some p) depth None (length rs) at (parent h ns z)
  parent_records h at rs p last depth ns z = search (rules, linked-None, length-entered, append_assoc)

  -- the pass from another offset, and with other records
  same_walk : (is : List Item) (ls : List Level) (at to : ℕ) (rs qs : List Record) → at ≡ to → rs ≡ qs
      → walk_along numbers at is (walk rs ls) ≡ walk_along numbers to is (walk qs ls)
  same_walk is ls at to rs qs e f = search (rules)

  abbrev with_node : ℕ → Node → List Record → ℕ → Option ℕ → ℕ → List Record
  with_node at n rs p last depth =
      link_last last (length rs) rs ++ node_kept (Some p) depth None (length rs) at n

  length-with_node : (at : ℕ) (n : Node) (rs : List Record) (p : ℕ) (last : Option ℕ) (depth : ℕ)
      → length (with_node at n rs p last depth) ≡ length rs + node_count n
  length-with_node at n rs p last depth =
      search (rules, length-append, length-link_last, length-map, length-node_entries)

  more_nodes : (at : ℕ) (n : Node) (ns : Nodes) (is : List Item) (rs : List Record) (p : ℕ) (last : Option ℕ)
      (depth : ℕ) (ls : List Level)
      → walk_along numbers ((at + length (node_bytes n)) + length (nodes_bytes ns)) is
      (walk (linked ns (Some (length rs)) (length (with_node at n rs p last depth)) (with_node at n rs p last depth)
      ++ nodes_kept p depth (length (with_node at n rs p last depth)) (at + length (node_bytes n)) ns)
      (level p (last_id ns (Some (length rs)) (length (with_node at n rs p last depth))) ∷ ls))
      ≡ walk_along numbers (at + length (nodes_bytes (n then ns))) is
      (walk (link_last last (length rs) rs ++ nodes_kept p depth (length rs) at (n then ns))
      (level p (last_id (n then ns) last (length rs)) ∷ ls))
  more_nodes at n ns is rs p last depth ls =
      let new : List Record = with_node at n rs p last depth in
      let end : ((at + length (node_bytes n)) + length (nodes_bytes ns))
      ≡ at + length (nodes_bytes (n then ns)) = omega (arith, length-append (node_bytes n) (nodes_bytes ns)) in
      let more : ℕ → List Record = λ k. nodes_kept p depth k (at + length (node_bytes n)) ns in
      let k : ℕ = length rs + node_count n in
      let front : List Record = link_last last (length rs) rs in
      let both : linked ns (Some (length rs)) k new ++ more k
      ≡ front ++ nodes_kept p depth (length rs) at (n then ns) =
      search (rules, linked_node, length-link_last, append_assoc, map-append) in
      ap (λ (j : ℕ). walk_along numbers ((at + length (node_bytes n)) + length (nodes_bytes ns)) is
      (walk (linked ns (Some (length rs)) j new ++ more j) (level p (last_id ns (Some (length rs)) j) ∷ ls)))
      (length-with_node at n rs p last depth)
      ∙ same_walk is (level p (last_id ns (Some (length rs)) k) ∷ ls) _ _ _ _ end both

  mutual
    -- a node in an open list of children
    along_node : (t : Context) (at : ℕ) (n : Node) (is : List Item) (rs : List Record) (p : ℕ) (last : Option ℕ)
        (depth : ℕ) (ls : List Level) → IsNode t n
        → walk_along numbers at (node_items n ++ is) (walk rs (level p last ∷ ls))
        ≡ walk_along numbers (at + length (node_bytes n)) is
        (walk (with_node at n rs p last depth) (level p (Some (length rs)) ∷ ls))
    along_node t at (leaf h) is rs p last depth ls good =
        let e : h.decl.has_children ≡ false = good.1 in rw e refl
    along_node t at (parent h ns z) is rs p last depth ls good =
        let e : h.decl.has_children ≡ true = good.1 in
        rw e (ap (λ (js : List Item). walk_along numbers (at + length (head_bytes h)) js
        (walk (entered h at rs p last) (level (length rs) None ∷ level p (Some (length rs)) ∷ ls)))
        (append_assoc (nodes_items ns) (null z ∷ []) is)
        ∙ along_nodes t (at + length (head_bytes h)) ns (null z ∷ is) (entered h at rs p last) (length rs) None
        (suc depth) (level p (Some (length rs)) ∷ ls) good.2
        ∙ same_walk is (level p (Some (length rs)) ∷ ls) _ _ _ _ (parent_end at h ns z)
        (parent_records h at rs p last depth ns z))

    -- nodes at the end of an open list of children
    along_nodes : (t : Context) (at : ℕ) (ns : Nodes) (is : List Item) (rs : List Record) (p : ℕ) (last : Option ℕ)
        (depth : ℕ) (ls : List Level) → AreNodes t ns
        → walk_along numbers at (nodes_items ns ++ is) (walk rs (level p last ∷ ls))
        ≡ walk_along numbers (at + length (nodes_bytes ns)) is
        (walk (linked ns last (length rs) rs ++ nodes_kept p depth (length rs) at ns)
        (level p (last_id ns last (length rs)) ∷ ls))
    along_nodes t at none is rs p last depth ls good =
        same_walk is (level p last ∷ ls) at (at + 0) rs (rs ++ []) (omega arith) (sym (append-nil rs))
    along_nodes t at (n then ns) is rs p last depth ls good =
        ap (λ (js : List Item). walk_along numbers at js (walk rs (level p last ∷ ls)))
        (append_assoc (node_items n) (nodes_items ns) is)
        ∙ along_node t at n (nodes_items ns ++ is) rs p last depth ls good.0
        ∙ along_nodes t (at + length (node_bytes n)) ns is (with_node at n rs p last depth) p (Some (length rs)) depth
        ls good.1
        ∙ more_nodes at n ns is rs p last depth ls

  -- a node of a unit
  pub along_root : (t : Context) (at : ℕ) (n : Node) (rs : List Record) → IsNode t n
      → walk_along numbers at (node_items n) (walk rs []) ≡ walk (rs ++ tree_records numbers unit (length rs) at n) []
  along_root t at (leaf h) rs good = let e : h.decl.has_children ≡ false = good.1 in rw e refl
  along_root t at (parent h ns z) rs good =
      let e : h.decl.has_children ≡ true = good.1 in
      let new : List Record = rs ++ record { at = at; decl = numbers h.decl.code; parent = None; next = None } ∷ [] in
      let below : ℕ → List Record = λ k. nodes_kept (length rs) 1 k (at + length (head_bytes h)) ns in
      let len : length new ≡ suc (length rs) = search (rules, length-append) in
      let all : linked ns None (length new) new ++ below (length new)
      ≡ rs ++ tree_records numbers unit (length rs) at (parent h ns z) =
      search (rules, linked-None, append_assoc) in
      rw e (along_nodes t (at + length (head_bytes h)) ns (null z ∷ []) new (length rs) None 1 [] good.2
      ∙ ap (λ (r : List Record). walk r []) all)

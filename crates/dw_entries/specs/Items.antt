-- Chapter: the items of a tree in their order: the head of each entry, and each null that closes a list of children.
use Rattle.std.specs.Prelude.{ℕ, zero, suc, List, [], ◌∷◌, ◌++◌, Option, Some, None, if◌then◌else◌, flat_map}
use Rattle.std.specs.List.{AllByRecursion}
use Rattle.dw_entries.specs.Grammar.{Declaration, Context, Head, head_bytes, IsHead, IsNull}
use Rattle.dw_entries.specs.Tree.{Node, Nodes, leaf, parent, none, ◌then◌}

-- an entry's head, or a null
pub data Item : Type 0 where
  entry : Head → Item
  null : List ℕ → Item

-- the number of an entry's declaration, by its code, and the declaration
abbrev pub entry_decl : (ℕ → ℕ) → Head → ℕ × Declaration
entry_decl numbers h = (numbers h.decl.code, h.decl)

-- the same of an item, and none at a null
abbrev pub numbered_decl : (ℕ → ℕ) → Item → Option (ℕ × Declaration)
numbered_decl numbers (entry h) = Some (entry_decl numbers h)
numbered_decl numbers (null z) = None

-- the bytes of an item
abbrev pub item_bytes : Item → List ℕ
item_bytes (entry h) = head_bytes h
item_bytes (null z) = z

-- the item is spelled by the grammar
abbrev pub IsItem : Context → Item → Type 0
IsItem x (entry h) = IsHead x h
IsItem x (null z) = IsNull z

-- each of the items is
abbrev pub AreItems : Context → List Item → Type 0
AreItems x is = AllByRecursion (IsItem x) is

-- the bytes of items, joined
abbrev pub items_bytes : List Item → List ℕ
items_bytes is = flat_map item_bytes is

-- how many lists of children are open after an item, where d + 1 are open before it
abbrev pub depth_after : ℕ → Item → ℕ
depth_after d (entry h) = if h.decl.has_children then suc (suc d) else suc d
depth_after d (null z) = d

-- how many are open after these items; none where an entry comes after the last list is closed
abbrev pub depth_along : ℕ → List Item → Option ℕ
depth_along d [] = Some d
depth_along zero (entry h ∷ is) = None
depth_along zero (null z ∷ is) = depth_along zero is
depth_along (suc d) (i ∷ is) = depth_along (depth_after d i) is

-- how many lists of children are open after the first entry of a tree
abbrev pub root_depth : Head → ℕ
root_depth h = if h.decl.has_children then 1 else 0

-- how many are open after these items of one tree: before the first item the tree itself, and 0 after its end;
-- none where they don't begin a tree
abbrev pub tree_depth : List Item → Option ℕ
tree_depth [] = Some 1
tree_depth (entry h ∷ is) = depth_along (root_depth h) is
tree_depth (null z ∷ is) = None

-- a tree's items, each entry before its children
abbrev mutual
  pub node_items : Node → List Item
  node_items (leaf h) = entry h ∷ []
  node_items (parent h ns z) = entry h ∷ (nodes_items ns ++ null z ∷ [])

  pub nodes_items : Nodes → List Item
  nodes_items none = []
  nodes_items (n then ns) = node_items n ++ nodes_items ns

-- Chapter: the entries of the units in rising offset, each with its place in the tree.
use Rattle.std.specs.Prelude.{ℕ, suc, ◌+◌, List, [], ◌∷◌, ◌++◌, length, Option, Some, None}
use Rattle.dw_entries.specs.Header.{unit_header_size}
use Rattle.dw_entries.specs.Tree.{Node, Nodes, leaf, parent, none, ◌then◌, node_bytes, Head, head_bytes}
pub use Rattle.dw_entries.specs.Units.{DebugUnit, unit_bytes}

-- an entry: the offset of its first byte in .debug_info, the number of its unit, the number of the entry that it is a
-- child of, how many entries are above it, the number of its next sibling, and its head
pub record Entry : Type 0 where
  pub at : ℕ
  pub unit : ℕ
  pub parent : Option ℕ
  pub depth : ℕ
  pub next : Option ℕ
  pub head : Head

-- how many entries
abbrev mutual
  pub node_count : Node → ℕ
  node_count (leaf h) = 1
  node_count (parent h ns z) = suc (nodes_count ns)

  pub nodes_count : Nodes → ℕ
  nodes_count none = 0
  nodes_count (n then ns) = node_count n + nodes_count ns

-- the next sibling of a node before these: the first of them, whose number is id
abbrev pub first_id : Nodes → ℕ → Option ℕ
first_id none id = None
first_id (n then ns) id = Some id

-- a node's entries: itself, number id, at this offset under this parent and with this next sibling, and those below it
abbrev mutual
  pub node_entries : (unit : ℕ) (above : Option ℕ) (depth : ℕ) (next : Option ℕ) (id : ℕ) (at : ℕ) → Node → List Entry
  node_entries unit above depth next id at (leaf h) =
      record { at = at; unit = unit; parent = above; depth = depth; next = next; head = h } ∷ []
  node_entries unit above depth next id at (parent h ns z) =
      record { at = at; unit = unit; parent = above; depth = depth; next = next; head = h }
      ∷ nodes_entries unit id (suc depth) (suc id) (at + length (head_bytes h)) ns

  pub nodes_entries : (unit : ℕ) (above : ℕ) (depth : ℕ) (id : ℕ) (at : ℕ) → Nodes → List Entry
  nodes_entries unit above depth id at none = []
  nodes_entries unit above depth id at (n then ns) =
      node_entries unit (Some above) depth (first_id ns (id + node_count n)) id at n
      ++ nodes_entries unit above depth (id + node_count n) (at + length (node_bytes n)) ns

-- the entries of these units, of which the first has this number and begins at this offset, with entry number id
abbrev pub entries_from : (unit : ℕ) (id : ℕ) (at : ℕ) → List DebugUnit → List Entry
entries_from unit id at [] = []
entries_from unit id at (u ∷ us) =
    node_entries unit None 0 None id (at + unit_header_size u.header.kind) u.root
    ++ entries_from (suc unit) (id + node_count u.root) (at + length (unit_bytes u)) us

-- where the first of these units begins
abbrev pub start_of : List DebugUnit → ℕ
start_of [] = 0
start_of (u ∷ us) = u.at

-- the entries of these units
abbrev pub entries_of : List DebugUnit → List Entry
entries_of us = entries_from 0 0 (start_of us) us

-- ---- the units, each at its place

-- the offset of a unit's header, and the number of its first entry
pub record PlacedUnit : Type 0 where
  pub at : ℕ
  pub first : ℕ
  pub unit : DebugUnit

-- these units, the first of which begins at this offset with entry first
abbrev pub placed_from : ℕ → ℕ → List DebugUnit → List PlacedUnit
placed_from at first [] = []
placed_from at first (u ∷ us) =
    record { at = at; first = first; unit = u }
    ∷ placed_from (at + length (unit_bytes u)) (first + node_count u.root) us

-- the units, each at its place
abbrev pub placed : List DebugUnit → List PlacedUnit
placed us = placed_from (start_of us) 0 us

-- Chapter: the children of an entry, and those from one child on (DWARF 5, 2.3).
use Rattle.std.specs.Prelude.{◌≡◌, ℕ, ◌-◌, ◌<◌, Bool, false, List, [], Option, None, Some, filter, length, nat_eq}
use Rattle.std.specs.List.{range_with_len}
use Rattle.dw_entries.specs.ByNumber.{entry_of, Entry}

-- the parent, if there is one, is this entry
abbrev pub is_parent : Option ℕ → ℕ → Bool
is_parent None node = false
is_parent (Some parent) node = nat_eq parent node

-- the one entry is a child of the other
abbrev pub is_child : List Entry → (parent child : ℕ) → Bool
is_child entries parent child = is_parent (entry_of entries child).parent parent

-- the numbers of an entry's children, in rising offset
unfoldable pub children_of : List Entry → ℕ → List ℕ
children_of entries id = filter (is_child entries id) (range_with_len 0 (length entries))

-- a child, if there is one, and the children after it
abbrev pub siblings_from : List Entry → (parent : ℕ) → Option ℕ → List ℕ
siblings_from entries parent None = []
siblings_from entries parent (Some next) =
    filter (is_child entries parent) (range_with_len next (length entries - next))

-- an entry, and a child of this parent
abbrev pub IsChildOf : List Entry → (parent child : ℕ) → Type 0
IsChildOf entries parent child = (child < length entries) × ((entry_of entries child).parent ≡ Some parent)

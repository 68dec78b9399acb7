-- State: one pass over the items of a tree: the entries so far, and the open lists of children, the innermost first.
use Rattle.std.specs.Prelude.{ℕ, zero, suc, ◌+◌, Bool, true, false, List, [], ◌∷◌, ◌++◌, length, reverse, Option, Some}
use Rattle.std.specs.Prelude.{None}
pub use Rattle.dw_entries.specs.declared.records.Record.{Record}
pub use Rattle.dw_entries.specs.declared.tree.Level.{Level}
use Rattle.dw_forms.specs.Abbrev.{Declaration}
use Rattle.dw_entries.specs.Items.{Item, entry, null, item_bytes}

-- the records so far, and the open lists of children, the innermost first
pub record Walk : Type 0 where
  pub records : List Record
  pub levels : List Level

-- the innermost open list, if one is open, and those around it, of which the innermost is the last
abbrev pub levels_of : List Level → Option Level → List Level
levels_of outer None = []
levels_of outer (Some inner) = inner ∷ reverse outer

-- the state of the code
abbrev pub walk_of : List Record → List Level → Option Level → Walk
walk_of records outer inner = record { records = records; levels = levels_of outer inner }

-- the entry of this number gets a next sibling
abbrev pub link : ℕ → ℕ → List Record → List Record
link k id [] = []
link zero id (r ∷ rs) = record r { next = Some id } ∷ rs
link (suc k) id (r ∷ rs) = r ∷ link k id rs

-- the last entry of a list, if there is one, gets a next sibling
abbrev pub link_last : Option ℕ → ℕ → List Record → List Record
link_last None id rs = rs
link_last (Some k) id rs = link k id rs

-- an entry that may have children opens their list
abbrev pub open_list : Bool → ℕ → List Level → List Level
open_list true id ls = record { parent = Some id; last = None } ∷ ls
open_list false id ls = ls

-- an entry is taken up, with the number of its declaration and the declaration
abbrev pub enter : ℕ → ℕ × Declaration → List Record → List Level → Walk
enter at d rs [] = record {
  records =
      rs ++ record { at = at; decl = d.0; parent = None; next = None } ∷ [];
  levels =
      open_list d.1.has_children (length rs) [];
}
enter at d rs (l ∷ ls) = record {
  records = link_last l.last (length rs) rs ++ record { at = at; decl = d.0; parent = l.parent; next = None } ∷ [];
  levels = open_list d.1.has_children (length rs) (record { parent = l.parent; last = Some (length rs) } ∷ ls);
}

-- the innermost list is closed
abbrev pub leave : List Level → List Level
leave [] = []
leave (l ∷ ls) = ls

-- what an item at this offset makes of the state, with the numbers of the declarations by their codes: an entry is
-- taken
-- up, a null closes a list
abbrev pub step : (ℕ → ℕ) → ℕ → Item → Walk → Walk
step numbers at (entry h) w = enter at (numbers h.decl.code, h.decl) w.records w.levels
step numbers at (null z) w = record w { levels = leave w.levels }

-- what items from this offset on make of the state, one after another
abbrev pub walk_along : (ℕ → ℕ) → ℕ → List Item → Walk → Walk
walk_along numbers at [] w = w
walk_along numbers at (i ∷ is) w = walk_along numbers (at + length (item_bytes i)) is (step numbers at i w)

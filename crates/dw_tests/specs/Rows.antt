-- State: the lists in a vector of vectors.
use Rattle.std.specs.Prelude.{ℕ, List, Vec, map}
use Rattle.std.specs.declared.alloc.Global.{Global}

-- the items of each vector
abbrev pub row_items : List (Vec ℕ Global) → List (List ℕ)
row_items rows = map (λ row. row.items) rows

-- What stands in a graph that is given by rows.
use Rattle.std.proofs.Common.{◌≡◌, ℕ, ◌+◌, ◌<◌, List, [], length, get_or, inl, inr, arith, sym, ap, ◌∙◌}
use Rattle.std.specs.Prelude.{Vec}
use Rattle.std.specs.declared.alloc.Global.{Global}
use Rattle.std.proofs.lemmas.Bool.{cases_lt}
use Rattle.std.proofs.lemmas.List.{length-map, get_or-map, get_or_past}
use Rattle.dw_types.specs.Graphs.{steps_of, step_at, LeadsToNodes}
use Rattle.dw_tests.specs.Rows.{row_items}

pub steps-at : (rows : List (Vec ℕ Global)) (node : ℕ) (row : Vec ℕ Global) → node < length rows
    → row ≡ get_or rows node row → steps_of (row_items rows) node ≡ row.items
steps-at rows node row below is =
    get_or-map (λ (r : Vec ℕ Global). r.items) rows node row [] below ∙ ap (λ (r : Vec ℕ Global). r.items) (sym is)

pub leads-more : (rows : List (Vec ℕ Global)) (count bound : ℕ) (row : Vec ℕ Global) → count < length rows
    → row ≡ get_or rows count row
    → ((node k : ℕ) → node < count → k < length (steps_of (row_items rows) node)
    → step_at (row_items rows) node k < bound)
    → ((k : ℕ) → k < length row.items → get_or row.items k 0 < bound)
    → (node k : ℕ) → node < count + 1 → k < length (steps_of (row_items rows) node)
    → step_at (row_items rows) node k < bound
leads-more rows count bound row below is before here node k within in_steps =
    elim (cases_lt node count) [
      | inl early ↦ before node k early in_steps
      | inr late ↦
          let same : node ≡ count = omega arith in
          let steps = steps-at rows count row below is in
          rw (same, steps) (here k (rw (same, steps) at in_steps))
    ]

pub leads-all : (rows : List (Vec ℕ Global)) (bound : ℕ) → bound ≡ length rows
    → ((node k : ℕ) → node < length rows → k < length (steps_of (row_items rows) node)
    → step_at (row_items rows) node k < bound) → LeadsToNodes (row_items rows)
leads-all rows bound e all node k in_steps =
    let long = length-map rows (λ (r : Vec ℕ Global). r.items) in
    elim (cases_lt node (length rows)) [
      | inl below ↦ let lt = all node k below in_steps in omega arith
      | inr above ↦
          let none : steps_of (row_items rows) node ≡ [] = get_or_past (row_items rows) node [] (omega arith) in
          let some : k < length {A = ℕ} [] = rw none at in_steps in
          absurd (omega arith)
    ]

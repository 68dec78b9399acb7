-- State: the entries that are reached from some declared ones, and the graph of the steps between them.
use Rattle.std.specs.Prelude.{◌≡◌, ℕ, ◌<◌, ◌++◌, ◌↔◌, Bool, true, false, List, length, map, slice_index, slice_index_or}
use Rattle.std.specs.Prelude.{All, Contains}
use Rattle.dw_types.specs.Graphs.{Graph, steps_of}
use Rattle.dw_cprint.specs.Shapes.{ShapeOf, view_shape}
use Rattle.dw_cprint.specs.Steps.{steps_reached, IsReachedFrom}
use Rattle.dw_cprint.specs.declared.survey.Survey.{Survey}

-- the place of each entry that is found, by its number
pub record ArePlaces (places found : List ℕ) : Type 0 where
  pub below : All (λ entry. entry < length places) found
  pub back : (k : ℕ) → k < length found → slice_index places (slice_index found k) ≡ k

-- an entry has a mark
abbrev pub IsMarked : (marks : List Bool) → ℕ → Type 0
IsMarked marks entry = slice_index_or marks entry false ≡ true

-- exactly some entries have marks
abbrev pub AreMarks : (entries : List ℕ) → (marks : List Bool) → Type 0
AreMarks entries marks = (entry : ℕ) → IsMarked marks entry ↔ Contains entries entry

-- exactly the entries with marks and smaller numbers are found
pub record FindsMarked (marks : List Bool) (number : ℕ) (places found : List ℕ) : Type 0 where
  pub placed : ArePlaces places found
  pub each : (entry : ℕ) → Contains found entry ↔ ((entry < number) × IsMarked marks entry)

-- exactly some entries are found
pub record FindsRoots (roots places found : List ℕ) : Type 0 where
  pub placed : ArePlaces places found
  pub each : (entry : ℕ) → Contains found entry ↔ Contains roots entry

-- some entries are found after those that were
pub record Grows (steps old new : List ℕ) : Type 0 where
  pub more : List ℕ
  pub is : new ≡ old ++ more
  pub among : (entry : ℕ) → Contains more entry → Contains steps entry

-- the places of some steps
pub record IsRowOfPlaces (found steps row : List ℕ) : Type 0 where
  pub leads : map (slice_index found) row ≡ steps
  pub below : All (λ node. node < length found) row

-- the steps have places
pub record FindsAll (steps places places' found found' row : List ℕ) : Type 0 where
  pub placed : ArePlaces places' found'
  pub len : length places' ≡ length places
  pub grows : Grows steps found found'
  pub is_row : IsRowOfPlaces found' steps row

-- the places of the steps are added to a list
abbrev pub AddsRow : (steps places places' found found' list list' : List ℕ) → Type 0
AddsRow steps places places' found found' list list' =
    (row : List ℕ) × FindsAll steps places places' found found' row × (list' ≡ list ++ row)

-- the entries that are reached from some, each once, and the graph of the steps between their places
pub record IsReachOf (shapes : ℕ → ShapeOf) (roots places found : List ℕ) (graph : Graph) : Type 0 where
  pub placed : ArePlaces places found
  pub nodes : length graph ≡ length found
  pub rows : (node : ℕ) → node < length found
      → IsRowOfPlaces found (steps_reached shapes (slice_index found node)) (steps_of graph node)
  pub roots_found : (to : ℕ) → Contains roots to → Contains found to
  pub reached : (entry : ℕ) → Contains found entry → IsReachedFrom shapes roots entry

-- a survey keeps the places and the shapes of the entries that are reached from some
pub record HasReached (shapes : ℕ → ShapeOf) (roots : List ℕ) (s : Survey) (graph : Graph) : Type 0 where
  pub found : List ℕ
  pub reach : IsReachOf shapes roots s.places.items found graph
  pub are_shapes : map view_shape s.shapes.items ≡ map shapes found

-- What the graph of what is reached tells of the entries, and what a survey keeps of it.
use Rattle.std.proofs.Common.{rules, ◌≡◌, ℕ, zero, suc, ◌<◌, true, false, List, Option, Some, None, refl, sym, ◌∙◌, ap, length, get_or, arith, map}
use Rattle.std.specs.Prelude.{All, Contains, ◌↔◌, slice_get, option_and_then, option_map, is_none}
use Rattle.std.specs.List.{list_any}
use Rattle.std.specs.Option.{option_map_or}
use Rattle.std.proofs.lemmas.Option.{slice_get-get_or, slice_get-map, slice_get_within, same_Some}
use Rattle.std.proofs.lemmas.List.{get_or_default, length-map}
use Rattle.std.proofs.lemmas.List.Folds.{Any-from_list_any, list_any-from_Any}
use Rattle.dw_types.specs.Paths.{Leads, ReachesCycle}
use Rattle.dw_types.specs.Graphs.{Graph, steps_of, step_at, IsStep}
use Rattle.dw_types.specs.Cycles.{AreClear}
use Rattle.dw_cprint.specs.Kept.{kept}
use Rattle.dw_cprint.specs.Reach.{IsReachOf}
use Rattle.dw_cprint.specs.Shapes.{ShapeOf, other, view_shape}
use Rattle.dw_cprint.specs.Steps.{entries_among, steps_reached, IsReachedFrom, root, further, ReachACycle, StepsTo}
use Rattle.dw_cprint.specs.Summaries.{KnowsType, AreNodes, AreRight, AreAmong, HaveSummaries, lacks_summary, IsSurveyOf}
use Rattle.dw_cprint.specs.declared.shape.Shape.{Shape}
use Rattle.dw_cprint.specs.declared.survey.Survey.{Survey}
use Rattle.dw_cprint.specs.declared.survey.Summary.{Summary}
use Rattle.dw_cprint.proofs.NumberLemmas.{picked-of}
use Rattle.dw_cprint.proofs.ReachLemmas.{entries-are, entry-among, from-map, into-map}
use Rattle.dw_cprint.proofs.KindLemmas.{all-types}
use Rattle.dw_cprint.proofs.SummaryLemmas.{summary-there, void_summary}
use Rattle.dw_types.proofs.LongestLemmas.{clear-free}
use Rattle.std.proofs.lemmas.Bool.{true_from_ne_false, false_from_ne_true}

mapped : {A B : Type 0} (f : A → B) (o : Option A) (y d : B) → option_map f o ≡ Some y → option_map_or f o d ≡ y
mapped f None y d e = absurd (cc)
mapped f (Some x) y d e = same_Some (f x) y e

module _ {shapes : ℕ → ShapeOf} {roots places found : List ℕ} {graph : Graph}
    (h : IsReachOf shapes roots places found graph) where
  -- an entry has one place
  pub one-place : (a b : ℕ) → a < length found → b < length found → get_or found a 0 ≡ get_or found b 0 → a ≡ b
  one-place a b v w same = sym (h.placed.back a v) ∙ (ap (λ x. get_or places x 0) same ∙ h.placed.back b w)

  -- a step of an entry is a step of its node
  step-node : (node next : ℕ) → node < length found → Contains (steps_reached shapes (get_or found node 0)) next
      → (to : ℕ) × (to < length found) × (get_or found to 0 ≡ next) × IsStep graph node to
  step-node node next w c =
      let row = h.rows node w in
      let (k, v, e) = from-map found (steps_of graph node) (steps_reached shapes (get_or found node 0)) next row.leads c
      in
      (step_at graph node k, row.below k 0 v, e, (k, v, refl))

  -- a step of a node is a step of its entry
  node-step : (node to : ℕ) → node < length found → IsStep graph node to
      → Contains (steps_reached shapes (get_or found node 0)) (get_or found to 0) × (to < length found)
  node-step node to w (k, v, e) =
      let row = h.rows node w in
      rw (← e) (
        into-map found (steps_of graph node) (steps_reached shapes (get_or found node 0)) k row.leads v,
        row.below k 0 v,
      )

  -- each entry that is reached is found
  pub found-all : {entry : ℕ} → IsReachedFrom shapes roots entry
      → (node : ℕ) × (node < length found) × (get_or found node 0 ≡ entry)
  found-all (root {to} c) = let (k, w, e) = h.roots_found to c in (k, w, (get_or_default found k 0 to w ∙ e))
  found-all (further {from} {to} r c) =
      let (n, w, e) = found-all r in
      let (m, v, f, s) = step-node n to w (rw (← e) at c) in
      (m, v, f)

  -- steps between nodes are steps between their entries
  nodes-lead : (n node to : ℕ) → node < length found → Leads (IsStep graph) n node to
      → Leads (StepsTo shapes) n (get_or found node 0) (get_or found to 0) × (to < length found)
  nodes-lead zero node to w same =
      (ap (λ k. get_or found k 0) same, rw (← same) w)
  nodes-lead (suc n) node to w (next, step, led) =
      let (c, v) = node-step node next w step in
      let (l, u) = nodes-lead n next to v led in
      ((get_or found next 0, c, l), u)

  -- and the other way
  entries-lead : (n node to : ℕ) → node < length found → Leads (StepsTo shapes) n (get_or found node 0) to
      → (last : ℕ) × (last < length found) × (get_or found last 0 ≡ to) × Leads (IsStep graph) n node last
  entries-lead zero node to w same = (node, w, same, refl)
  entries-lead (suc n) node to w (next, c, l) =
      let (m, v, f, s) = step-node node next w c in
      let (last, u, e, led) = entries-lead n m to v (rw (← f) at l) in
      (last, u, e, (m, s, led))

  -- cycles
  pub node-cycle : (node : ℕ) → node < length found → ReachesCycle (IsStep graph) node
      → ReachesCycle (StepsTo shapes) (get_or found node 0)
  node-cycle node w (k, to, led, (n, around)) =
      let (l, u) = nodes-lead k node to w led in
      let (a, v) = nodes-lead (suc n) to to u around in
      (k, get_or found to 0, l, (n, a))

  pub entry-cycle : (node : ℕ) → node < length found → ReachesCycle (StepsTo shapes) (get_or found node 0)
      → ReachesCycle (IsStep graph) node
  entry-cycle node w (k, to, l, (n, around)) =
      let (m, v, e, led) = entries-lead k node to w l in
      let (last, u, f, back) = entries-lead (suc n) m (get_or found m 0) v (rw (← e) at around) in
      (k, m, led, (n, rw (one-place last m u v f) at back))

  -- ---- what a survey keeps

  -- the place of an entry that is reached
  place-of : (node entry : ℕ) → node < length found → get_or found node 0 ≡ entry → slice_get places entry ≡ Some node
  place-of node entry w same = search (rules, slice_get-get_or)

  -- the shape that is read of a node
  read-at : (kept : List Shape) → map view_shape kept ≡ map shapes found → (node : ℕ) → node < length found
      → option_map view_shape (slice_get kept node) ≡ Some (shapes (get_or found node 0))
  read-at kept read node w =
      sym (slice_get-map view_shape kept node) ∙ ap (λ (xs : List ShapeOf). slice_get xs node) read
      ∙ slice_get-map shapes found node ∙ ap (option_map shapes) (slice_get-get_or found node 0 w)

  -- the clear nodes, for their summaries
  pub nodes-of : (kept : List Shape) (clear : List ℕ) → map view_shape kept ≡ map shapes found → AreClear graph clear
      → AreNodes shapes places found kept clear
  nodes-of kept clear read sorted =
      record {
        within = within-of;
        placed = λ node w. place-of node (get_or found node 0) w refl;
        says = says-of;
        behind = behind-of;
      }
    where
      within-of : (i : ℕ) → i < length clear → get_or clear i 0 < length found
      within-of i v = let nodes = h.nodes in let here = sorted.within i v in omega arith

      says-of : (node : ℕ) (shape : Shape) → slice_get kept node ≡ Some shape
          → view_shape shape ≡ shapes (get_or found node 0)
      says-of node shape is =
          let long = ap (λ (xs : List ShapeOf). length xs) read in
          let inside : node < length found = omega
          (arith, slice_get_within kept node shape is, length-map kept view_shape, length-map found shapes) in
          same_Some (view_shape shape) (shapes (get_or found node 0))
          (sym (ap (option_map view_shape) is) ∙ read-at kept read node inside)

      behind-of : (i to : ℕ) → i < length clear → Contains (steps_reached shapes (get_or found (get_or clear i 0) 0)) to
          → (j : ℕ) × (j < i) × (get_or found (get_or clear j 0) 0 ≡ to)
      behind-of i to v has =
          let (next, w, e, (k, u, at)) = step-node (get_or clear i 0) to (within-of i v) has in
          let (j, less, is) = sorted.ordered i k v u in
          (j, less, ap (λ (n : ℕ). get_or found n 0) (is ∙ at) ∙ e)

  module _ (s : Survey) (same : s.places.items ≡ places) where
    placed-at : (node entry : ℕ) → node < length found → get_or found node 0 ≡ entry
        → slice_get s.places.items entry ≡ Some node
    placed-at node entry w e = ap (λ (ps : List ℕ). slice_get ps entry) same ∙ place-of node entry w e

    -- the shape of each entry that is reached
    keeps-shapes : map view_shape s.shapes.items ≡ map shapes found → (entry : ℕ) → IsReachedFrom shapes roots entry
        → kept s entry ≡ shapes entry
    unfolding kept
    keeps-shapes read entry r =
        let (node, w, e) = found-all r in
        let seen = read-at s.shapes.items read node w ∙ ap (λ (n : ℕ). Some (shapes n)) e in
        ap (λ (o : Option Shape). option_map_or view_shape o other)
        (ap (λ (o : Option ℕ). option_and_then (slice_get s.shapes.items) o) (placed-at node entry w e))
        ∙ mapped view_shape (slice_get s.shapes.items node) (shapes entry) other seen

    module _ (clear : List ℕ) (summarized : HaveSummaries clear s.summaries.items) where
      summary-same : (node entry : ℕ) → node < length found → get_or found node 0 ≡ entry
          → lacks_summary s (Some entry) ≡ is_none (get_or s.summaries.items node None)
      summary-same node entry w e =
          ap (λ (o : Option Summary). is_none o)
          (summary-there s.places.items s.summaries.items entry node (placed-at node entry w e))

      -- what a survey tells of these entries
      pub survey-done : map view_shape s.shapes.items ≡ map shapes found → AreRight shapes found clear s
          → AreClear graph clear
          → IsSurveyOf shapes roots s
      survey-done read right sorted = record { keeps = keeps-shapes read; clear = clear-of; known = known-of }
        where
          clear-node : (node entry : ℕ) → node < length found → get_or found node 0 ≡ entry
              → lacks_summary s (Some entry) ≡ false → Contains clear node
          clear-node node entry w e has = (summarized node).1 (sym (summary-same node entry w e) ∙ has)

          clear-of : (entry : ℕ) → IsReachedFrom shapes roots entry
              → (lacks_summary s (Some entry) ≡ true) ↔ ReachesCycle (StepsTo shapes) entry
          clear-of entry r =
              let (node, w, e) = found-all r in
              let nodes = h.nodes in (
                λ lacks. rw (← e) (node-cycle node w
                    (sorted.others node (omega arith)
                    (λ has. (let there = summary-same node entry w e ∙ (summarized node).0 has in absurd (cc))))),
                λ cycle. true_from_ne_false (lacks_summary s (Some entry))
                    (λ there. clear-free graph clear sorted node (clear-node node entry w e there)
                    (entry-cycle node w (rw (← e) at cycle))),
              )

          known-of : (entry : ℕ) → IsReachedFrom shapes roots entry → lacks_summary s (Some entry) ≡ false
              → KnowsType shapes s (Some entry)
          known-of entry r summarized_here =
              let (node, w, e) = found-all r in
              let (i, v, at) = clear-node node entry w e summarized_here in
              let knows = right i v in
              rw (get_or_default clear i 0 node v ∙ at, e) at knows

-- ---- what is reached from some entries

-- steps lead from what is reached to what is reached
pub reached-on : (shapes : ℕ → ShapeOf) (roots : List ℕ) (k from to : ℕ) → IsReachedFrom shapes roots from
    → Leads (StepsTo shapes) k from to → IsReachedFrom shapes roots to
reached-on shapes roots zero from to r same = rw (← same) r
reached-on shapes roots (suc k) from to r (next, step, led) = reached-on shapes roots k next to (further r step) led

lead-more : (shapes : ℕ → ShapeOf) (k from at to : ℕ) → Leads (StepsTo shapes) k from at
    → Contains (steps_reached shapes at) to
    → Leads (StepsTo shapes) (suc k) from to
lead-more shapes zero from at to same step =
    (to, rw same step, refl)
lead-more shapes (suc k) from at to (next, first, led) step = (next, first, lead-more shapes k next at to led step)

-- what is reached is reached from one of the entries
pub reached-from-one : {shapes : ℕ → ShapeOf} {roots : List ℕ} {to : ℕ} → IsReachedFrom shapes roots to
    → (from k : ℕ) × Contains roots from × Leads (StepsTo shapes) k from to
reached-from-one (root {to} has) = (to, 0, has, refl)
reached-from-one {shapes = shapes} (further {from} {to} r step) =
    let (first, k, has, led) = reached-from-one r in
    (first, suc k, has, lead-more shapes k first from to led step)

-- ---- what a survey tells of some types

-- the type of an entry is one of the types
type-among : (types : List (Option ℕ)) (entry : ℕ) → Contains (entries_among types) entry → Contains types (Some entry)
type-among types entry has =
    let (at, there, is) = picked-of (λ (at : Option ℕ). at) types entry (rw (entries-are types) at has) in
    rw is at there

module _ {shapes : ℕ → ShapeOf} {roots : List ℕ} {s : Survey} (survey : IsSurveyOf shapes roots s)
    (types : List (Option ℕ)) (among : AreAmong (entries_among types) roots) where
  cycle-from : (entry : ℕ) → Contains (entries_among types) entry → lacks_summary s (Some entry) ≡ true
      → ReachACycle shapes (entries_among types)
  cycle-from entry has lacks =
      let (n, to, led, cycle) = (survey.clear entry (root (among entry has))).0 lacks in
      (to, reached-on shapes (entries_among types) n entry to (root has) led, cycle)

  -- a cycle is reached from the types, if one of them has no summary
  pub cycle-told : (list_any (lacks_summary s) types ≡ true) ↔ ReachACycle shapes (entries_among types)
  cycle-told =
      (λ t. (let (k, at, w, e, lacks) = Any-from_list_any (lacks_summary s) types t in forth at (k, w, e) lacks), back)
    where
      forth : (at : Option ℕ) → Contains types at → lacks_summary s at ≡ true → ReachACycle shapes (entries_among types)
      forth None has lacks = absurd (cc)
      forth (Some entry) has lacks = cycle-from entry (entry-among types entry has) lacks

      back : ReachACycle shapes (entries_among types) → list_any (lacks_summary s) types ≡ true
      back (entry, r, cycle) =
          let (from, n, has, led) = reached-from-one r in
          let (k, w, e) = type-among types from has in
          list_any-from_Any (lacks_summary s) types
          (k, Some from, w, e, (survey.clear from (root (among from has))).1 (n, entry, led, cycle))

  clear-there : (entry : ℕ) → Contains (entries_among types) entry → (ReachACycle shapes (entries_among types) → ⊥)
      → lacks_summary s (Some entry) ≡ false
  clear-there entry has none =
      false_from_ne_true (lacks_summary s (Some entry)) (λ lacks. none (cycle-from entry has lacks))

  -- what is known of each of the types, if they reach no cycle
  pub types-known : (ReachACycle shapes (entries_among types) → ⊥) → All (KnowsType shapes s) types
  types-known none =
      all-types (KnowsType shapes s) (void_summary shapes) types
      (λ to has. survey.known to (root (among to has)) (clear-there to has none))

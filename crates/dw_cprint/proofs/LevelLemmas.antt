-- The steps by value of an image: each entry has a level, and the order of a listing by them.
use Rattle.std.proofs.Common.{◌≡◌, ℕ, zero, suc, ◌+◌, ◌<◌, List, [], ◌∷◌, length, get_or, inl, inr, arith, refl, sym, ◌∙◌, ◌-◌, ap, true, false}
use Rattle.std.specs.Prelude.{◌⊎◌, Contains, AllPairs}
use Rattle.std.specs.List.{list_any}
use Rattle.std.proofs.lemmas.Bool.{cases_Bool, eqb-true, eq-eqb}
use Rattle.std.proofs.lemmas.List.Folds.{list_any-from_Any}
use Rattle.std.proofs.lemmas.Map.Views.{Contains-from_any}
use lib.Dec.{eqb}
use Rattle.std.proofs.lemmas.List.Elements.{Contains-get_or}
use Rattle.dw_entries.proofs.FindLaws.{entries_counted}
use Rattle.dw_entries.proofs.OrderLaws.{scanned_few}
use Rattle.dw_types.specs.Paths.{Leads, IsOnCycle}
use Rattle.dw_types.specs.Cycles.{AreClear}
use Rattle.dw_types.specs.Graphs.{Graph, FollowsSteps, HasNoCycle, IsStep}
use Rattle.dw_types.proofs.LongestLemmas.{row-after}
use Rattle.dw_types.proofs.StepLemmas.{length-by_value}
use Rattle.dw_image.specs.declared.image.Image.{Image}
use Rattle.dw_image.specs.Images.{units_in, entries_in, steps_in}
use Rattle.dw_cprint.specs.Listings.{HoldsByValue, IsListing}
use Rattle.dw_cprint.specs.Refusals.{PrintFault}

-- a list has a number or not
pub has-or-not : (xs : List ℕ) (x : ℕ) → Contains xs x ⊎ (Contains xs x → ⊥)
has-or-not xs x = elim (cases_Bool (list_any (eqb x) xs)) [
  | inl t ↦ inl (Contains-from_any {eq = eqb} eqb-true x xs t)
  | inr f ↦ inr (λ (k, w, e). (let t : true
      ≡ false = sym (list_any-from_Any (eqb x) xs (k, x, w, e, eq-eqb x x refl)) ∙ f in absurd (cc)))
]

-- ---- one row for each entry

-- as many rows as entries
steps-long : (image : Image) → length (steps_in image) ≡ length (entries_in image)
unfolding units_in steps_in
steps-long image = length-by_value (units_in image)

-- an entry takes a byte, so there are fewer than 2 ^ 32 - 1
pub few-entries : (image : Image) → length (entries_in image) < 4294967295
unfolding units_in
few-entries image =
    let scanned = image.entries.scanned in
    omega (arith, scanned_few _ _ _ _ _ scanned, entries_counted _ _ _ _ _ scanned, image.entries.sections.info_fits)

-- no entry holds itself by value
no-cycle : (image : Image) → HasNoCycle (steps_in image)
unfolding units_in steps_in
no-cycle image = image.measured.contained

-- a step in front of a list of steps
follows-more : (graph : Graph) (from next : ℕ) (nodes : List ℕ) → IsStep graph from next
    → FollowsSteps graph (next ∷ nodes) → FollowsSteps graph (from ∷ next ∷ nodes)
follows-more graph from next nodes step follows zero within = step
follows-more graph from next nodes step follows (suc k) within =
    let e : suc k + 1 ≡ suc (k + 1) = omega arith in
    rw e (follows k (omega arith))

-- the nodes that steps lead through
passed : (graph : Graph) (k from to : ℕ) → Leads (IsStep graph) k from to
    → (nodes : List ℕ) × (length nodes ≡ k) × FollowsSteps graph (from ∷ nodes) × (get_or (from ∷ nodes) k 0 ≡ to)
passed graph zero from to same = ([], refl, λ j within. absurd (omega arith), same)
passed graph (suc k) from to (next, step, led) =
    let (nodes, long, follows, ends) = passed graph k next to led in
    (next ∷ nodes, ap suc long, follows-more graph from next nodes step follows, ends)

-- a graph without closed lists has no node on a cycle
none-on_cycle : (graph : Graph) (node : ℕ) → HasNoCycle graph → IsOnCycle (IsStep graph) node → ⊥
none-on_cycle graph node none (k, led) =
    let (nodes, long, follows, ends) = passed graph (suc k) node node led in
    let last : length (node ∷ nodes) - 1 ≡ suc k = omega (arith, long) in
    none (node ∷ nodes) (record { two = omega (arith, long); steps = follows; closed = rw last (sym ends) })

-- so all entries are clear
pub all-clear : (image : Image) (clear : List ℕ) → AreClear (steps_in image) clear → (entry : ℕ)
    → entry < length (entries_in image) → Contains clear entry
all-clear image clear h entry within = elim (has-or-not clear entry) [
  | inl has ↦ has
  | inr missing ↦
      let long = steps-long image in
      let (k, to, led, cycle) = h.others entry (omega arith) missing in
      absurd (none-on_cycle (steps_in image) to (no-cycle image) cycle)
]

-- ---- in a listing, no type comes before one that it contains by value

-- no listed type holds one that is listed after it
pub held-first : (image : Image) (order : List ℕ) (refused : List (ℕ × PrintFault)) → IsListing image order refused
    → AllPairs (λ a b. HoldsByValue (steps_in image) a b → ⊥) order
held-first image order refused h i j d before within (k, led) =
    let a = get_or order i d in
    let b = get_or order j d in
    let here = ((h.printed a).0 (Contains-get_or order i d (omega arith))).0.0 in
    let there = ((h.printed b).0 (Contains-get_or order j d within)).0.0 in
    let row = row-after (steps_in image) (suc k) (h.level b) a b led (h.levels b there).has_row in
    let bound = (h.levels a here).none_longer (suc k + h.level b) row in
    elim (h.by_level i j d before within) [
      | inl less ↦ omega (arith, less, bound)
      | inr (same, offset) ↦ omega (arith, same, bound)
    ]

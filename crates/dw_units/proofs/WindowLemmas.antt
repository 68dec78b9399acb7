-- Units among all: their entries are those of the units alone, by other numbers, and refer to the same entries. So
-- shapes and steps by value in such a window are those of the units alone.
use Rattle.std.proofs.Common.{rules, ◌≡◌, ℕ, ◌+◌, suc, ◌<◌, Bool, List, [], ◌∷◌, ◌++◌, length, ◌⊎◌, inl, inr, Option, Some, None, refl, sym, ap, subst, ◌∙◌, arith, slice_get, ◌-◌, zero, ◌≤◌, map, slice_index, is_some, ◌&&◌}
use Rattle.std.specs.Prelude.{unwrap_or}
use Rattle.std.specs.Option.{option_map_or}
use Rattle.std.proofs.lemmas.Option.{slice_get-get_or, slice_get_within, unwrap_or-slice_get}
use Rattle.dw_elf.specs.declared.sections.Sections.{Sections}
use Rattle.dw_entries.specs.ByNumber.{no_entry, no_placed, placed_of}
use Rattle.dw_entries.specs.Entries.{Entry, entries_of, PlacedUnit, placed}
use Rattle.dw_links.specs.declared.constant.Constant.TheVariants.{Absent}
use Rattle.dw_links.specs.Constants.{language_at, language_of}
use Rattle.dw_entries.specs.Failures.{Rule, HasNone}
use Rattle.dw_links.specs.References.{ReferenceFailures}
use Rattle.dw_links.specs.Targets.{target_of}
use Rattle.dw_links.proofs.HeldTexts.{found_value}
use Rattle.dw_types.specs.Entries.{unit_address_size, entry_in, language, type_target}
use Rattle.dw_types.proofs.SiblingLemmas.{parent-first}
use Rattle.dw_entries.proofs.HeadLaws.{all-append}
use Rattle.dw_units.specs.IndependentBatches.{StaysInside}
use Rattle.dw_units.specs.ByUnit.{StaysAlone}
use Rattle.dw_units.proofs.MovedEntries.{IsEntry, Units, total, AreTwo, IsIn, IsPart, behind, front, halves, early, late, moved_number, moved, moved_unit, entry_at, entry_within, unit_at, unit_below}
use Rattle.dw_units.proofs.ReferenceLemmas.{value_moved}
use Rattle.std.proofs.lemmas.List.{get_or-map, length-map}
use Rattle.dw_types.specs.Counts.{count_of}
use Rattle.dw_types.specs.Graphs.{Graph, IsStep, IsClosed, IsCycle, LeadsToNodes, steps_of, step_at}
use Rattle.dw_image.proofs.MeasureLemmas.{node_below}
use Rattle.dw_types.specs.Kinds.{has_members}
use Rattle.dw_types.specs.Shapes.{fails_shape, is_defined_member, is_plain, numberless, passes_at, sight}
use Rattle.dw_links.proofs.TableLemmas.{target_within}

-- numbers, each with this added
abbrev pub raise : ℕ → List ℕ → List ℕ
raise first = map (λ (n : ℕ). first + n)

-- the entries of the units among all are those of the units alone, moved; and no child of one of them is elsewhere
pub record IsWindow (all : Units) (number first : ℕ) (units : Units) : Type 0 where
  pub within : (inner : ℕ) → inner < total units → first + inner < total all
  pub entries : (inner : ℕ) → inner < total units
      → entry_in all (first + inner) ≡ moved number first (entry_in units inner)
  pub targets : (inner attribute : ℕ) → inner < total units
      → target_of (entries_of all) (placed all) (entry_in all (first + inner)) attribute
      ≡ moved_number first (target_of (entries_of units) (placed units) (entry_in units inner) attribute)
  pub address_sizes : (inner : ℕ) → inner < total units
      → unit_address_size all (first + inner) ≡ unit_address_size units inner
  pub languages : (inner : ℕ) → inner < total units → language all (first + inner) ≡ language units inner
  pub children : (i inner : ℕ) → i < total all → inner < total units → (entry_in all i).parent ≡ Some (first + inner)
      → (k : ℕ) × (k < total units) × (i ≡ first + k)

language_is : (units : List PlacedUnit) (number : ℕ) → language_at units number ≡ language_of (placed_of units number)
language_is units number = of (slice_get units number) ∙ ap language_of (unwrap_or-slice_get units number no_placed)
  where
    of : (o : Option PlacedUnit) → option_map_or language_of o Absent ≡ language_of (unwrap_or o no_placed)
    of None = refl
    of (Some u) = refl

module _ {s : Sections} {all : Units} {number first : ℕ} {units : Units} (whole : StaysAlone s all)
    (p : IsPart s all number first units) (none : HasNone (ReferenceFailures units)) where
  target_moved : (inner : ℕ) (e : Entry) → IsEntry units inner e → (attribute : ℕ)
      → target_of (entries_of all) (placed all) (moved number first e) attribute
      ≡ moved_number first (target_of (entries_of units) (placed units) e attribute)
  unfolding target_of
  target_moved inner e is_e attribute =
      search (rules, (value_moved whole p none inner e is_e), moved_number, found_value)

  is_at : (inner : ℕ) → inner < total units → IsEntry units inner (entry_in units inner)
  is_at inner inside = search (rules, slice_get-get_or)

  -- the unit of an entry
  in_unit : (inner : ℕ) → inner < total units → placed_of (placed all) (entry_in all (first + inner)).unit
      ≡ moved_unit first (placed_of (placed units) (entry_in units inner).unit)
  in_unit inner inside =
      let e = entry_in units inner in
      let below = unit_below s units p.stays inner e (is_at inner inside) in
      ap (λ (d : Entry). placed_of (placed all) d.unit) (entry_at p inner inside) ∙ unit_at p e.unit below

  children : (i inner : ℕ) → i < total all → inner < total units → (entry_in all i).parent ≡ Some (first + inner)
      → (j : ℕ) × (j < total units) × (i ≡ first + j)
  children i inner below inside parent =
      elim (p.covers i (entry_in all i) (slice_get-get_or _ _ no_entry below)) [
        | inl here ↦
            (here.inner, slice_get_within _ _ _ here.is_entry, here.begins)
        | inr (early unit before) ↦ absurd (omega (arith, parent-first all i (first + inner) parent, before))
        | inr (late unit parents) ↦ absurd (omega (arith, parents (first + inner) parent, inside))
      ]

  pub window : IsWindow all number first units
  window = record {
    within = entry_within p;
    entries = entry_at p;
    targets = λ inner attribute inside.
        ap (λ (e : Entry). target_of (entries_of all) (placed all) e attribute)
        (entry_at p inner inside) ∙ target_moved inner (entry_in units inner) (is_at inner inside) attribute;
    address_sizes = λ inner inside. ap (λ (u : PlacedUnit). u.unit.header.address_size) (in_unit inner inside);
    languages = λ inner inside.
        language_is (placed all) (entry_in all (first + inner)).unit
        ∙ ap language_of (in_unit inner inside) ∙ sym (language_is (placed units) (entry_in units inner).unit);
    children = children;
  }

-- an entry among all is one of these units, the first of which has this number
pub record IsAt (first : ℕ) (units : Units) (i : ℕ) : Type 0 where
  pub inner : ℕ
  pub inside : inner < total units
  pub begins : i ≡ first + inner

at_of : (number first : ℕ) (units : Units) (i : ℕ) (e : Entry) → IsIn number first units i e → IsAt first units i
at_of number first units i e here = search (rules, slice_get_within)

-- of two lists of units, the windows of both
module _ {s : Sections} {at : ℕ} {us more : Units} (two : AreTwo s at us more) where
  pub whole : StaysAlone s (us ++ more)
  whole = record {
    are = all-append _ us more two.one.are two.other.are;
    no_type_unit = all-append _ us more two.one.no_type_unit two.other.no_type_unit;
    stays = λ i e is.
        elim (halves s at us more two.from i e is) [
          | inl here ↦ subst StaysInside here.same (two.one.stays here.inner here.entry here.is_entry)
          | inr here ↦ subst StaysInside here.same (two.other.stays here.inner here.entry here.is_entry)
        ];
  }

  pub where_is : (i : ℕ) → i < total (us ++ more) → IsAt 0 us i ⊎ IsAt (total us) more i
  where_is i below =
      let e = entry_in (us ++ more) i in
      elim (halves s at us more two.from i e (slice_get-get_or _ _ no_entry below)) [
        | inl here ↦ inl (at_of 0 0 us i e here)
        | inr here ↦ inr (at_of (length us) (total us) more i e here)
      ]

  pub one_window : HasNone (ReferenceFailures us) → IsWindow (us ++ more) 0 0 us
  one_window none = search (rules, window, whole, front)

  pub other_window : HasNone (ReferenceFailures more) → IsWindow (us ++ more) (length us) (total us) more
  other_window none = search (rules, window, whole, behind)

-- ---- shapes, and steps by value

some_of_moved : (first : ℕ) (o : Option ℕ) → is_some (moved_number first o) ≡ is_some o
some_of_moved first o = search rules

module _ {all : Units} {number first : ℕ} {units : Units}
    (w : IsWindow all number first units) where
  -- an entry without the numbers of others
  seen_same : (inner : ℕ) → inner < total units
      → numberless (entry_in all (first + inner)) ≡ numberless (entry_in units inner)
  seen_same inner inside = search rules

  -- tests of the entries to which it refers
  passes_same : (test : Entry → Bool) (o : Option ℕ) → ((k : ℕ) → o ≡ Some k → k < total units)
      → passes_at all test (moved_number first o) ≡ passes_at units test o
  passes_same test o below = search (rules, seen_same)

  module _ (inner : ℕ) (inside : inner < total units) where
    parent_seen : (test : Entry → Bool) → passes_at all test (entry_in all (first + inner)).parent
        ≡ passes_at units test (entry_in units inner).parent
    parent_seen test = search (rules, passes_same, parent-first)

    type_seen : (test : Entry → Bool)
        → passes_at all test (type_target all (first + inner)) ≡ passes_at units test (type_target units inner)
    type_seen test = search (rules, passes_same, target_within)

    pub plain_same : is_plain all (first + inner) ≡ is_plain units inner
    plain_same = λ i. is_defined_member (seen_same inner inside i) && parent_seen has_members i

    pub count_same : count_of all (first + inner) ≡ count_of units inner
    count_same = search (rules, seen_same)

    pub has_target_same : is_some (type_target all (first + inner)) ≡ is_some (type_target units inner)
    has_target_same = search (rules, some_of_moved)

    -- so each rule on shapes looks at the same
    sight_same : sight all (first + inner) ≡ sight units inner
    sight_same = search (rules, seen_same, parent_seen, type_seen)

    pub shape_same : (rule : Rule) → fails_shape all (first + inner) rule ≡ fails_shape units inner rule
    shape_same rule = search (rules, sight_same)

  -- entries of the window have the same offsets
  pub offsets_same : (nodes : List ℕ) → ((k : ℕ) → k < length nodes → slice_index nodes k < total units)
      → map (λ (n : ℕ). (entry_in units n).at) nodes ≡ map (λ (n : ℕ). (entry_in all n).at) (raise first nodes)
  offsets_same [] inside = refl
  offsets_same (n ∷ nodes) inside =
      let here = sym (ap (λ (e : Entry). e.at) (w.entries n (inside 0 (omega arith)))) in
      let more = offsets_same nodes (λ k below. inside (suc k) (omega (arith, below))) in
      λ i. here i ∷ more i

-- ---- graphs

-- two lists of nodes in the same order, of two graphs with the same steps between them
module _ (g f : Graph) (a b : List ℕ) (long : length b ≡ length a)
    (there : (i j : ℕ) → i < length a → j < length a → slice_index a i ≤ slice_index a j
    → slice_index b i ≤ slice_index b j)
    (step : (k : ℕ) → k + 1 < length a → IsStep g (slice_index a k) (slice_index a (k + 1))
    → IsStep f (slice_index b k) (slice_index b (k + 1))) where
  closed_there : IsClosed g a → IsClosed f b
  closed_there it = search rules

  cycle_there : ((i j : ℕ) → i < length a → j < length a → slice_index b i ≡ slice_index b j
      → slice_index a i ≡ slice_index a j) → IsCycle g a → IsCycle f b
  cycle_there back it = search (rules, closed_there)

-- a graph of n nodes among those of another, by their numbers there: their steps go to one another
pub record IsAmong (g f : Graph) (first n : ℕ) : Type 0 where
  pub long : length f ≡ n
  pub rows : (k : ℕ) → k < n → steps_of g (first + k) ≡ raise first (steps_of f k)
  pub leads : LeadsToNodes f

pub raised : (first : ℕ) (nodes : List ℕ) (k : ℕ) → k < length nodes
    → slice_index (raise first nodes) k ≡ first + slice_index nodes k
raised first nodes k below = search (rules, get_or-map)

module _ {g f : Graph} {first n : ℕ} (among : IsAmong g f first n) where
  step_in_place : (from to : ℕ) → from < n → IsStep f from to → IsStep g (first + from) (first + to)
  step_in_place from to within step = search (rules, among.rows, length-map, get_or-map)

  step_alone : (from to : ℕ) → from < n → IsStep g (first + from) to
      → (j : ℕ) × (j < n) × (to ≡ first + j) × IsStep f from j
  step_alone from to within step =
      let (k, below, is) = rw (among.rows from within) at step in
      let inside : k < length (steps_of f from) =
      omega (arith, below, length-map (steps_of f from) (λ (n : ℕ). first + n)) in
      let to_is = sym is ∙ get_or-map (λ (n : ℕ). first + n) (steps_of f from) k 0 0 inside in
      (step_at f from k, omega (arith, among.leads from k inside, among.long), to_is, (k, inside, refl))

  -- a cycle of the nodes alone is one there
  pub cycle_in_place : (nodes : List ℕ) → IsCycle f nodes → IsCycle g (raise first nodes)
  cycle_in_place nodes cycle =
      cycle_there f g nodes (raise first nodes) (length-map nodes (λ (n : ℕ). first + n))
      (λ i j i_in j_in le. omega (arith, le, raised first nodes i i_in, raised first nodes j j_in))
      (λ k next step.
      let here : k < length nodes = omega (arith, next) in
      rw (raised first nodes k here, raised first nodes (k + 1) next)
      (step_in_place (slice_index nodes k) (slice_index nodes (k + 1))
      (omega (arith, node_below f nodes cycle k here, among.long)) step))
      (λ i j i_in j_in same. omega (arith, same, raised first nodes i i_in, raised first nodes j j_in)) cycle

  -- a closed list that begins at one of the nodes stays at them
  module _ (nodes : List ℕ) (closed : IsClosed g nodes) (inner : ℕ) (inside : inner < n)
      (begins : slice_index nodes 0 ≡ first + inner) where
    abbrev low : List ℕ
    low = map (λ (n : ℕ). n - first) nodes

    stays_in : (k : ℕ) → k < length nodes → (m : ℕ) × (m < n) × (slice_index nodes k ≡ first + m)
    stays_in zero below = (inner, inside, begins)
    stays_in (suc k) below =
        let (m, within, here) = stays_in k (omega (arith, below)) in
        let number : k + 1 ≡ suc k = omega arith in
        let (j, j_in, to, step) = step_alone m (slice_index nodes (k + 1)) within
        (rw here at (closed.steps k (omega (arith, below)))) in
        (j, j_in, ap (slice_index nodes) (sym number) ∙ to)

    lowered : (k : ℕ) → k < length nodes → slice_index nodes k ≡ first + slice_index low k
    lowered k below =
        let (m, within, here) = stays_in k below in
        omega (arith, here, get_or-map (λ (n : ℕ). n - first) nodes k 0 0 below)

    order : (i j : ℕ) → i < length nodes → j < length nodes → slice_index nodes i ≤ slice_index nodes j
        → slice_index low i ≤ slice_index low j
    order i j i_in j_in le = search (rules, lowered)

    step_low : (k : ℕ) → k + 1 < length nodes → IsStep g (slice_index nodes k) (slice_index nodes (k + 1))
        → IsStep f (slice_index low k) (slice_index low (k + 1))
    step_low k next step =
        let (m, within, here) = stays_in k (omega (arith, next)) in
        let (j, j_in, to, alone) = step_alone m (slice_index nodes (k + 1)) within (rw here at step) in
        let low_from : slice_index low k ≡ m = omega (arith, here, lowered k (omega (arith, next))) in
        let low_to : slice_index low (k + 1) ≡ j = omega (arith, to, lowered (k + 1) next) in
        rw (low_from, low_to) alone

    pub closed_alone : IsClosed f (map (λ (n : ℕ). n - first) nodes)
    closed_alone = search (rules, closed_there, length-map, order, step_low)

    cycle_low : IsCycle g nodes → IsCycle f low
    cycle_low cycle = search (rules, cycle_there, length-map, order, step_low, lowered)

  -- a cycle that begins there is one of the nodes alone
  pub cycle_alone : (nodes : List ℕ) → IsCycle g nodes → (inner : ℕ) → inner < n
      → slice_index nodes 0 ≡ first + inner → IsCycle f (map (λ (n : ℕ). n - first) nodes)
  cycle_alone nodes cycle inner inside begins = search (rules, cycle_low)

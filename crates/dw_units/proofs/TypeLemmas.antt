-- Shapes, containment and sizes: the failures among all are those of each part alone, and so are cycles; one table of
-- sizes for all is made of those of the parts.
use Rattle.std.proofs.Common.{◌≡◌, ℕ, Bool, ◌+◌, ◌-◌, ◌<◌, List, ◌++◌, sym, ap, ◌∙◌, inl, inr, ◌⊎◌, arith, slice_index, rules, ◌≤◌, true, false, refl, nat_lt, lt-ltb, if◌then◌else◌}
use Rattle.std.proofs.lemmas.Option.{slice_get_within}
use Rattle.dw_elf.specs.declared.sections.Sections.{Sections}
use Rattle.dw_entries.specs.declared.fault.Fault.{Fault}
use Rattle.dw_entries.specs.Entries.{Entry, entries_of}
use Rattle.dw_entries.specs.EntryRules.{AtPlace, InList}
use Rattle.dw_entries.specs.Places.{Place, at_entry}
use Rattle.dw_entries.specs.Failures.{Rule, Failure, HasNone}
use Rattle.dw_forms.specs.declared.rule.Rule.TheVariants.{ContainsItself}
use Rattle.dw_entries.specs.declared.fault.Section.TheVariants.{Info}
use Rattle.dw_links.specs.References.{ReferenceFailures}
use Rattle.dw_types.specs.Entries.{entry_in}
use Rattle.dw_types.specs.Graphs.{HasNoCycle, IsClosed}
use Rattle.dw_types.specs.Shapes.{fails_shape, ShapeFailures}
use Rattle.dw_types.specs.Steps.{by_value}
use Rattle.dw_types.proofs.StepLemmas.{length-by_value}
use Rattle.dw_image.specs.FirstFault.{ContainsItselfAt, NamesCycle, FailsBySize}
use Rattle.dw_image.proofs.MeasureLemmas.{cycle_fails, entry_below, from_below}
use Rattle.dw_units.specs.ByUnit.{StaysAlone, HasTable}
use Rattle.dw_units.proofs.TextLemmas.{AreOfParts, items_of_parts}
use Rattle.dw_units.proofs.MovedEntries.{Units, total, AreTwo}
use Rattle.dw_units.proofs.WindowLemmas.{raise, IsWindow, one_window, other_window, where_is, window, shape_same, closed_alone, raised, cycle_in_place, cycle_alone, offsets_same, IsAt}
use Rattle.dw_types.specs.SizeTables.{Size}
use Rattle.dw_types.specs.Sizes.{IsSizeTable, ObeysSizeLines, size_line}
use Rattle.dw_types.specs.SizeFaults.{fails_size}
use Rattle.dw_units.proofs.WindowSizes.{graph_of, line_moved, fails_moved}

-- ---- shapes

-- a test says of an entry in its place what another says of it alone
same_test : (place : Place) (test other : Rule → Bool) → ((rule : Rule) → test rule ≡ other rule) → (f : Failure)
    → AtPlace place (λ rule. test rule ≡ true) f → AtPlace place (λ rule. other rule ≡ true) f
same_test place test other same f fails = search rules

pub shapes_of_parts : (s : Sections) (May : Units → Type 0) (all : Units) → StaysAlone s all
    → ((units : Units) → May units → HasNone (ReferenceFailures units)) → AreOfParts s May ShapeFailures all
shapes_of_parts s May all whole none =
    items_of_parts _ _ _
    (λ us node e. AtPlace (at_entry e.at) (λ rule. fails_shape us node rule ≡ true)) all whole
    (λ us stays f. (λ fails. fails, λ fails. fails)) (λ node e f fails. rw fails.stands refl)
    (λ number first units p may inner e is f.
    let same = shape_same (window whole p (none units may)) inner (slice_get_within _ _ _ is) in
    (λ fails. search (rules, same), λ fails firm. search (rules, same)))

-- ---- containment

module _ {s : Sections} {at : ℕ} {us more : Units} (two : AreTwo s at us more)
    (none : HasNone (ReferenceFailures us)) (none_behind : HasNone (ReferenceFailures more)) where
  -- a closed list begins in one of them
  begins_in : (nodes : List ℕ) → IsClosed (by_value (us ++ more)) nodes
      → IsAt 0 us (slice_index nodes 0) ⊎ IsAt (total us) more (slice_index nodes 0)
  begins_in nodes closed =
      let below = from_below (by_value (us ++ more)) (slice_index nodes 0) (slice_index nodes 1)
      (closed.steps 0 (omega (arith, closed.two))) in
      where_is two (slice_index nodes 0) (rw (length-by_value (us ++ more)) at below)

  pub contained_two : HasNoCycle (by_value us) → HasNoCycle (by_value more) → HasNoCycle (by_value (us ++ more))
  contained_two one other nodes closed =
      elim (begins_in nodes closed) [
        | inl i ↦ one _ (closed_alone (graph_of (one_window two none)) nodes closed i.inner i.inside i.begins)
        | inr i ↦ other _ (closed_alone (graph_of (other_window two none_behind)) nodes closed i.inner i.inside
            i.begins)
      ]

  -- without a cycle of either there is none
  pub no_cycle_two : HasNone (ContainsItselfAt us) → HasNone (ContainsItselfAt more)
      → HasNone (ContainsItselfAt (us ++ more))
  no_cycle_two one other f fails =
      elim (begins_in fails.nodes fails.is_cycle.closed) [
        | inl i ↦
            one _ (cycle_fails us _
            (cycle_alone (graph_of (one_window two none)) fails.nodes fails.is_cycle i.inner i.inside i.begins))
        | inr i ↦
            other _ (cycle_fails more _
            (cycle_alone (graph_of (other_window two none_behind)) fails.nodes fails.is_cycle i.inner i.inside
            i.begins))
      ]

-- a cycle of some units is one of all, by the same offsets
pub cycle_of_part : {all : Units} {number first : ℕ} {units : Units}
    → IsWindow all number first units → (fault : Fault) → NamesCycle units fault → NamesCycle all fault
cycle_of_part {all = all} {first = first} {units = units} w fault names =
    let two = names.is_cycle.closed.two in
    let inside = entry_below units names.nodes names.is_cycle in
    let begins = raised first names.nodes 0 (omega (arith, two)) in
    let offset =
    sym (ap (λ (e : Entry). e.at) (w.entries (slice_index names.nodes 0) (inside 0 (omega (arith, two)))))
    ∙ ap (λ (n : ℕ). (entry_in all n).at) (sym begins) in
    record {
      nodes = raise first names.nodes;
      is_cycle = cycle_in_place (graph_of w) names.nodes names.is_cycle;
      named = names.named
          ∙ ap (λ (n : ℕ). record { rule = ContainsItself; section = Info; at = n; attribute = 0 }) offset;
      cycle = names.cycle ∙ offsets_same w names.nodes inside;
    }

-- ---- sizes

-- the table of units alone, where they are
module _ {all : Units} {number first : ℕ} {units : Units} (w : IsWindow all number first units)
    (lone : ℕ → Size) (one : IsSizeTable units lone) where
  agrees : (table : ℕ → Size) → ObeysSizeLines all table → (k : ℕ) → k < total units → table (first + k) ≡ lone k
  agrees table obeys =
      let mine : ℕ → Size = λ k. table (first + k) in
      one.only mine (λ k below.
      obeys (first + k) (w.within k below) ∙ line_moved w table mine (λ j inside. refl) k below)

  module _ (table : ℕ → Size) (same : (k : ℕ) → k < total units → table (first + k) ≡ lone k)
      (node : ℕ) (i : IsAt first units node) where
    obeys_there : table node ≡ size_line all table node
    obeys_there = search (rules, line_moved)

    only_there : (other : ℕ → Size) → ObeysSizeLines all other → other node ≡ table node
    only_there other obeys =
        ap other i.begins ∙ agrees other obeys i.inner i.inside ∙ sym (same i.inner i.inside) ∙ ap table (sym i.begins)

not_below : (a b : ℕ) → b ≤ a → nat_lt a b ≡ false
not_below a b le = search rules

-- two tables, the second from a number on
abbrev tables : ℕ → (one other : ℕ → Size) → ℕ → Size
tables n one other k = if nat_lt k n then one k else other (k - n)

in_one : (n : ℕ) (one other : ℕ → Size) (k : ℕ) → k < n → tables n one other (0 + k) ≡ one k
in_one n one other k below = search (rules, lt-ltb)

in_other : (n : ℕ) (one other : ℕ → Size) (k : ℕ) → tables n one other (n + k) ≡ other k
in_other n one other k = search (rules, not_below)

-- two lists of units that have a table each have one together
pub table_two : {s : Sections} {at : ℕ} {us more : Units} → AreTwo s at us more
    → HasNone (ReferenceFailures us) → HasNone (ReferenceFailures more) → HasTable us → HasTable more
    → HasTable (us ++ more)
table_two {us = us} {more = more} two none none_behind (one, is_one) (other, is_other) =
    let n : ℕ = total us in
    let first = obeys_there (one_window two none) one is_one (tables n one other) (in_one n one other) in
    let second = obeys_there (other_window two none_behind) other is_other (tables n one other)
    (λ k below. in_other n one other k) in
    let only_first = only_there (one_window two none) one is_one (tables n one other) (in_one n one other) in
    let only_second = only_there (other_window two none_behind) other is_other (tables n one other)
    (λ k below. in_other n one other k) in (
      tables n one other,
      record {
        obeys = λ node below. elim (where_is two node below) [ inl i ↦ first node i | inr i ↦ second node i ];
        only = λ any right node below.
            elim (where_is two node below) [
              | inl i ↦ only_first node i any right
              | inr i ↦ only_second node i any right
            ];
      },
    )

-- the rules on sizes fail at an entry, by the one table
abbrev FailsAt : Units → ℕ → Entry → Failure → Type 0
FailsAt us node e f = (table : ℕ → Size) × IsSizeTable us table
    × AtPlace (at_entry e.at) (λ rule. fails_size us table node rule ≡ true) f

by_entry : (us : Units) (f : Failure) → (FailsBySize us f → InList (entries_of us) (FailsAt us) f)
    × (InList (entries_of us) (FailsAt us) f → FailsBySize us f)
by_entry us f = (λ fails. search rules, λ fails. search rules)

pub sizes_of_parts : (s : Sections) (May : Units → Type 0) (all : Units) → StaysAlone s all
    → ((units : Units) → May units → HasNone (ReferenceFailures units))
    → ((units : Units) → May units → HasTable units) → HasTable all → AreOfParts s May FailsBySize all
sizes_of_parts s May all whole none has (table, one) =
    items_of_parts _ _ _ FailsAt _ whole (λ us stays. by_entry us)
    (λ node e f fails. rw fails.2.stands refl)
    (λ number first units p may inner e is f.
    let w = window whole p (none units may) in
    let inside = slice_get_within _ _ _ is in (
      λ fails.
          let (its, is_its, here) = fails in
          let (lone, is_lone) = has units may in
          let same = fails_moved w its lone (agrees w lone is_lone its is_its.obeys) inner inside in
          let there : FailsAt units inner e f = (lone, is_lone, same_test (at_entry e.at) _ _ same f here) in
          search (rules, there),
      λ fails firm.
          let (lone, is_lone, here) = fails in
          let same = fails_moved w table lone (agrees w lone is_lone table one.obeys) inner inside in
          (table, one, same_test (at_entry e.at) _ _ (λ rule. sym (same rule)) f here),
    ))

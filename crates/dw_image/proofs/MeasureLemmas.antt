-- Cycles of steps by value, and the rules on sizes by the one table: what is made of the types of entries, and how it
-- fails.
use Rattle.std.proofs.Common.{rules, ◌≡◌, ℕ, ◌+◌, ◌-◌, ◌<◌, ◌⊎◌, List, length, refl, sym, ap, ◌∙◌, subst, arith, inl, inr, Option, Some, None, slice_index, Contains}
use Rattle.std.proofs.lemmas.List.{get_or_past}
use Rattle.std.proofs.lemmas.List.Elements.{Contains-get_or}
use Rattle.std.proofs.lemmas.Option.{slice_get_within}
use Rattle.dw_entries.specs.declared.fault.PlainFault.{PlainFault}
use Rattle.dw_entries.specs.Entries.{entries_of, DebugUnit}
use Rattle.dw_forms.specs.declared.rule.Rule.TheVariants.{ContainsItself}
use Rattle.dw_entries.specs.Failures.{Rule, Failure, HasNone, IsFirst}
use Rattle.dw_entries.specs.Places.{at_entry}
use Rattle.dw_links.proofs.TableLemmas.{target_within}
use Rattle.dw_types.proofs.SiblingLemmas.{parent-first}
use Rattle.dw_types.specs.Cycles.{AreClear}
use Rattle.dw_types.specs.Graphs.{Graph, IsStep, IsCycle, HasNoCycle, step_at}
use Rattle.dw_types.proofs.StepLemmas.{length-by_value, by_value-from_step, by_value-leads, step-from_by_value}
use Rattle.dw_types.specs.Shapes.{ShapeFailures}
use Rattle.dw_types.specs.Steps.{by_value}
use Rattle.dw_types.specs.Entries.{entry_in, type_target}
use Rattle.dw_types.specs.SizeTables.{Size}
use Rattle.dw_types.specs.Sizes.{IsSizeTable, size_to}
use Rattle.dw_types.specs.SizeFaults.{fails_size, SizeFailures, IsFirstSizeFault}
use Rattle.dw_image.specs.FirstFault.{offset_at, ContainsItselfAt, FailsBySize}
use Rattle.dw_image.specs.Headline.{HoldsNoneOfItself}
use Rattle.dw_types.specs.Orders.{Ranking, IsOrderOf}

-- without a closed list of steps no entry contains itself
pub no_cycle_holds : (us : List DebugUnit) → HasNoCycle (by_value us) → HasNone (ContainsItselfAt us)
no_cycle_holds us none f fails = search (rules)

-- a cycle fails where it begins
abbrev pub cycle_failure : List DebugUnit → List ℕ → Failure
cycle_failure us nodes =
    record { rule = ContainsItself; place = at_entry (offset_at us (slice_index nodes 0)); attribute = 0 }

pub cycle_fails : (us : List DebugUnit) (nodes : List ℕ) → IsCycle (by_value us) nodes
    → ContainsItselfAt us (cycle_failure us nodes)
cycle_fails us nodes cycle = search (rules)

pub contained_of : (units : List DebugUnit) → HasNone (ShapeFailures units)
    → HasNoCycle (by_value units) → HoldsNoneOfItself units
contained_of units sound none = search (rules, by_value-from_step, step-from_by_value)

-- ---- the nodes of a cycle are entries

pub from_below : (graph : Graph) (from to : ℕ) → IsStep graph from to → from < length graph
from_below graph from to step = search (rules, get_or_past)

pub node_below : (graph : Graph) (nodes : List ℕ) → IsCycle graph nodes → (k : ℕ) → k < length nodes
    → slice_index nodes k < length graph
node_below graph nodes cycle k within =
    let two_ways : (k + 1 < length nodes) ⊎ (k ≡ length nodes - 1) = grind (arith, within) in
    let first = from_below graph (slice_index nodes 0) (slice_index nodes 1) (cycle.closed.steps 0
    (omega (arith, cycle.closed.two))) in
    elim two_ways [
      | inl more ↦ from_below graph (slice_index nodes k) (slice_index nodes (k + 1)) (cycle.closed.steps k more)
      | inr last ↦ subst (λ n. n < length graph) (cycle.closed.closed ∙ ap (slice_index nodes) (sym last)) first
    ]

pub entry_below : (units : List DebugUnit) (nodes : List ℕ) → IsCycle (by_value units) nodes → (k : ℕ)
    → k < length nodes → slice_index nodes k < length (entries_of units)
entry_below units nodes cycle k within = search (rules, node_below, length-by_value)

module _ (us : List DebugUnit) where
  -- two size tables are one at each entry
  same_at : (table other : ℕ → Size) → IsSizeTable us table → IsSizeTable us other → (node : ℕ)
      → node < length (entries_of us) → other node ≡ table node
  same_at table other one two node below = one.only other two.obeys node below

  same_to : (table other : ℕ → Size) → IsSizeTable us table → IsSizeTable us other → (target : Option ℕ)
      → ((to : ℕ) → target ≡ Some to → to < length (entries_of us))
      → size_to other target ≡ size_to table target
  same_to table other one two None within = refl
  same_to table other one two (Some to) within = same_at table other one two to (within to refl)

  same_fails : (table other : ℕ → Size) → IsSizeTable us table → IsSizeTable us other → (node : ℕ)
      → node < length (entries_of us) → (rule : Rule)
      → fails_size us other node rule ≡ fails_size us table node rule
  same_fails table other one two node below rule =
      let here = same_at table other one two node below in
      let above = same_to table other one two (entry_in us node).parent
      (λ to is. let p = parent-first us node to is in omega (arith, p, below)) in
      let under = same_to table other one two (type_target us node) (target_within _ _ _ _) in
      cc

  -- what fails by one fails by the other
  same_failures : (table other : ℕ → Size) → IsSizeTable us table → IsSizeTable us other → (f : Failure)
      → SizeFailures us other f → SizeFailures us table f
  same_failures table other one two f fails =
      let below = slice_get_within (entries_of us) fails.number fails.item fails.is_item in
      let same = same_fails table other one two fails.number below f.rule in search (rules, same)

  pub none_by_size : (table : ℕ → Size) → IsSizeTable us table → HasNone (SizeFailures us table)
      → HasNone (FailsBySize us)
  none_by_size table one none f fails = none f (same_failures table fails.table one fails.one f fails.fails)

  pub first_by_size : (broken : PlainFault) → IsFirstSizeFault us broken → IsFirst (FailsBySize us) broken
  first_by_size broken fault = record {
    failure = fault.first.failure;
    fails = record { table = fault.table; one = fault.is_table; fails = fault.first.fails };
    named = fault.first.named;
    first =
        λ g fails precedes. fault.first.first g
        (same_failures fault.table fails.table fault.is_table fails.one g fails.fails) precedes;
  }

-- ---- the nodes of an order by rising rank

-- each node comes after those that its steps lead to
pub clear_by_rank : (us : List DebugUnit) (order : Ranking) → IsOrderOf (by_value us) order
    → AreClear (by_value us) order.by_rank
clear_by_rank us order h =
    record {
      within = λ place w. (h.ranked place w).0;
      once = λ i j before w same.
          let first = (h.ranked i (omega (arith, before, w))).1 in
          let last = (h.ranked j w).1 in
          let equal : i ≡ j = sym first ∙ ap (slice_index order.ranks) same ∙ last in
          omega arith;
      ordered = λ place k w below.
          let here = h.ranked place w in
          let node = slice_index order.by_rank place in
          let to = step_at (by_value us) node k in
          let falls = h.falls node k below in
          (slice_index order.ranks to, omega (arith, falls, here.1), (h.listed to (by_value-leads us node k below)).1);
      others = λ node w missing.
          let here = h.listed node w in
          let has = Contains-get_or order.by_rank (slice_index order.ranks node) 0 here.0 in
          absurd (missing (subst (Contains order.by_rank) here.1 has));
    }

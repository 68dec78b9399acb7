-- The groups of rules join: valid sections have no fault, and others have one; and the groups in their order, as they
-- are asked.
use Rattle.std.proofs.Common.{rules, List, refl, ◌≡◌, ℕ, ◌<◌, ◌≤◌, drop, sym, ◌∙◌, arith, inl, inr, Some, slice_get}
use Rattle.dw_forms.specs.declared.rule.Rule.TheVariants.{WrongClass}
use Rattle.dw_entries.specs.declared.entries.Entries.{Entries}
use Rattle.dw_entries.specs.declared.fault.Fault.{Fault}
use Rattle.dw_entries.specs.Header.{version_of}
use Rattle.dw_entries.specs.Places.{at_attribute}
use Rattle.dw_entries.specs.Failures.{HasNone, Failure, IsFirst, Rule, plain_fault_of, IsPlainFault}
use Rattle.dw_links.specs.Classes.{class_of, allows_in, ClassFails, ClassFailures}
use Rattle.dw_links.specs.RulesOfAttributes.{Rules, AtHead, entry_head, Entry}
use Rattle.dw_links.specs.References.{ReferenceFailures}
use Rattle.dw_links.proofs.LinkedEntries.{have_targets, have_types, true_unless}
use Rattle.dw_image.specs.Headline.{HasClasses, HasReferences, IsSpelled, IsSoundBy, IsImageOf, IsFaultOf}
use Rattle.dw_image.specs.Valid.{SpellsInfo, HasSizes, IsValidBy, IsValid}
use Rattle.dw_entries.specs.Grammar.{Datum}
use Rattle.dw_entries.specs.EntryRules.{AtEntries, EachEntry, HasAttribute}
use Rattle.dw_entries.specs.UnitLaws.{one_list}
use Rattle.dw_entries.proofs.FaultLaws.{no_list, one_fault}
use Rattle.dw_entries.proofs.HeadLaws.{head_stands}
use Rattle.dw_entries.proofs.NumberOrder.{three_ways}
use Rattle.dw_entries.specs.Views.{sections_of, units_of, entries_of, placed, DebugUnit}
use Rattle.dw_links.specs.LinkFaults.{IsFirstOfLinks}
use Rattle.dw_links.specs.Strings.{StringFailures, Sections}
use Rattle.dw_links.specs.declared.links.Links.{Links}
use Rattle.dw_forms.specs.Rules.{group_of}
use Rattle.dw_types.specs.Graphs.{HasNoCycle}
use Rattle.dw_types.specs.Orders.{Ranking}
use Rattle.dw_types.specs.Shapes.{ShapeFailures}
use Rattle.dw_types.specs.SizeFaults.{IsFirstSizeFault}
use Rattle.dw_types.specs.SizeTables.{Size}
use Rattle.dw_types.specs.Sizes.{IsSizeTable}
use Rattle.dw_types.specs.Steps.{by_value}
use Rattle.dw_types.proofs.SizeFaultLemmas.{sizes_by_rank, is-size_table, exact-lines}
use Rattle.dw_image.specs.declared.image.Image.{Image}
use Rattle.dw_image.specs.Images.{sections_in, units_in, size_table_in}
use Rattle.dw_image.specs.FirstFault.{Group, classes, strings, references, shapes, cycles, sizes, turn_of, failures_of, FailsInTrees, NamesCycle, IsFirstIn, FailsInGroup, IsFirstFault, in_trees, in_group, IsOneFault}
use Rattle.dw_image.proofs.GroupLemmas.{one_first, one_group, one_at_place, rank_of}
use Rattle.dw_image.specs.GroupsBefore.{HoldBefore, PassBefore}
use Rattle.dw_image.specs.StepsAndSizes.{AreOrdered, AreMeasures}
use Rattle.dw_image.proofs.MeasureLemmas.{none_by_size, first_by_size, no_cycle_holds, cycle_failure, cycle_fails, contained_of}
use Rattle.dw_links.proofs.HeldTexts.{texts_of}

-- ---- classes, and the targets of references

-- where no rule fails at the attributes of entries, none fails at one of them
pub none_at : (entries : List Entry) (Fails : Rules) → HasNone (AtEntries entries (AtHead Fails)) → (id : ℕ) (e : Entry)
    → slice_get entries id ≡ Some e → (position attribute : ℕ) (v : Datum) → HasAttribute e position attribute v
    → (rule : Rule) → Fails (entry_head e) attribute v rule → ⊥
none_at entries Fails none id e is position attribute v has rule fails =
    none (record { rule = rule; place = at_attribute e.at position; attribute = attribute }) (record {
      number = id;
      item = e;
      is_item = is;
      fails = record { position = position; value = v; has = has; place = refl; fails = fails };
    })

classes_of : (units : List DebugUnit) → HasNone (ClassFailures units) → HasClasses units
classes_of units none id e is position attribute v has unit in_unit =
    true_unless (allows_in (version_of unit.unit.header.kind) attribute (class_of v))
    (λ wrong. none_at (entries_of units) (ClassFails (placed units)) none id e is position attribute v has WrongClass
    (record { unit = unit; in_unit = in_unit; class = wrong; only = refl }))

references_of : (s : Sections) (units : List DebugUnit) → SpellsInfo s units → HasNone (ReferenceFailures units)
    → HasReferences units
references_of s units spelled none = search (rules, have_targets, have_types)

-- ---- valid sections, and first faults

-- two lists of units that spell the sections are one
pub one_list_of : (s : Sections) (units others : List DebugUnit) → SpellsInfo s units → SpellsInfo s others
    → units ≡ others
one_list_of s units others p q = search (rules, one_list)

-- the rules of each group hold of valid sections
holds_of : (s : Sections) (units : List DebugUnit) → IsValidBy s units → (group : Group)
    → HasNone (failures_of s units group)
holds_of s units valid cycles = no_cycle_holds units valid.contained
holds_of s units valid _ = search (rules, none_by_size)

-- a group where no rule fails has no first failure
none_first : (Fails : Failure → Type 0) (fault : Fault) → HasNone Fails → IsPlainFault (IsFirst Fails) fault → ⊥
none_first Fails fault none first = search (rules)

none_named : (s : Sections) (units : List DebugUnit) (group : Group) (fault : Fault)
    → HasNone (failures_of s units group) → IsFirstIn s units group fault → ⊥
none_named s units cycles fault none first = search (rules, cycle_failure, cycle_fails)
none_named s units _ fault none first = none_first _ fault none first

-- valid sections have no fault
pub no_fault_of : (s : Sections) (fault : Fault) → IsValid s → IsFirstFault s fault → ⊥
no_fault_of s fault valid (in_trees fails cycle) = search (rules, no_list)
no_fault_of s fault valid (in_group group fails) = search (rules, one_list_of, none_named, holds_of)

-- a group's failure is of the first group that has one
no_earlier : (s : Sections) (group later : Group) (fault other : Fault) → FailsInGroup s group fault
    → FailsInGroup s later other → turn_of group < turn_of later → ⊥
no_earlier s group later fault other p q less = search (rules, one_list_of, none_named)

one_of_group : (s : Sections) (units : List DebugUnit) (group : Group) (fault other : Fault) → SpellsInfo s units
    → IsPlainFault (IsFirst (failures_of s units group)) fault
    → IsPlainFault (IsFirst (failures_of s units group)) other → IsOneFault fault other
one_of_group s units group fault other spelled p q =
    inl (record {
      broken =
          one_first (failures_of s units group) (plain_fault_of fault) (plain_fault_of other)
          (one_at_place s units spelled.spells.are group) p.holds q.holds;
      cycle = p.cycle ∙ sym q.cycle;
    })

one_named : (s : Sections) (units : List DebugUnit) (group : Group) (fault other : Fault) → SpellsInfo s units
    → IsFirstIn s units group fault → IsFirstIn s units group other → IsOneFault fault other
one_named s units cycles fault other spelled p q = search (rules)
one_named s units group fault other spelled p q = search (rules, one_of_group)

one_in_group : (s : Sections) (group : Group) (fault other : Fault) → FailsInGroup s group fault
    → FailsInGroup s group other → IsOneFault fault other
one_in_group s group fault other p q = search (rules, one_list_of, one_named)

one_in_groups : (s : Sections) (group later : Group) (fault other : Fault) → FailsInGroup s group fault
    → FailsInGroup s later other → IsOneFault fault other
one_in_groups s group later fault other p q =
    elim (three_ways (turn_of group) (turn_of later)) [
      | inl (inl less) ↦ absurd (no_earlier s group later fault other p q less)
      | inl (inr same) ↦ one_in_group s later fault other
          (rw (one_group group later same) at p) q
      | inr more ↦ absurd (no_earlier s later group other fault q p more)
    ]

-- the trees fail, or a group of rules after them
apart : (s : Sections) (group : Group) (fault other : Fault) → FailsInTrees s (plain_fault_of fault)
    → FailsInGroup s group other → ⊥
apart s group fault other p q = search (rules, no_list)

-- two first faults are one
pub one_first_fault_of : (s : Sections) (fault other : Fault) → IsFirstFault s fault → IsFirstFault s other
    → IsOneFault fault other
one_first_fault_of s fault other (in_trees p c) (in_trees q d) =
    inl (record {
      broken =
          one_fault s.«abbrev».now s.base (drop s.base s.info.now) (plain_fault_of fault) (plain_fault_of other) p q;
      cycle = c ∙ sym d;
    })
one_first_fault_of s fault other (in_trees p c) (in_group later q) = absurd (apart s later fault other p q)
one_first_fault_of s fault other (in_group group p) (in_trees q d) = absurd (apart s group other fault q p)
one_first_fault_of s fault other (in_group group p) (in_group later q) = search (rules, one_in_groups)

-- each entry is spelled
spelled_of : (s : Sections) (units : List DebugUnit) → SpellsInfo s units
    → EachEntry (IsSpelled s units) (entries_of units)
spelled_of s units spells =
    λ id e there.
    let stands = head_stands s.base s.«abbrev».now s.info.now units id e spells.spells spells.are_from there in
    search (rules, stands)

-- the sections of an image are valid
valid_by : (image : Image) → IsValidBy (sections_in image) (units_in image)
unfolding sections_in units_in size_table_in
valid_by image = search (rules)

-- no rule on sizes fails by the table that an image keeps
sizes_of : (image : Image) → HasSizes (units_in image) (size_table_in image)
unfolding units_in size_table_in
sizes_of image = image.measured.sizes

-- sections that are valid by these units are sound by them
pub sound_by : (s : Sections) (units : List DebugUnit) → IsValidBy s units → IsSoundBy s units
sound_by s units holds =
    search (rules, one_list_of, spelled_of, classes_of, texts_of, references_of, contained_of, no_fault_of)

-- each image is one of its sections
pub sound_image : (image : Image) → IsImageOf (sections_in image) image
sound_image image = search (rules, sound_by, valid_by, sizes_of)

-- the image of entries that were scanned in these sections
pub image_of : (s : Sections) (image : Image) → image.entries.sections ≡ s → IsImageOf s image
unfolding sections_in
image_of s image same = search (rules, sound_image)

-- a first fault
pub fault_of : (s : Sections) (fault : Fault) → IsFirstFault s fault → IsFaultOf s fault
fault_of s fault first = search (rules, no_fault_of)

-- ---- the groups in their order, as they are checked

-- no group is before the first
none_before : (group : Group) → turn_of group < 2 → ⊥
none_before group less = search rules

-- no rule of the groups before a turn fails, where those of the groups before a later one do not
pass_early : (s : Sections) (us : List DebugUnit) (turn bound : ℕ) → turn ≤ bound → bound ≤ 6 → HoldBefore s us bound
    → PassBefore s us turn
pass_early s us turn bound le few hold = search (rules)

-- the size table by which a rule of the last group fails
table_of : (s : Sections) (us : List DebugUnit) (group : Group) (fault : Fault) → IsFirstIn s us group fault
    → 6 < turn_of group → (table : ℕ → Size) × IsSizeTable us table
table_of s us sizes fault first late = search (rules)
table_of s us group fault first late = absurd (omega (arith, late))

module _ (entries : Entries) where
  abbrev s : Sections
  s = sections_of entries

  abbrev us : List DebugUnit
  us = units_of entries

  spells : SpellsInfo s us
  spells = record { spells = entries.scanned.1.spells; are_from = entries.scanned.1.are_from }

  -- the first failure of a group, over the entries that a scan found
  faulty : (group : Group) (fault : Fault) → HoldBefore s us (turn_of group) → IsFirstIn s us group fault
      → IsFaultOf s fault
  faulty group fault before first =
      fault_of s fault (in_group group (record { units = us; spelled = spells; before = before; first = first }))

  before_strings : HasNone (ClassFailures us) → HoldBefore s us 3
  before_strings none classes less = none
  before_strings none _ less = search (rules)

  before_references : HasNone (ClassFailures us) → HasNone (StringFailures s us) → HoldBefore s us 4
  before_references none nor classes less = none
  before_references none nor _ less = search (rules)

  -- the first value whose class is wrong
  pub wrong_class : (fault : Fault) → IsPlainFault (IsFirst (ClassFailures us)) fault → IsFaultOf s fault
  wrong_class fault first = faulty classes fault (λ earlier less. absurd (none_before earlier less)) first

  -- of the groups on the values of attributes the first that fails
  pub wrong_link : (fault : Fault) → IsPlainFault (IsFirstOfLinks s us) fault → IsFaultOf s fault
  wrong_link fault first =
      elim first.holds [
        | inl class ↦ wrong_class fault (record { holds = class; cycle = first.cycle })
        | inr targets ↦ elim targets.1 [
          | inl string ↦
              faulty strings fault (before_strings targets.0) (record { holds = string; cycle = first.cycle })
          | inr reference ↦ faulty references fault (before_references targets.0 reference.0)
              (record { holds = reference.1; cycle = first.cycle })
        ]
      ]

  pub pass_classes : (turn : ℕ) → turn ≤ 3 → HasNone (ClassFailures us) → PassBefore s us turn
  pass_classes turn le none = search (rules, pass_early, before_strings)

  pass_group : (fault : Fault) (turn : ℕ) (group : Group) → FailsInGroup s group fault → turn ≤ group_of fault.rule
      → PassBefore s us turn
  pass_group fault turn group fails late = search (rules, rank_of, one_list_of, spells, table_of)

  -- the first fault is of no group before a turn
  pub pass_fault : (fault : Fault) (turn : ℕ) → IsFirstFault s fault → turn ≤ group_of fault.rule
      → PassBefore s us turn
  pass_fault fault turn (in_trees fails cycle) late = search (rules, no_list)
  pass_fault fault turn (in_group group fails) late = search (rules, pass_group)

-- and of those on types, where none on values fails
module _ (links : Links) where
  abbrev own : List DebugUnit
  own = units_of links.entries.now

  abbrev HoldTo : ℕ → Type 0
  HoldTo = HoldBefore (sections_of links.entries.now) own

  before_shapes : HoldTo 5
  before_shapes classes less = links.classes
  before_shapes _ less = search (rules)

  before_cycles : HasNone (ShapeFailures own) → HoldTo 6
  before_cycles none shapes less = none
  before_cycles none earlier less = before_shapes earlier (omega arith)

  before_sizes : HasNone (ShapeFailures own) → HasNoCycle (by_value own) → HoldTo 7
  before_sizes none nor cycles less = no_cycle_holds own nor
  before_sizes none nor earlier less = before_cycles none earlier (omega arith)

  pub wrong_shape : (fault : Fault) → IsPlainFault (IsFirst (ShapeFailures own)) fault
      → IsFaultOf (sections_of links.entries.now) fault
  wrong_shape fault first = faulty links.entries.now shapes fault before_shapes first

  pub contains_itself : (fault : Fault) → HasNone (ShapeFailures own) → NamesCycle own fault
      → IsFaultOf (sections_of links.entries.now) fault
  contains_itself fault none names = faulty links.entries.now cycles fault (before_cycles none) names

  pub wrong_size : (fault : Fault) → HasNone (ShapeFailures own) → HasNoCycle (by_value own)
      → IsPlainFault (IsFirstSizeFault own) fault → IsFaultOf (sections_of links.entries.now) fault
  wrong_size fault none nor first =
      faulty links.entries.now sizes fault (before_sizes none nor)
      (record { holds = first_by_size own _ first.holds; cycle = first.cycle })

  pub pass_links : (turn : ℕ) → turn ≤ 5 → PassBefore (sections_of links.entries.now) own turn
  pass_links turn le = search (rules, pass_early, before_shapes)

  pub pass_ordered : (turn : ℕ) (order : Ranking) → turn ≤ 7 → AreOrdered own order
      → PassBefore (sections_of links.entries.now) own turn
  pass_ordered turn order le are =
      let falls = are.ordered.falls in
      record {
        hold = λ earlier less. before_sizes are.shapes are.contained earlier (omega (arith, less, le));
        measured = λ late. (
          sizes_by_rank own order.ranks falls,
          is-size_table own order.ranks falls (sizes_by_rank own order.ranks falls) (exact-lines own order.ranks falls),
        );
      }

  holds_all : (table : List Size) → AreMeasures own table → (group : Group)
      → HasNone (failures_of (sections_of links.entries.now) own group)
  holds_all table are sizes = search (rules, none_by_size)
  holds_all table are group = search (rules, before_sizes)

  pub pass_all : (turn : ℕ) (table : List Size) → AreMeasures own table
      → PassBefore (sections_of links.entries.now) own turn
  pass_all turn table are = search (rules, holds_all)

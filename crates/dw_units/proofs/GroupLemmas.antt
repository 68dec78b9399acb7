-- The groups of rules, and the first fault, of units that refer to nothing outside themselves, with more behind them.
use Rattle.std.proofs.Common.{rules, ◌≡◌, ℕ, ◌+◌, ◌≤◌, List, [], ◌∷◌, ◌++◌, length, None, drop, refl, ap, subst, ◌∙◌, arith}
use Rattle.std.specs.List.{AllByRecursion}
use Rattle.std.proofs.lemmas.Grind.{flat_map-append}
use Rattle.dw_elf.specs.declared.sections.Sections.{Sections}
use Rattle.dw_entries.specs.declared.fault.Fault.{Fault}
use Rattle.dw_entries.specs.Units.{AreFrom, SpellsInfo, units_bytes}
use Rattle.dw_entries.specs.Failures.{HasNone, plain_fault_of}
use Rattle.dw_image.specs.FirstFault.{Group, classes, strings, references, shapes, cycles, sizes, turn_of, failures_of, IsFirstIn, IsFirstFault, in_group}
use Rattle.dw_image.specs.Valid.{HasSizes, IsValidBy}
use Rattle.dw_types.specs.SizeTables.{Size}
use Rattle.dw_image.proofs.MeasureLemmas.{no_cycle_holds, none_by_size}
use Rattle.dw_units.specs.IndependentBatches.{joined, JoinsUnits, StandsAlone}
use Rattle.dw_units.specs.ByUnit.{FailsAlone, IsFirm, PassesBelow, PassesThrough, IsMeasured, FirstOfUnits, StaysAlone}
use Rattle.dw_units.specs.BatchSections.{IsReady}
use Rattle.dw_units.proofs.MovedEntries.{Units, all_joined, from_parts, AreTwo, part_of, stays_none}
use Rattle.dw_units.proofs.TextLemmas.{AreOfGroup, none_of_two, first_of_group, classes_of_parts, strings_of_parts}
use Rattle.dw_units.proofs.ReferenceLemmas.{at_attributes, references_of_parts}
use Rattle.dw_units.proofs.WindowLemmas.{whole, window}
use Rattle.dw_units.proofs.TypeLemmas.{contained_two, cycle_of_part, no_cycle_two, shapes_of_parts, sizes_of_parts, table_two}

-- no rule of a group fails at units alone
abbrev Passes : Sections → Group → Units → Type 0
Passes s group units = HasNone (failures_of s units group)

-- units that stand alone
pub passes_all : (s : Sections) (group : Group) (units : Units) → StandsAlone s units → Passes s group units
passes_all s classes units one = one.classes
passes_all s _ units one = search (rules, no_cycle_holds, none_by_size)

measured_all : (s : Sections) (group : Group) (units : Units) → StandsAlone s units → IsMeasured group units
measured_all s group units one = search rules

pub ready_all : (s : Sections) (group : Group) (units : Units) → StandsAlone s units → IsReady s group units
ready_all s group units one = search (rules, measured_all, passes_all)

-- units that are ready for a group are ready for the groups before it
measured_before : (group later : Group) → turn_of group ≤ turn_of later → (units : Units)
    → IsMeasured later units → IsMeasured group units
measured_before group later le units is = search rules

pub ready_before : (s : Sections) (group later : Group) → turn_of group ≤ turn_of later → (units : Units)
    → IsReady s later units → IsReady s group units
ready_before s group later le units one = search (rules, measured_before)

-- the failures of a group, but for cycles, are those of the parts
of_parts : (s : Sections) (group : Group) → (turn_of group ≡ 6 → ⊥) → (all : Units) → StaysAlone s all
    → IsMeasured group all → AreOfGroup s group all
of_parts s classes other all stays measured = classes_of_parts _ _ _ stays
of_parts s strings other all stays measured = strings_of_parts _ _ _ stays
of_parts s references other all stays measured = search (rules, references_of_parts)
of_parts s shapes other all stays measured =
    shapes_of_parts _ _ _ stays (λ units one. one.below references (omega arith))
of_parts s cycles other all stays measured = absurd (other refl)
of_parts s sizes other all stays measured =
    sizes_of_parts _ _ _ stays (λ units one. one.below references (omega arith))
    (λ units one. one.measured) measured

-- ---- two lists of units

module _ (s : Sections) (at : ℕ) (us more : Units) (from : AreFrom at (us ++ more)) where
  two : (group : Group) → IsReady s group us → IsReady s group more → AreTwo s at us more
  two group one other = search rules

  measured_two : (group : Group) → IsReady s group us → IsReady s group more → IsMeasured group (us ++ more)
  measured_two sizes one other =
      table_two (two sizes one other) (one.below references (omega arith)) (other.below references (omega arith))
      one.measured other.measured
  measured_two _ one other = tt

  passes_two : (group : Group) → IsReady s group us → IsReady s group more → Passes s group us
      → Passes s group more → Passes s group (us ++ more)
  passes_two cycles one other none none_behind =
      no_cycle_two (two cycles one other) (one.below references (omega arith)) (other.below references (omega arith))
      none none_behind
  passes_two group one other none none_behind =
      none_of_two s group at us more from one other
      (of_parts s group (λ is. omega (arith, is)) (us ++ more) (whole (two group one other))
      (measured_two group one other)) none none_behind

  pub ready_two : (group : Group) → IsReady s group us → IsReady s group more → IsReady s group (us ++ more)
  ready_two group one other = search (rules, whole, two, measured_two, passes_two, ready_before)

  pub stand_two : StandsAlone s us → StandsAlone s more → StandsAlone s (us ++ more)
  stand_two one other =
      let ready = λ (group : Group). ready_all s group us one in
      let its_ready = λ (group : Group). ready_all s group more other in
      let none = λ (group : Group). passes_two group (ready group) (its_ready group) (passes_all s group us one)
      (passes_all s group more other) in
      let both = two sizes (ready sizes) (its_ready sizes) in
      let (table, is_table) = measured_two sizes (ready sizes) (its_ready sizes) in
      let contained = contained_two both one.references other.references one.contained other.contained in
      let sized : HasSizes (us ++ more) table = record {
        one = is_table;
        none = λ f fails. none sizes f (record { table = table; one = is_table; fails = fails });
      } in
      let all : (table : ℕ → Size) × HasSizes (us ++ more) table = (table, sized) in
      search (rules, all, contained, (none classes), (none strings), (none references), (none shapes), (whole both))

-- no unit
pub stand_none : (s : Sections) → StandsAlone s []
stand_none s = record {
  are = tt;
  classes = λ f fails. search rules;
  strings = λ f fails. search rules;
  references = λ f fails. let is = (at_attributes s [] (stays_none s) f fails).is_item in absurd cc;
  shapes = λ f fails. search rules;
  contained = search rules;
  sizes = (
    λ n. None,
    record {
      one = record {
        obeys = λ node below. search rules;
        only = λ other right node below. search rules;
      };
      none = λ f fails. search rules;
    },
  );
  no_type_unit = tt;
  stays = (stays_none s).stays;
}

-- ---- the laws

pub valid_of : (s : Sections) (us : Units) → StandsAlone s us → SpellsInfo s us → IsValidBy s us
valid_of s us one spelled = search rules

pub join : JoinsUnits
join s bs all spelled =
    valid_of s (joined bs)
    (all_joined (StandsAlone s) (stand_none s) (stand_two s) s.base bs spelled.are_from all) spelled

-- units that are ready, with others before them that pass the group and others behind
module _ (s : Sections) (at : ℕ) (before units behind : Units)
    (from : AreFrom at (before ++ (units ++ behind))) where
  rest_ready : (group : Group) → IsReady s group units → IsReady s group behind → IsReady s group (units ++ behind)
  rest_ready =
      ready_two s (at + length (units_bytes before)) units behind (from_parts at before (units ++ behind) from).1

  pub all_ready : (group : Group) → IsReady s group before → IsReady s group units → IsReady s group behind
      → IsReady s group (before ++ (units ++ behind))
  all_ready group early one late = search (rules, ready_two, rest_ready)

  -- the first failure of the units is the first of all
  first_there : (group : Group) (fault : Fault) → IsReady s group before → IsReady s group units
      → IsReady s group behind → Passes s group before → IsFirm units fault.rule → IsFirstIn s units group fault
      → IsFirstIn s (before ++ (units ++ behind)) group fault
  first_there cycles fault early one late none firm first =
      cycle_of_part (window (all_ready cycles early one late).stays
      (part_of s at before units behind from early.stays one.stays) (one.below references (omega arith))) fault first
  first_there group fault early one late none firm first = record {
    holds =
        first_of_group s group
        (λ us ready. of_parts s group (λ is. omega (arith, is)) us ready.stays ready.measured) at before units behind
        (plain_fault_of fault) from early one late (rest_ready group one late) (all_ready group early one late) none
        firm first.holds;
    cycle = first.cycle;
  }

-- some units pass through the group at which those behind them fail, and others pass the earlier groups
pub first_by_parts : (s : Sections) (before units behind : Units) (group : Group) (fault : Fault)
    → AreFrom s.base (before ++ (units ++ behind)) → IsReady s group before → Passes s group before
    → IsReady s group units → FailsAlone s units group fault → IsReady s group behind
    → drop s.base s.info.now ≡ units_bytes (before ++ (units ++ behind)) → IsFirstFault s fault
first_by_parts s before units behind group fault from early none one fails late parts =
    let all = all_ready s s.base before units behind from group early one late in
    in_group group (record {
      units = before ++ (units ++ behind);
      spelled = record { spells = record { are = all.stays.are; parts = parts }; are_from = from };
      before = all.below;
      first = first_there s s.base before units behind from group fault early one late none fails.firm fails.first;
    })

-- what is known of each of some batches, and of others behind them
split : (P : Units → Type 0) (bs others : List Units) → AllByRecursion P (bs ++ others)
    → AllByRecursion P bs × AllByRecursion P others
split P [] others all = (tt, all)
split P (units ∷ bs) others (one, all) = search (rules, (split P bs others all))

ready_each : (s : Sections) (group : Group) (P Q : Units → Type 0)
    → ((units : Units) → StaysAlone s units → IsMeasured group units → P units → Q units)
    → (bs : List Units) → AllByRecursion (StaysAlone s) bs → AllByRecursion (IsMeasured group) bs
    → AllByRecursion P bs → AllByRecursion Q bs
ready_each s group P Q into [] stay measured all = tt
ready_each s group P Q into (units ∷ bs) (stays, stay) (one, measured) (holds, all) =
    (into units stays one holds, ready_each s group P Q into bs stay measured all)

-- THE law
pub first_by_unit : FirstOfUnits
first_by_unit s before units behind group fault all measured passed fails below parts =
    let same = flat_map-append (λ (batch : Units). batch) before (units ∷ behind) in
    let from = subst (AreFrom s.base) same all.follow in
    let place = s.base + length (units_bytes (joined before)) in
    let (front, there) = from_parts s.base (joined before) (units ++ joined behind) from in
    let (back, end) = from_parts place units (joined behind) there in
    let (stay, (one_stays, stay_behind)) = split (StaysAlone s) before (units ∷ behind) all.stay in
    let (sized, (one_sized, sized_behind)) = split (IsMeasured group) before (units ∷ behind) measured in
    let none = stand_none s in
    let early = all_joined (λ us. IsReady s group us × Passes s group us)
    (ready_all s group [] none, passes_all s group [] none)
    (λ at us more from one other. (
      ready_two s at us more from group one.0 other.0,
      passes_two s at us more from group one.0 other.0 one.1 other.1,
    )) s.base before front
    (ready_each s group (PassesThrough s group) (λ us. IsReady s group us × Passes s group us)
    (λ us stays sizes pass. (record { stays = stays; measured = sizes; below = pass.0 }, pass.1)) before stay sized
    passed) in
    let late = all_joined (IsReady s group) (ready_all s group [] none)
    (λ at us more from. ready_two s at us more from group)
    (place + length (units_bytes units)) behind end
    (ready_each s group (PassesBelow s group) (IsReady s group)
    (λ us stays sizes pass. record { stays = stays; measured = sizes; below = pass }) behind stay_behind sized_behind
    below) in
    first_by_parts s (joined before) units (joined behind) group fault from early.0 early.1
    (record { stays = one_stays; measured = one_sized; below = fails.below }) fails late
    (parts ∙ ap units_bytes same)

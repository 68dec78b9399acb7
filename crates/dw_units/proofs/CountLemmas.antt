-- One more batch after those so far: what is found of them then, and after the last one.
use Rattle.std.proofs.Common.{rules, ◌≡◌, ℕ, zero, suc, get_or, ◌+◌, ◌<◌, ◌≤◌, List, [], ◌∷◌, ◌++◌, length, map, take, drop, Option, Some, None, IfSome, refl, sym, ap, subst, ◌∙◌, arith, append_assoc, append-nil, drop-drop, length-append, take-append-drop, count_by, length-drop, length-take-le}
use Rattle.std.proofs.lemmas.List.Sums.{sum_by-append, sum_by-cons}
use Rattle.std.proofs.lemmas.Grind.{flat_map-append}
use Rattle.std.proofs.lemmas.List.{drop_all, length-map}
use Rattle.dw_elf.specs.declared.sections.Sections.{Sections}
use Rattle.dw_elf.specs.Sections.{IsPart}
use Rattle.dw_entries.specs.declared.fault.Fault.{Fault}
use Rattle.dw_entries.specs.declared.entries.Entries.{Entries}
use Rattle.dw_entries.specs.EntryRules.{EachEntry}
use Rattle.dw_entries.specs.Units.{AreFrom, SpellsInfo, unit_bytes, units_bytes}
use Rattle.dw_entries.specs.Views.{sections_of, units_of, Entry, entries_of}
use Rattle.dw_entries.specs.Failures.{HasNone, plain_fault_of, IsPlainFault}
use Rattle.dw_entries.specs.Faults.{Fails}
use Rattle.dw_image.specs.Lookups.{is_type_entry}
use Rattle.dw_image.proofs.JoinLemmas.{fault_of, sound_by}
use Rattle.dw_forms.specs.Rules.{group_of}
use Rattle.dw_forms.specs.declared.rule.Rule.TheVariants.{UnitCut}
use Rattle.dw_image.specs.FirstFault.{Group, classes, failures_of, in_trees, turn_of}
use Rattle.dw_image.proofs.GroupLemmas.{rank_of}
use Rattle.dw_image.specs.GroupsBefore.{PassBefore}
use Rattle.dw_image.specs.Headline.{IsFaultOf}
use Rattle.dw_units.specs.declared.batches.Elsewhere.{Elsewhere}
use Rattle.dw_units.specs.declared.batches.FirstUnit.{FirstUnit}
use Rattle.dw_units.specs.declared.checking.Found.{Found}
use Rattle.dw_units.specs.declared.checking.Found.TheVariants as found
use Rattle.dw_units.specs.declared.counts.Counts.{Counts}
use Rattle.dw_units.specs.IndependentBatches.{HaveNoTypeUnit, StandsAlone, StaysInside}
use Rattle.dw_units.specs.ByUnit.{IsMeasured, StaysAlone}
use Rattle.dw_units.specs.Counts.{IsFoundIn, sums}
use Rattle.dw_units.specs.BatchSections.{AreCounted, AreSizes, HasLeast, IsFirmlyFound, IsReady, IsFoundAfter, IsFoundOf, IsFoundUpTo, IsLess, IsWhollyFound, Refer, fails, passes, sound}
use Rattle.dw_units.proofs.AloneLemmas.{IsBatch, IsOfGroup, are_from, bytes, failed, passed, stands, stays}
use Rattle.dw_units.proofs.MovedEntries.{Units, total, from_both, from_parts, entries_both, moved}
use Rattle.dw_units.proofs.TreeLemmas.{trees_first, fails_with_more}
use Rattle.dw_units.proofs.GroupLemmas.{all_ready, first_by_parts, ready_before, passes_all, ready_all, ready_two, stand_none, stand_two, valid_of}

-- ---- the counts of one batch more

types_moved : (n first : ℕ) (es : List Entry)
    → count_by is_type_entry (map (moved n first) es) ≡ count_by is_type_entry es
types_moved n first [] = refl
types_moved n first (e ∷ es) = search (rules, sum_by-cons, moved, (types_moved n first es))

counted_more : (s : Sections) (us units : Units) (a b : Counts) → AreFrom s.base (us ++ units)
    → AreCounted s us a → StandsAlone s units → b.units ≡ length units → b.entries ≡ total units
    → b.types ≡ count_by is_type_entry (entries_of units) → AreCounted s (us ++ units) (sums a b)
counted_more s us units a b from are alone its_units its_entries its_types =
    search (rules, entries_both, sum_by-append, stand_two, length-append, length-map, types_moved)

-- ---- one batch more

measured_by : (s : Sections) (group : Group) (turn : ℕ) (units : Units) → turn ≡ turn_of group
    → PassBefore s units turn → IsMeasured group units
measured_by s group turn units is pass = search rules

-- units with a least fault are ready for its group
least_ready : (s : Sections) (us : Units) → AreFrom s.base us → (fault : Fault)
    → (least : HasLeast s us fault) → IsReady s least.group us
least_ready s us from fault least =
    subst (IsReady s least.group) (sym least.are)
    (all_ready s _ _ _ _ (subst (AreFrom s.base) least.are from) least.group
    least.early least.one least.late)

stays_found : (s : Sections) (us : Units) → AreFrom s.base us → (it : Found) → IsFoundOf s us it → StaysAlone s us
stays_found s us from (found.Sound c) are = (ready_all s classes us are.alone).stays
stays_found s us from (found.Fault fault) least = (least_ready s us from fault least).stays

-- no rule of a fault's group, nor of an earlier one, fails at the units before, if the fault is less
passed_before : (s : Sections) (us : Units) → AreFrom s.base us → (so_far : Found) (group : Group)
    (alone : Fault) → group_of alone.rule ≡ turn_of group → IsLess so_far alone.rule → IsFoundOf s us so_far
    → IsReady s group us × HasNone (failures_of s us group)
passed_before s us from (found.Sound c) group alone rank less are = search (rules, ready_all, passes_all)
passed_before s us from (found.Fault old) group alone rank less least =
    let turns : turn_of group < turn_of least.group =
    omega (arith, rank, rank_of s least.units least.group old least.fails.first, less) in
    let all = least_ready s us from old least in
    (ready_before s group least.group (omega (arith, turns)) us all, all.below group turns)

module _ {s own : Sections} {at size : ℕ} {units : Units} (batch : IsBatch s own at size units)
    (within : at + size ≤ length s.info.now) where
  -- the units begin where those before them end
  follow : (so_far : Found) (up : IsFoundUpTo s at so_far) → AreFrom s.base (up.units ++ units)
  follow so_far up = search (rules, from_both, are_from)

  found_more : (so_far : Found) (up : IsFoundUpTo s at so_far) (more : Found)
      → IsFoundAfter own units so_far more → IsFoundOf s (up.units ++ units) more
  found_more so_far up _ (sound a b counts) =
      let only = batch.only counts.units counts.sound.trees.spelled in
      counted_more s up.units units a b (follow so_far up) up.of_units
      (stands batch b counts)
      (counts.unit_count ∙ ap length only)
      (counts.entry_count ∙ ap total only)
      (counts.type_count ∙ ap (λ (us : Units). count_by is_type_entry (entries_of us)) only)
  found_more so_far up _ (passes fault pass) =
      let least : HasLeast s up.units fault = up.of_units in
      let rank = rank_of s least.units least.group fault least.fails.first in
      let there = passed batch (group_of fault.rule) pass in
      let are = ap (λ (xs : Units). xs ++ units) least.are
      ∙ append_assoc least.before (least.units ++ least.behind) units
      ∙ ap (λ (xs : Units). least.before ++ xs) (append_assoc least.units least.behind units) in
      let behind_it = from_parts _ least.before _
      (subst (AreFrom s.base) are (follow so_far up)) in
      let late = ready_two s _ _ _ (from_parts _ least.units _ behind_it.1).1
      least.group least.late (record {
        stays = stays batch;
        measured = measured_by s least.group (group_of fault.rule) units rank there;
        below = λ earlier less. there.hold earlier (omega (arith, less, rank));
      }) in
      search (rules, least, are, late)
  found_more _ up _ (fails so_far fault less is_fault firm) =
      let one : IsOfGroup s units fault = failed batch fault firm is_fault in
      let rank = rank_of s units one.group fault one.fails.first in
      let before = passed_before s up.units up.from so_far one.group fault rank less up.of_units in
      let are = ap (λ (xs : Units). up.units ++ xs) (sym (append-nil units)) in
      let late = ready_all s one.group [] (stand_none s) in
      search (rules, are, before, one, late)

  next : (so_far more : Found) → IsFoundAfter own units so_far more → IsFoundUpTo s at so_far
      → IsFoundUpTo s (at + size) more
  next so_far more after up =
      let us = up.units in
      let its_bytes = bytes batch in
      let both = flat_map-append unit_bytes us units in
      let long = length-take-le size (drop at s.info.now) (omega (arith, within, length-drop at s.info.now)) in
      let end : at + size ≡ s.base + length (units_bytes (us ++ units)) =
      omega (
        arith,
        up.at_is,
        long,
        ap length its_bytes,
        ap length both,
        length-append (units_bytes us)
            (units_bytes units),
      ) in
      let all : drop s.base s.info.now ≡ units_bytes (us ++ units) ++ drop (at + size) s.info.now =
      search (
        rules,
        up.bytes,
        (take-append-drop size (drop at s.info.now)),
        its_bytes,
        (drop-drop size at s.info.now),
        append_assoc,
        both,
      ) in
      search (rules, (follow so_far up), end, all, (found_more so_far up more after))

-- what is found up to the end of one batch more, which these entries are
pub next_of : (s own : Sections) (at size : ℕ) (entries : Entries) → at + size ≤ length s.info.now
    → IsPart s at (at + size) own → sections_of entries ≡ own
    → ((units : Units) → SpellsInfo own units → units ≡ units_of entries)
    → HaveNoTypeUnit (units_of entries) → EachEntry StaysInside (entries_of (units_of entries))
    → (so_far : Found) (r : Option Found) → IfSome r (IsFoundAfter (sections_of entries) (units_of entries) so_far)
    → IfSome r (λ more. IsFoundUpTo s at so_far → IsFoundUpTo s (at + size) more)
next_of s own at size entries within part same only no_type_unit stays_inside so_far r after =
    search (rules, next, are_from)

-- a fault of the entries of one batch more, which is less than those before it
pub fault_after : (own : Sections) (units : Units) (so_far : Found) (fault : Fault)
    (elsewhere : Elsewhere) → Refer (entries_of units) elsewhere → IsFaultOf own fault → IsLess so_far fault.rule
    → (r : Option Found) → IfSome r (IsFirmlyFound elsewhere fault) → IfSome r (IsFoundAfter own units so_far)
fault_after own units so_far fault elsewhere refer is less (Some it) (same, firm) =
    subst (IsFoundAfter own units so_far) (sym same) (fails so_far fault less is (firm units refer))
fault_after own units so_far fault elsewhere refer is less None there = tt

-- ---- before the first batch and after the last one

-- before the first batch
pub none_so_far : (s : Sections) → IsFoundUpTo s s.base (found.Sound (record { units = 0; entries = 0; types = 0 }))
none_so_far s = record {
  units = [];
  from = tt;
  at_is = omega arith;
  bytes = refl;
  of_units = record { alone = stand_none s; unit_count = refl; entry_count = refl; type_count = refl };
}

module _ (s : Sections) (at : ℕ) (so_far : Found) (up : IsFoundUpTo s at so_far) where
  -- the units are all of .debug_info
  pub found_in : drop at s.info.now ≡ [] → IsFoundIn s so_far
  found_in none = go so_far up.of_units
    where
      all : drop s.base s.info.now ≡ units_bytes up.units
      all = up.bytes ∙ ap (λ (xs : List ℕ). units_bytes up.units ++ xs) none ∙ append-nil (units_bytes up.units)

      go : (it : Found) → IsFoundOf s up.units it → IsFoundIn s it
      go (found.Sound c) are =
          let valid = valid_of s up.units are.alone (record {
            spells = record { are = are.alone.are; parts = all };
            are_from = up.from;
          }) in
          search (rules, (sound_by s up.units valid))
      go (found.Fault fault) least =
          fault_of s fault (first_by_parts s _ _ _ _ fault
          (subst (AreFrom s.base) least.are up.from) least.early least.passed.1 least.one least.fails least.late
          (all ∙ ap units_bytes least.are))

  -- the fault of trees in the bytes of one batch more
  module _ (size : ℕ) (fault : Fault)
      (plain : IsPlainFault (Fails s.«abbrev».now at (take size (drop at s.info.now))) fault) where
    found_in_trees : (fault.rule ≡ UnitCut → ⊥) → IsFaultOf s fault
    found_in_trees uncut =
        let after = drop at s.info.now in
        let here = subst (λ (xs : List ℕ). Fails s.«abbrev».now at xs (plain_fault_of fault))
        (take-append-drop size after)
        (fails_with_more s.«abbrev».now at (take size after) (drop size after) (plain_fault_of fault) uncut
        plain.holds) in
        fault_of s fault (in_trees (trees_first s up.units after (plain_fault_of fault)
        (stays_found s up.units up.from so_far up.of_units).are up.bytes
        (subst (λ (n : ℕ). Fails s.«abbrev».now n after (plain_fault_of fault)) up.at_is here)) plain.cycle)

    -- it is what is found
    pub found_by_trees : (r : Option Found) → IfSome r (IsWhollyFound fault) → IfSome r (IsFoundIn s)
    found_by_trees r is = search (rules, found_in_trees)

-- ---- the sizes of the batches

-- one batch more
pub size_more : (some all rest : List ℕ) (size : ℕ) → AreSizes some all rest → size ≤ length rest
    → AreSizes (some ++ size ∷ []) all (drop size rest)
size_more [] all rest size is within = search rules
size_more (one ∷ some) all rest size (fits, more) within =
    (fits, size_more some (drop one all) rest size more within)

-- no batch is left
pub none_left : (s : Sections) (at : ℕ) (some : List ℕ) (k : ℕ) → length some ≤ k
    → AreSizes (drop k some) (drop at s.info.now) [] → drop at s.info.now ≡ []
none_left s at some k past are = search (rules, drop_all)

-- the unit after a batch is at the front of the bytes after it
pub next_fits : (bytes : List ℕ) (size : ℕ) (next : Option FirstUnit)
    → IfSome next (λ unit. (0 < unit.size) × (size + unit.size ≤ length bytes))
    → IfSome next (λ unit. (0 < unit.size) × (unit.size ≤ length (drop size bytes)))
next_fits bytes size next fits = search (rules, length-drop)

-- the next batch is in the bytes that are left
first_fits : (some bytes : List ℕ) (k size : ℕ) → k < length some → size ≡ get_or some k size
    → AreSizes (drop k some) bytes [] → size ≤ length bytes
first_fits [] bytes k size below is are = absurd (omega (arith, below))
first_fits (one ∷ some) bytes zero size below is (fits, more) = omega (arith, is, fits)
first_fits (one ∷ some) bytes (suc k) size below is are = first_fits some bytes k size (omega (arith, below)) is are

pub fits_in : (s : Sections) (at : ℕ) (so_far : Found) → IsFoundUpTo s at so_far → (some : List ℕ) (k size : ℕ)
    → k < length some → size ≡ get_or some k size → AreSizes (drop k some) (drop at s.info.now) []
    → at + size ≤ length s.info.now
fits_in s at so_far up some k size below is are =
    let fits = first_fits some (drop at s.info.now) k size below is are in
    omega (
      arith,
      fits,
      up.at_is,
      s.base_within,
      ap length up.bytes,
      length-append (units_bytes up.units) (drop at s.info.now),
      length-drop s.base s.info.now,
      length-drop at s.info.now,
    )

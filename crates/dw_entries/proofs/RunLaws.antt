-- The entries of one unit, by their offsets.
use Rattle.std.proofs.Common.{rules, ◌≡◌, ℕ, ◌+◌, ◌<◌, ◌≤◌, ◌^◌, List, length, arith}
use Rattle.std.proofs.lemmas.Option.{slice_get-get_or}
use Rattle.dw_entries.specs.Entries.{Entry, entries_of, PlacedUnit, placed, DebugUnit}
use Rattle.dw_entries.specs.ByNumber.{end_in, entry_of, placed_of}
use Rattle.dw_entries.specs.EntriesAt.{IsEntryAt, IsEntryIn, ReachesInUnit}
use Rattle.dw_entries.specs.EntryRules.{OffsetsRise}
use Rattle.dw_entries.proofs.NumberOrder.{three_ways}
use Rattle.dw_entries.proofs.HeadLaws.{stands_within}
use Rattle.dw_entries.proofs.EntryFacts.{length-placed}
use Rattle.dw_entries.proofs.UnitRanges.{range_of_unit, unit_in_range, found_entry, kept_entry, Tables, UnitRecord, Record, found_units, Scanned}

-- ---- the entry of a unit at an offset

-- one entry at most begins at an offset
pub one_at : (entries : List Entry) (offset i j : ℕ) → OffsetsRise entries → IsEntryAt entries offset i
    → IsEntryAt entries offset j → i ≡ j
one_at entries offset i j rise a b = search (rules, three_ways, slice_get-get_or)

-- where an entry begins, so far from its unit's header
pub reached_at : (entries : List Entry) (units : List PlacedUnit) (number offset at id : ℕ)
    → at ≡ offset + (placed_of units number).at → ReachesInUnit entries units number offset id
    → IsEntryIn entries number at id
reached_at entries units number offset at id sum reached = search (rules)

pub in_is_at : (entries : List Entry) (unit offset id : ℕ) → IsEntryIn entries unit offset id
    → IsEntryAt entries offset id
in_is_at entries unit offset id found = search (rules)

pub reaches : (entries : List Entry) (units : List PlacedUnit) (number offset at id : ℕ) → number < length units
    → at ≡ offset + (placed_of units number).at → IsEntryAt entries at id → (entry_of entries id).unit ≡ number
    → ReachesInUnit entries units number offset id
reaches entries units number offset at id within sum found same = search (rules)

-- where the entry at the offset is not between the first and the end of the unit, none of the unit is there
pub never_other : (us : List DebugUnit) (number offset at first end id : ℕ) → number < length us
    → OffsetsRise (entries_of us) → at ≡ offset + (placed_of (placed us) number).at → IsEntryAt (entries_of us) at id
    → first ≡ (placed_of (placed us) number).first → end ≡ end_in (placed us) number
    → (first ≤ id → id < end → ⊥) → (j : ℕ) → ReachesInUnit (entries_of us) (placed us) number offset j → ⊥
never_other us number offset at first end id within rise sum found begins ends outside j reached =
    search (rules, reached_at, one_at, in_is_at, range_of_unit, slice_get-get_or, length-placed)

-- where it is between them, it is of the unit
pub reaches_by_range : (us : List DebugUnit) (number offset at first end id : ℕ) → number < length us
    → at ≡ offset + (placed_of (placed us) number).at → IsEntryAt (entries_of us) at id
    → first ≡ (placed_of (placed us) number).first → end ≡ end_in (placed us) number
    → first ≤ id → id < end → ReachesInUnit (entries_of us) (placed us) number offset id
reaches_by_range us number offset at first end id within sum found begins ends low high =
    search (rules, length-placed, reaches, unit_in_range, slice_get-get_or)

-- no entry begins after 2 ^ 64 bytes
pub never_far : {base : ℕ} {a info : List ℕ} {tables : Tables} {rs : List UnitRecord} {records : List Record}
    (s : Scanned base a info tables rs records) (number offset start : ℕ)
    → start ≡ (placed_of (placed (found_units s)) number).at → length info < 2 ^ 64 → 2 ^ 64 ≤ offset + start → (j : ℕ)
    → ReachesInUnit (entries_of (found_units s)) (placed (found_units s)) number offset j → ⊥
never_far {info = info} s number offset start place few far j reached =
    let stands = stands_within (found_units s) info (found_entry s j)
    (kept_entry s j reached.target.within).stands in
    omega arith

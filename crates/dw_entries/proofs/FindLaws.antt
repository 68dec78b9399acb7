-- The entries and their records, by their offsets.
use Rattle.std.proofs.Common.{rules, ◌≡◌, ℕ, ◌+◌, ◌<◌, ◌≤◌, ◌^◌, List, [], ◌∷◌, length, Option, Some, None, refl, arith, IfSome, option_map, slice_get}
use Rattle.std.proofs.lemmas.Option.{slice_get_within}
use Rattle.std.proofs.lemmas.List.{length-map}
use Rattle.dw_entries.specs.Units.{AreFrom, DebugUnit}
use Rattle.dw_entries.specs.Starts.{Block, AreInOrder, AreStarts, IsRecordAt, number_from}
use Rattle.dw_entries.specs.EntriesAt.{IsEntryAt}
use Rattle.dw_entries.proofs.EntryFacts.{entries_rise, entry_past, placed_past, entries_of, start_of}
use Rattle.dw_entries.proofs.KeptLaws.{found_entry, found_place, kept_entry, kept_unit, record_is, Tables, UnitRecord, Record, found_units, numbers_of, record_of, Scanned, stands_within}
pub use Rattle.dw_entries.proofs.OrderLaws.{scanned_few}

-- the first unit is where the units begin
starts_at : (base number : ℕ) (us : List DebugUnit) → AreFrom base us → number < length us → start_of us ≡ base
starts_at base number [] from within = absurd (omega arith)
starts_at base number (u ∷ us) from within = from.0

pub entries_counted : {base : ℕ} (a info : List ℕ) (tables : Tables) (rs : List UnitRecord) (records : List Record)
    (s : Scanned base a info tables rs records) → length records ≡ length (entries_of (found_units s))
entries_counted a info tables rs records s = search (rules, length-map)

module _ {base : ℕ} {a info : List ℕ} {tables : Tables} {rs : List UnitRecord} {records : List Record}
    (s : Scanned base a info tables rs records) where
  -- the record of an entry
  stands_at : (id : ℕ) {offset : ℕ} (found : IsEntryAt (entries_of (found_units s)) offset id)
      → slice_get records id ≡ Some (record_of (numbers_of tables rs) (found_entry s id))
  stands_at id found = (kept_entry s id found.within).is_record

  -- where the record of an entry is, the entry begins
  pub entry_at : (offset id : ℕ) → IsRecordAt records offset id → IsEntryAt (entries_of (found_units s)) offset id
  entry_at offset id at = go (slice_get records id) refl at
    where
      go : (o : Option Record) → slice_get records id ≡ o → option_map (λ (r : Record). r.at) o ≡ Some offset
          → IsEntryAt (entries_of (found_units s)) offset id
      go None is same = absurd cc
      go (Some r) is same =
          let within : id < length (entries_of (found_units s)) =
          omega (arith, slice_get_within records id r is, entries_counted a info tables rs records s) in
          let offset_is : r.at ≡ offset = cc in
          let same = record_is (kept_entry s id within) r is in record { within = within; begins = search rules }

  -- where an entry begins, its record is
  pub record_at : (offset id : ℕ) → IsEntryAt (entries_of (found_units s)) offset id → IsRecordAt records offset id
  record_at offset id found = search (rules, stands_at)

  -- no entry is before the base
  pub past_base : (id offset : ℕ) → IsEntryAt (entries_of (found_units s)) offset id → base ≤ offset
  past_base id offset found =
      let k = kept_entry s id found.within in search (rules, starts_at, entry_past)

  -- no unit is either
  pub unit_past : (number : ℕ) → number < length (found_units s) → base ≤ (found_place s number).at
  unit_past number within =
      let k = kept_unit s number within in search (rules, starts_at, placed_past)

  -- the records are in the order of their entries
  pub records_ordered : AreInOrder records base (length info)
  records_ordered = record {
    rise = rise;
    past = λ number offset at. past_base number offset (entry_at offset number at);
    within = below;
  }
    where
      rise : (i j offset after : ℕ) → i < j → IsRecordAt records offset i → IsRecordAt records after j → offset < after
      rise i j offset after less at_i at_j =
          let low = entry_at offset i at_i in
          let high = entry_at after j at_j in
          let up = entries_rise a (found_units s) s.1.spells.are i j (found_entry s i) (found_entry s j) less
          (kept_entry s i low.within).is_entry
          (kept_entry s j high.within).is_entry in
          omega arith

      below : (number offset : ℕ) → IsRecordAt records offset number → offset < length info
      below number offset at =
          let here = entry_at offset number at in
          let w = stands_within (found_units s) info (found_entry s number)
          (kept_entry s number here.within).stands in
          omega arith

  -- what the blocks say of an offset is so
  module _ (blocks : List Block) (starts : AreStarts records base blocks) (past : ℕ) where
    pub found_from : (id : ℕ) → number_from blocks past ≡ Some id
        → IsEntryAt (entries_of (found_units s)) (base + past) id
    found_from id is = entry_at (base + past) id ((starts past id).0 is)

    pub none_from : number_from blocks past ≡ None → (id : ℕ)
        → IsEntryAt (entries_of (found_units s)) (base + past) id → ⊥
    none_from none id found = let some = (starts past id).1 (record_at (base + past) id found) in cc

    pub few_from : length info < 2 ^ 32 → IfSome (number_from blocks past) (λ n. n < 2 ^ 32)
    few_from fits = go (number_from blocks past) refl
      where
        go : (o : Option ℕ) → number_from blocks past ≡ o → IfSome o (λ n. n < 2 ^ 32)
        go None is = tt
        go (Some id) is =
            let within = (found_from id is).within in
            let few = scanned_few a info tables rs records s in
            omega (arith, entries_counted a info tables rs records s)

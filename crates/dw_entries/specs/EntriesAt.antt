-- Chapter: which entry is at an offset, of .debug_info or of a unit.
use Rattle.std.specs.Prelude.{◌≡◌, ℕ, ◌+◌, ◌<◌, List, length}
pub use Rattle.dw_entries.specs.ByNumber.{entry_of, placed_of, Entry, PlacedUnit}

-- the entry with this number begins at the offset
pub record IsEntryAt (entries : List Entry) (offset id : ℕ) : Type 0 where
  pub within : id < length entries
  pub begins : (entry_of entries id).at ≡ offset

-- it does, and is one of this unit's
pub record IsEntryIn (entries : List Entry) (unit offset id : ℕ) : Type 0 where
  pub within : id < length entries
  pub begins : (entry_of entries id).at ≡ offset
  pub in_unit : (entry_of entries id).unit ≡ unit

-- so far after the first byte of its unit's header an entry of the unit begins
pub record ReachesInUnit (entries : List Entry) (units : List PlacedUnit) (number offset id : ℕ) : Type 0 where
  pub unit_within : number < length units
  pub target : IsEntryIn entries number ((placed_of units number).at + offset) id

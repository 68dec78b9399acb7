-- State: the entries of the unit that a cursor keeps at hand.
use Rattle.std.specs.Prelude.{◌≡◌, ◌<◌, ◌≤◌, ℕ, List, length}
use Rattle.dw_entries.specs.ByNumber.{entry_of, Entry}

-- the entries from the first one on, and before the end, are of the unit of this number
abbrev pub HasEntries : List Entry → (unit first end : ℕ) → Type 0
HasEntries entries unit first end = (id : ℕ) → id < length entries → first ≤ id → id < end
    → unit ≡ (entry_of entries id).unit

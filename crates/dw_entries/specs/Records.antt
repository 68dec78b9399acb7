-- State: what is kept of the entries of a tree and of units.
use Rattle.std.proofs.Common.{refl, ◌≡◌, ℕ, List, None, map}
use Rattle.dw_entries.specs.Tree.{Node}
use Rattle.dw_entries.specs.Entries.{node_entries, entries_from, start_of, DebugUnit}
use Rattle.dw_entries.specs.Scanned.{Record, record_of, records_of}

-- the entries of a tree of this unit, by the numbers of the declarations by their codes; the first entry has number id
-- and is at this offset
abbrev pub tree_records : (numbers : ℕ → ℕ) (unit id at : ℕ) → Node → List Record
tree_records numbers unit id at n = map (record_of (λ _. numbers)) (node_entries unit None 0 None id at n)

-- the entries of these units, the first of which has this number and begins at this offset with entry id
abbrev pub records_from : (ℕ → ℕ → ℕ) → ℕ → ℕ → ℕ → List DebugUnit → List Record
records_from numbers unit id at us = map (record_of numbers) (entries_from unit id at us)

-- these records are what is kept of the entries
pub records_kept : (numbers : ℕ → ℕ → ℕ) (us : List DebugUnit)
    → records_of numbers us ≡ records_from numbers 0 0 (start_of us) us
records_kept numbers us = refl

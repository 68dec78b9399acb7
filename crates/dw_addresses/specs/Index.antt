-- State: the sequences of an index.
use Rattle.std.specs.Prelude.{◌≡◌, ℕ, Bool, List, [], ◌∷◌, ◌+◌, ◌-◌, ◌<◌, ◌≤◌, ◌⊎◌, length, take, drop, max, All}
use Rattle.std.specs.Prelude.{map, option_map, AllPairs, nat_le, nat_lt, ◌&&◌}
use Rattle.std.specs.List.{find}
use Rattle.std.specs.List.Sorted.{IsNonDecreasingBy}
use Rattle.dw_addresses.specs.Addresses.{first_address, end_address, live_sequences, sequence_with}
use Rattle.dw_lines.specs.declared.row.Row.{Row}
use Rattle.dw_addresses.specs.declared.sequence.Sequence.{Sequence}

-- the rows of a sequence
abbrev pub rows_of : List Row → Sequence → List Row
rows_of rows s = take (s.end + 1 - s.first) (drop s.first rows)

-- a sequence is some of these rows, in order of address
pub record IsSequence (rows : List Row) (s : Sequence) : Type 0 where
  pub some : s.first ≤ s.end
  pub within : s.end < length rows
  pub low : first_address (rows_of rows s) ≡ s.low
  pub high : end_address (rows_of rows s) ≡ s.high

-- the live sequences of some rows, in order
pub record AreLive (code : List (ℕ × ℕ)) (rows : List Row) (found : List Sequence) : Type 0 where
  pub each : All (IsSequence rows) found
  pub in_order : AllPairs (λ s t. s.first < t.first) found
  pub all : live_sequences code rows ≡ map (rows_of rows) found

-- the order of sequences in an index: by address, and then by their first rows
abbrev pub IsUpTo : Sequence → Sequence → Type 0
IsUpTo s t = (s.low < t.low) ⊎ ((s.low ≡ t.low) × (s.first ≤ t.first))

-- whether a sequence has an address
abbrev pub has : ℕ → Sequence → Bool
has a s = nat_le s.low a && nat_lt a s.high

-- the greatest end of each sequence and those before it, and this one
abbrev pub reaches_from : ℕ → List Sequence → List ℕ
reaches_from reach [] = []
reaches_from reach (s ∷ later) = max reach s.high ∷ reaches_from (max reach s.high) later

-- the live sequences of some rows in the order of their addresses, and their reaches
pub record IsIndex (code : List (ℕ × ℕ)) (rows : List Row) (sequences : List Sequence) (reaches : List ℕ) : Type 0 where
  pub each : All (IsSequence rows) sequences
  pub rising : All (λ s. IsNonDecreasingBy (λ r. r.address) (rows_of rows s)) sequences
  pub sorted : IsNonDecreasingBy (λ s. s.low) sequences
  pub reached : reaches ≡ reaches_from 0 sequences
  pub found : (a : ℕ) → sequence_with a (live_sequences code rows) ≡ option_map (rows_of rows) (find (has a) sequences)

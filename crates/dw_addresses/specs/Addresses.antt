-- Chapter: the row that a line program has for an address (DWARF 5, 6.2.2 and 6.2.5.3).
use Rattle.std.specs.Prelude.{ℕ, Bool, List, [], ◌∷◌, filter, Option, Some, None, option_and_then, nat_le, nat_lt}
use Rattle.std.specs.Prelude.{◌<◌, All, AllPairs, ◌&&◌, if◌then◌else◌}
use Rattle.std.specs.List.{list_any}
use Rattle.std.specs.Option.{option_or}
use Rattle.dw_lines.specs.declared.row.Row.{Row}

-- a row before the first of some sequences
abbrev pub before_first : Row → List (List Row) → List (List Row)
before_first r [] = []
before_first r (s ∷ later) = (r ∷ s) ∷ later

-- the sequences of rows: each ends with the first row that says so. Rows after the last such row are in none
abbrev pub sequences_in : List Row → List (List Row)
sequences_in [] = []
sequences_in (r ∷ rows) = if r.end_sequence then (r ∷ []) ∷ sequences_in rows else before_first r (sequences_in rows)

-- the address of the first row of a sequence
abbrev pub first_address : List Row → ℕ
first_address [] = 0
first_address (r ∷ rows) = r.address

-- the address of the last row of a sequence, which is the first after the sequence
abbrev pub end_address : List Row → ℕ
end_address [] = 0
end_address (r ∷ []) = r.address
end_address (r ∷ s ∷ rows) = end_address (s ∷ rows)

-- whether a sequence has an address
abbrev pub has_address : ℕ → List Row → Bool
has_address a s = nat_le (first_address s) a && nat_lt a (end_address s)

-- areas of code, each with its first address and the first after it: each has an address, and starts above the end of
-- the one before it
pub record AreAreas (areas : List (ℕ × ℕ)) : Type 0 where
  pub some : All (λ x. x.0 < x.1) areas
  pub apart : AllPairs (λ x y. x.1 < y.0) areas

-- whether an area has every address from low on and below high
abbrev pub encloses : (low high : ℕ) → ℕ × ℕ → Bool
encloses low high area = nat_le area.0 low && nat_le high area.1

-- whether there is an address from low on and below high, and all of these are in one area of code
abbrev pub is_live : List (ℕ × ℕ) → (low high : ℕ) → Bool
is_live code low high = nat_lt low high && list_any (encloses low high) code

-- the sequences of the program's code. A linker leaves the others where it drops a function
abbrev pub live_sequences : List (ℕ × ℕ) → List Row → List (List Row)
live_sequences code rows = filter (λ s. is_live code (first_address s) (end_address s)) (sequences_in rows)

-- of two sequences the one that starts lower, and the first if both start at one address
abbrev pub lower : List Row → Option (List Row) → List Row
lower s None = s
lower s (Some t) = if nat_lt (first_address t) (first_address s) then t else s

-- the sequence that has an address: of several the one that starts lowest, and of those the first
abbrev pub sequence_with : ℕ → List (List Row) → Option (List Row)
sequence_with a [] = None
sequence_with a (s ∷ later) = if has_address a s then Some (lower s (sequence_with a later)) else sequence_with a later

-- the last row with this address or a smaller one
abbrev pub row_up_to : ℕ → List Row → Option Row
row_up_to a [] = None
row_up_to a (r ∷ rows) = option_or (row_up_to a rows) (if nat_le r.address a then Some r else None)

-- the row of an address: the last one up to it, of the sequence of the program's code that has it
abbrev pub row_at : List (ℕ × ℕ) → List Row → ℕ → Option Row
row_at code rows a = option_and_then (row_up_to a) (sequence_with a (live_sequences code rows))

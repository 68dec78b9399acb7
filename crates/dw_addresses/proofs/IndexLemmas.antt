-- An index of rows by address.
use Rattle.std.proofs.Common.{◌≡◌, ℕ, List, length, None}
use Rattle.std.specs.Prelude.{IsPermutation}
use Rattle.std.specs.List.{AllAdjacentBelow}
use Rattle.std.specs.List.Sorted.{IsNonDecreasingBy}
use Rattle.std.proofs.lemmas.List.Sorted.{All-permutation}
use Rattle.dw_addresses.specs.Index.{AreLive, IsIndex, IsSequence, IsUpTo, reaches_from, rows_of}
use Rattle.dw_lines.specs.Sequences.{Ascend}
use Rattle.dw_lines.specs.declared.row.Row.{Row}
use Rattle.dw_addresses.specs.declared.sequence.Sequence.{Sequence}
use Rattle.dw_addresses.proofs.OrderLemmas.{found_same, lows_rise}
use Rattle.dw_addresses.proofs.RisingLemmas.{live_in_order}

pub is_index : (code : List (ℕ × ℕ)) (rows : List Row) (found ordered : List Sequence) (reaches : List ℕ)
    → AreLive code rows found → Ascend None rows → IsPermutation found ordered
    → AllAdjacentBelow IsUpTo ordered (length ordered) → reaches ≡ reaches_from 0 ordered
    → IsIndex code rows ordered reaches
is_index code rows found ordered reaches live up moved sorted reached = record {
  each = All-permutation (IsSequence rows) found ordered moved live.each;
  rising = All-permutation (λ s. IsNonDecreasingBy (λ (r : Row). r.address) (rows_of rows s)) found ordered moved
      (live_in_order code rows found live up);
  sorted = lows_rise ordered sorted;
  reached = reached;
  found = λ a. found_same a code rows found ordered live moved sorted;
}

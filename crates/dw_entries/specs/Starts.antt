-- State: where entries start, by blocks of 32 bytes of .debug_info from the base on.
use Rattle.std.specs.Prelude.{◌≡◌, ◌≢◌, ◌==◌, ◌<◌, ◌≤◌, ◌/◌, ◌%◌, ◌^◌, ◌+◌, ◌↔◌, ℕ, List, Option, Some, None}
use Rattle.std.specs.Prelude.{count_ones, if◌then◌else◌, option_map, slice_get, slice_index_or}
use Rattle.std.specs.Int.{bit_at}
use Rattle.dw_entries.specs.declared.records.Record.{Record}
pub use Rattle.dw_entries.specs.declared.starts.Block.{Block}

-- the number of the entry that starts at a byte of a block
abbrev pub number_at : Block → ℕ → Option ℕ
number_at block byte =
    if bit_at block.bits byte == 1 then Some (block.first + count_ones (block.bits % 2 ^ byte)) else None

-- a block where no entry starts
abbrev pub no_starts : Block
no_starts = record { first = 0; bits = 0 }

-- the block of an offset
abbrev pub block_of : List Block → ℕ → Block
block_of blocks offset = slice_index_or blocks (offset / 32) no_starts

-- the number of the entry that starts so many bytes after the first block does
abbrev pub number_from : List Block → ℕ → Option ℕ
number_from blocks offset = number_at (block_of blocks offset) (offset % 32)

-- the record of this number is at the offset
abbrev pub IsRecordAt : List Record → (offset number : ℕ) → Type 0
IsRecordAt records offset number = option_map (λ (r : Record). r.at) (slice_get records number) ≡ Some offset

-- by the blocks an entry starts so many bytes after the base exactly if its record is there
abbrev pub AreStarts : List Record → (base : ℕ) → List Block → Type 0
AreStarts records base blocks = (past number : ℕ)
    → (number_from blocks past ≡ Some number) ↔ IsRecordAt records (base + past) number

-- the entry of this number may start at this byte of the block: after all others of the block, which it follows
pub record IsNextIn (block : Block) (byte number : ℕ) : Type 0 where
  pub above : block.bits < 2 ^ byte
  pub follows : block.bits ≢ 0 → block.first + count_ones block.bits ≡ number

-- the entry of this number starts at this byte of the block too, and the next one may start after it
pub record StartsToo (old : Block) (byte number : ℕ) (new : Block) : Type 0 where
  pub here : number_at new byte ≡ Some number
  pub others : (other : ℕ) → other ≢ byte → number_at new other ≡ number_at old other
  pub next : (after : ℕ) → byte < after → IsNextIn new after (number + 1)

-- the records are at rising offsets, from the base on and below the end
pub record AreInOrder (records : List Record) (base end : ℕ) : Type 0 where
  pub rise : (i j offset after : ℕ) → i < j → IsRecordAt records offset i → IsRecordAt records after j → offset < after
  pub past : (number offset : ℕ) → IsRecordAt records offset number → base ≤ offset
  pub within : (number offset : ℕ) → IsRecordAt records offset number → offset < end

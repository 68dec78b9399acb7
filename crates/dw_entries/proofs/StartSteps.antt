-- The blocks in which the entries of records start, one record after another.
use Rattle.std.proofs.Common.{◌≡◌, ◌≢◌, ℕ, ◌+◌, ◌-◌, ◌*◌, ◌/◌, ◌%◌, ◌^◌, ◌<◌, ◌≤◌, List, length, get_or, set, replicate, Option, Some, None, refl, sym, ap, subst, ◌∙◌, inl, inr, rules, arith, slice_get, option_map}
use Rattle.std.proofs.lemmas.Bool.{cases_eq, cases_lt}
use Rattle.std.proofs.lemmas.Nat.{pow_pos}
use Rattle.std.proofs.lemmas.List.{get_or-replicate, get_or-set_same, get_or-set_other, get_or_past, get_or_read, length-replicate}
use Rattle.std.proofs.lemmas.Option.{slice_get_within, slice_get-get_or}
use Rattle.std.proofs.lemmas.Nat.Bits.{bit_at-zero}
use Rattle.dw_entries.specs.declared.records.Record.{Record}
use Rattle.dw_entries.specs.Starts.{Block, AreInOrder, AreStarts, IsNextIn, IsRecordAt, StartsToo, block_of, no_starts, number_from}
use Rattle.dw_entries.proofs.StartLaws.{number_none}

-- a number has no bit below the lowest
no_bits : (bits byte : ℕ) → byte ≡ 0 → bits < 2 ^ byte → bits ≡ 0
no_bits bits byte same few =
    let one : 2 ^ byte ≡ 1 = ap (λ (n : ℕ). 2 ^ n) same in search rules

-- the record of a number is at one offset
one_offset : (records : List Record) (number a b : ℕ) → IsRecordAt records a number → IsRecordAt records b number
    → a ≡ b
one_offset records number a b is_a is_b = search rules

-- by the blocks, which begin at the base, the first count entries start where their records are, and the next one may
-- start after them
pub record HaveStarts (records : List Record) (base count : ℕ) (blocks : List Block) : Type 0 where
  pub found : (offset number : ℕ) → number_from blocks offset ≡ Some number
      → (number < count) × IsRecordAt records (base + offset) number
  pub start : (offset number : ℕ) → number < count → IsRecordAt records (base + offset) number
      → number_from blocks offset ≡ Some number
  pub next : (offset : ℕ)
      → ((number before : ℕ) → number < count → IsRecordAt records before number → before < base + offset)
      → IsNextIn (block_of blocks offset) (offset % 32) count

pub start_none : (records : List Record) (base n : ℕ) → HaveStarts records base 0 (replicate n no_starts)
start_none records base n = record {
  found = λ offset number is. absurd (search (rules, nowhere));
  start = λ offset number few. absurd (omega arith);
  next = λ offset _. search (rules, none_at, pow_pos);
}
  where
    none_at : (offset : ℕ) → block_of (replicate n no_starts) offset ≡ no_starts
    none_at offset = elim (cases_lt (offset / 32) n) [
      | inl less ↦ get_or-replicate n (offset / 32) no_starts no_starts less
      | inr past ↦
          get_or_past (replicate n no_starts) (offset / 32) no_starts
          (let len = length-replicate n no_starts in omega (arith, len, past))
    ]

    nowhere : (offset : ℕ) → number_from (replicate n no_starts) offset ≡ None
    nowhere offset = search (rules, none_at, number_none, bit_at-zero)

pub start_all : (records : List Record) (base : ℕ) (blocks : List Block)
    → HaveStarts records base (length records) blocks → AreStarts records base blocks
start_all records base blocks have offset number = (
  λ is. (have.found offset number is).1,
  λ at. have.start offset number (within at) at,
)
  where
    within : IsRecordAt records (base + offset) number → number < length records
    within at = go (slice_get records number) refl at
      where
        go : (o : Option Record) → slice_get records number ≡ o
            → option_map (λ (r : Record). r.at) o ≡ Some (base + offset) → number < length records
        go (Some r) is same = slice_get_within records number r is
        go None is same = absurd cc

-- a record that was read is at its offset
pub read_at : (records : List Record) (k : ℕ) (r : Record) → k < length records
    → IsRecordAt records (get_or records k r).at k
read_at records k r within = search (rules, slice_get-get_or)

-- and so far after the base
pub read_past : {records : List Record} {base end k : ℕ} (r : Record) → k < length records
    → AreInOrder records base end
    → IsRecordAt records (base + ((get_or records k r).at - base)) k × ((get_or records k r).at < end)
    × (base ≤ (get_or records k r).at)
read_past {records} {k = k} r within order =
    let is = read_at records k r within in let low = order.past k (get_or records k r).at is in search (rules, order)

module _ {records : List Record} {base end count : ℕ} {blocks : List Block} (at : ℕ)
    (order : AreInOrder records base end)
    (is : IsRecordAt records (base + at) count) (old : HaveStarts records base count blocks)
    (within : at / 32 < length blocks) (block : Block) (read : block ≡ get_or blocks (at / 32) block) where
  -- the records before are at lower offsets
  below : (number before : ℕ) → number < count → IsRecordAt records before number → before < base + at
  below number before few at_before = order.rise number count before (base + at) few at_before is

  block_is : block_of blocks at ≡ block
  block_is = search (rules, get_or_read)

  pub may_start : IsNextIn block (at % 32) count
  may_start = search (rules, old, below, block_is)

  module _ (new : Block) (too : StartsToo block (at % 32) count new) where
    abbrev pub put : List Block
    put = set blocks (at / 32) new

    put_same : (offset : ℕ) → offset / 32 ≡ at / 32 → block_of put offset ≡ new
    put_same offset same = search (rules, get_or-set_same)

    put_other : (offset : ℕ) → offset / 32 ≢ at / 32 → block_of put offset ≡ block_of blocks offset
    put_other offset other = get_or-set_other blocks (at / 32) (offset / 32) new no_starts other

    number_here : number_from put at ≡ Some count
    number_here = search (rules, put_same, too)

    number_other : (offset : ℕ) → offset ≢ at → number_from put offset ≡ number_from blocks offset
    number_other offset other = elim (cases_eq (offset / 32) (at / 32)) [
      | inl same ↦
          search (rules, put_same, (too.others (offset % 32) (λ e. other (omega (arith, e, same)))), block_is)
      | inr apart ↦ search (rules, put_other)
    ]

    pub start_more : HaveStarts records base (count + 1) put
    start_more = record { found = found; start = start; next = after }
      where
        found : (offset number : ℕ) → number_from put offset ≡ Some number
            → (number < count + 1) × IsRecordAt records (base + offset) number
        found offset number found_here = elim (cases_eq offset at) [
          | inl same ↦
              let e : Some count ≡ Some number = search (rules, number_here) in
              let one : count ≡ number = cc in
              search rules
          | inr other ↦
              let (few, there) = old.found offset number (sym (number_other offset other) ∙ found_here) in search rules
        ]

        start : (offset number : ℕ) → number < count + 1 → IsRecordAt records (base + offset) number
            → number_from put offset ≡ Some number
        start offset number few there = elim (cases_eq number count) [
          | inl same ↦
              let P : ℕ → Type 0 = IsRecordAt records (base + offset) in
              let both = one_offset records count (base + offset) (base + at) (subst P same there) is in
              let place : offset ≡ at = omega (arith, both) in
              search (rules, number_here)
          | inr other ↦
              let earlier : number < count = omega (arith, few, other) in
              let low = below number (base + offset) earlier there in
              search (rules, number_other, old)
        ]

        after : (offset : ℕ)
            → ((number before : ℕ) → number < count + 1 → IsRecordAt records before number → before < base + offset)
            → IsNextIn (block_of put offset) (offset % 32) (count + 1)
        after offset above =
            let past : at < offset = let e = above count (base + at) (omega arith) is in omega (arith, e) in
            elim (cases_eq (offset / 32) (at / 32)) [
              | inl same ↦ search (rules, put_same, too)
              | inr apart ↦ search (rules, put_other, empty)
            ]
          where
            -- no entry starts in a block after that of the last one
            empty : (offset : ℕ) → at < offset → offset / 32 ≢ at / 32
                → IsNextIn (block_of blocks offset) (offset % 32) (count + 1)
            empty offset past apart =
                let first : ℕ = offset / 32 * 32 in
                let later : at < first = omega (arith, past, apart) in
                let low = old.next first (λ number before few there.
                let e = below number before few there in omega (arith, e, later)) in
                let place : first / 32 ≡ offset / 32 = omega arith in
                let byte : first % 32 ≡ 0 = omega arith in
                let zero : (block_of blocks offset).bits ≡ 0 =
                search (rules, place, no_bits, low) in
                record {
                  above = let e = pow_pos (offset % 32) in omega (arith, e, zero);
                  follows = λ other. absurd (other zero);
                }

-- The number of the entry that starts at a byte of a block, and one more entry in a block.
use Rattle.std.proofs.Common.{◌≡◌, ◌≢◌, ◌⊎◌, ℕ, suc, ◌+◌, ◌-◌, ◌*◌, ◌%◌, ◌^◌, ◌<◌, bit_and, bit_or, count_ones, Option, Some, None, ap, ◌∙◌, inl, inr, rules, arith, IfSome, pow-suc}
use Rattle.std.specs.Int.{bit_at, w32}
use Rattle.std.proofs.lemmas.Bool.{cases_lt}
use Rattle.std.proofs.Math.Nat.{mul-add-mod_self_right}
use Rattle.std.proofs.Math.Pow.{pow_mono}
use Rattle.std.proofs.lemmas.Nat.{pow_pos, pow-add, or_comm, or_shifted, mod_low, one_shl, ones_cat, and_mask}
use Rattle.std.proofs.lemmas.Nat.Bits.{and_pow, bit_at-lt, bit_at-zero, bit_at_above, bit_at_set_same, bit_at_set_other}
use Rattle.dw_entries.specs.Starts.{Block, number_at, IsNextIn, StartsToo}

-- a bit is 0 or 1
one_or_none : (n : ℕ) → n < 2 → (n ≡ 0) ⊎ (n ≡ 1)
one_or_none n few = grind arith

bit_cases : (n k : ℕ) → (bit_at n k ≡ 0) ⊎ (bit_at n k ≡ 1)
bit_cases n k = one_or_none (bit_at n k) (bit_at-lt n k)

pub number_none : (block : Block) (k : ℕ) → bit_at block.bits k ≡ 0 → number_at block k ≡ None
number_none block k unset = search rules

number_some : (block : Block) (k : ℕ) → bit_at block.bits k ≡ 1
    → number_at block k ≡ Some (block.first + count_ones (block.bits % 2 ^ k))
number_some block k is_set = search rules

module _ (block : Block) (k : ℕ) (within : k < 32) where
  -- the test of the bit `1 << k` of 32 bits
  shifted : 1 * 2 ^ k % 2 ^ 32 ≡ 2 ^ k
  shifted = one_shl k 32 within

  tested : bit_and block.bits (1 * 2 ^ k % 2 ^ 32) ≡ bit_at block.bits k * 2 ^ k
  tested = ap (bit_and block.bits) shifted ∙ and_pow block.bits k

  pub none_if_unset : bit_and block.bits (1 * 2 ^ k % 2 ^ 32) ≡ 0 → number_at block k ≡ None
  none_if_unset unset = elim (bit_cases block.bits k) [
    | inl zero ↦ number_none block k zero
    | inr one ↦ search (rules, tested, pow_pos)
  ]

  pub some_if_set : (bit_and block.bits (1 * 2 ^ k % 2 ^ 32) ≡ 0 → ⊥)
      → number_at block k ≡ Some (block.first + count_ones (bit_and block.bits (1 * 2 ^ k % 2 ^ 32 - 1)))
  some_if_set is_set = elim (bit_cases block.bits k) [
    | inl zero ↦ absurd (is_set (search (rules, tested)))
    | inr one ↦ search (rules, number_some, and_mask, shifted)
  ]

pub some_fits : (found : Option ℕ) (n : ℕ) → found ≡ Some n → IfSome found (λ k. k < 2 ^ 32) → n < 2 ^ 32
some_fits found n is fits = search rules

-- ---- the bit of one more entry

-- the bits below a bit that is set above them
low_bits : (bits j k : ℕ) → j < k → (2 ^ k + bits) % 2 ^ j ≡ bits % 2 ^ j
low_bits bits j k lt =
    let split : 2 ^ k ≡ 2 ^ (k - j) * 2 ^ j =
    ap (λ (n : ℕ). 2 ^ n) (let s : k ≡ k - j + j = omega (arith, lt) in s) ∙ pow-add 2 (k - j) j in
    ap (λ (n : ℕ). (n + bits) % 2 ^ j) split ∙ mul-add-mod_self_right (2 ^ (k - j)) (2 ^ j) bits

module _ (block : Block) (k number : ℕ) (within : k < 32) (next : IsNextIn block k number) (new : Block)
    (bits : new.bits ≡ bit_or block.bits (1 * 2 ^ k % 2 ^ 32)) where
  sum : new.bits ≡ 1 * 2 ^ k + block.bits
  sum = bits ∙ ap (bit_or block.bits) (one_shl k 32 within ∙ (let e : 2 ^ k ≡ 1 * 2 ^ k = omega arith in e))
      ∙ or_comm block.bits (1 * 2 ^ k) ∙ or_shifted 1 k block.bits next.above

  bit_other : (i : ℕ) → i ≢ k → bit_at new.bits i ≡ bit_at block.bits i
  bit_other i other = search (rules, (bit_at_set_other w32 block.bits k within))

  module _ (first : ((block.bits ≡ 0) × (new.first ≡ number)) ⊎ ((block.bits ≢ 0) × (new.first ≡ block.first))) where
    counted : new.first + count_ones block.bits ≡ number
    unfolding lib.Count.ones
    counted = elim first [
      | inl is ↦ let none : count_ones block.bits ≡ 0 = ap count_ones is.0 in search rules
      | inr is ↦ search (rules, next)
    ]

    -- the first one stays where another one starts
    kept : (i : ℕ) → bit_at block.bits i ≡ 1 → new.first ≡ block.first
    kept i one = elim first [
      | inl is ↦ absurd (search (rules, bit_at-zero))
      | inr is ↦ is.1
    ]

    number_here : number_at new k ≡ Some number
    number_here =
        let low : new.bits % 2 ^ k ≡ block.bits = search (rules, sum, (mod_low 1 k block.bits next.above)) in
        search (rules, number_some, (bit_at_set_same w32 block.bits k within), counted)

    number_other : (i : ℕ) → i ≢ k → number_at new i ≡ number_at block i
    number_other i other = elim (bit_cases block.bits i) [
      | inl zero ↦ search (rules, number_none, bit_other)
      | inr one ↦
          let below : i < k = elim (cases_lt i k) [
            | inl less ↦ less
            | inr more ↦ absurd (search (rules, (bit_at_above block.bits k i next.above more)))
          ] in
          let low : new.bits % 2 ^ i ≡ block.bits % 2 ^ i =
          ap (λ (n : ℕ). n % 2 ^ i) (sum ∙ (let e : 1 * 2 ^ k + block.bits ≡ 2 ^ k + block.bits = omega arith in e))
          ∙ low_bits block.bits i k below in
          search (rules, number_some, bit_other, kept)
    ]

    next_after : (after : ℕ) → k < after → IsNextIn new after (number + 1)
    unfolding lib.Count.ones
    next_after after lt = record {
      above = omega (arith, pow_mono {i = suc k} {j = after} lt, pow-suc 2 k, sum, next.above);
      follows = λ _.
          let ones = ones_cat k 1 block.bits next.above in search (rules, sum, counted);
    }

    pub starts_too : StartsToo block k number new
    starts_too = record { here = number_here; others = number_other; next = next_after }

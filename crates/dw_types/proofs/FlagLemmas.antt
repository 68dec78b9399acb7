-- Flags after one of them is set, and the flags before the next one that is set.
use Rattle.std.proofs.Common.{rules, ◌≡◌, ◌≢◌, ℕ, ◌*◌, ◌/◌, ◌%◌, ◌+◌, ◌^◌, ◌<◌, ◌≤◌, Bool, true, false, refl, ◌||◌, ◌&&◌, ◌==◌, List, length, get_or, set, get_or-set_same, get_or-set_other, nat_eq, bit_or, w64, inl, inr, sym, ap, ◌∙◌, arith, zero, suc, ◌-◌, pow-suc}
use lib.Count.{count_trailing_zeros, under}
use lib.Pow.{pow_mono, shr_le}
use native.Mathlib.Nat.{div-eq_of_lt}
use Rattle.std.specs.Int.{bit_at, trailing_zeros}
use Rattle.std.proofs.Math.Bool.{and-false, and-true, or-false}
use Rattle.std.proofs.lemmas.Bool.{cases_eq, cases_lt, eq-eqb, ne_eqb}
use Rattle.std.proofs.lemmas.List.{get_or_read}
use Rattle.std.proofs.lemmas.Nat.Bits.{bit_at-suc, bit_at-zero, bit_at_lowest, bit_at_set_same, bit_at_set_other}
use Rattle.std.proofs.lemmas.Nat.{shr-shr}
use Rattle.dw_types.specs.StoredFlags.{bit_in}

module _ (words : List ℕ) (number old : ℕ) (within : number < 64 * length words)
    (read : old ≡ get_or words (number / 64) old) where
  -- the word with the bit of the number
  abbrev word : ℕ
  word = bit_or old (1 * 2 ^ (number % 64) % 2 ^ 64)

  in-words : number / 64 < length words
  in-words = omega arith

  -- the bit of a place in a word
  bit-of : (words : List ℕ) (k w : ℕ) → get_or words (k / 64) 0 ≡ w → bit_in words k ≡ (bit_at w (k % 64) == 1)
  bit-of words k w is = search rules

  set-itself : bit_in (set words (number / 64) word) number ≡ true
  set-itself =
      bit-of (set words (number / 64) word) number word (get_or-set_same words (number / 64) word 0 in-words)
      ∙ ap (λ (bit : ℕ). bit == 1) (bit_at_set_same w64 old (number % 64) (omega arith))

  set-other : (k : ℕ) → k ≢ number → bit_in (set words (number / 64) word) k ≡ bit_in words k
  set-other k other = elim (cases_eq (k / 64) (number / 64)) [
    | inl same ↦
        let apart : k % 64 ≢ number % 64 = λ e. other (omega (arith, e, same)) in
        bit-of (set words (number / 64) word) k word
        (ap (λ (i : ℕ). get_or (set words (number / 64) word) i 0) same
        ∙ get_or-set_same words (number / 64) word 0 in-words)
        ∙ ap (λ (bit : ℕ). bit == 1)
        (bit_at_set_other w64 old (number % 64) (omega arith) (k % 64) apart)
        ∙ sym (bit-of words k old
        (ap (λ (i : ℕ). get_or words i 0) same ∙ sym (get_or_read words (number / 64) old in-words read 0)))
    | inr apart ↦
        bit-of (set words (number / 64) word) k (get_or words (k / 64) 0)
        (get_or-set_other words (number / 64) (k / 64) word 0 apart)
  ]

  -- the flag that is set, and each other one as it was
  pub bit-set : (k : ℕ) → bit_in (set words (number / 64) word) k ≡ (nat_eq k number || bit_in words k)
  bit-set k = search (rules, cases_eq, set-itself, set-other, ne_eqb)

-- flags that tell what is true of each entry before a node, and are not set from it on, after the node's is set if it is
-- true of that
module _ (old is new : ℕ → Bool) (node : ℕ) (told : (k : ℕ) → k < node → old k ≡ is k)
    (unset : (k : ℕ) → node ≤ k → old k ≡ false) (set : (k : ℕ) → new k ≡ ((is node && nat_eq k node) || old k)) where
  pub told-more : (k : ℕ) → k < node + 1 → new k ≡ is k
  told-more k below = search (rules, cases_eq, eq-eqb, or-false, and-true, ne_eqb, and-false)

  pub unset-more : (k : ℕ) → node + 1 ≤ k → new k ≡ false
  unset-more k after = search (rules, ne_eqb, and-false)

digit : (d t i : ℕ) → i < under d t → (d ≡ 0) × (i < t + 1)
digit zero t i below = (refl, omega arith)
digit (suc d) t i below = absurd (omega arith)

-- the bits of a word below its lowest 1 are 0
clear-trailing : (k word i : ℕ) → i < count_trailing_zeros k word → bit_at word i ≡ 0
unfolding count_trailing_zeros
clear-trailing zero word i below = absurd (omega arith)
clear-trailing (suc k) word zero below = let first = digit (word % 2) _ zero below in omega arith
clear-trailing (suc k) word (suc i) below =
    let rest = digit (word % 2) _ (suc i) below in bit_at-suc word i ∙ clear-trailing k (word / 2) i (omega arith)

-- its lowest 1 is there
lowest-one : (k word d : ℕ) → 0 < word → word < 2 ^ k → word % 2 ≡ d → bit_at word (count_trailing_zeros k word) ≡ 1
unfolding count_trailing_zeros
lowest-one zero word d some fits is = absurd (omega arith)
lowest-one (suc k) word zero some fits is =
    rw is (bit_at-suc word (count_trailing_zeros k (word / 2))
    ∙ lowest-one k (word / 2) (word / 2 % 2) (omega arith) (omega (arith, pow-suc 2 k)) refl)
lowest-one (suc k) word (suc d) some fits is = rw is (omega (arith, bit_at_lowest word))

shifted : (word shift i : ℕ) → bit_at (word / 2 ^ shift) i ≡ bit_at word (shift + i)
shifted word shift i = ap (λ (n : ℕ). n % 2) (shr-shr word shift i)

-- a bit that is 1 is one of the word
one-within : (word i : ℕ) → word < 2 ^ 64 → bit_at word i ≡ 1 → i < 64
one-within word i fits one = elim (cases_lt i 64) [
  | inl below ↦ below
  | inr above ↦
      let large = pow_mono {i = 64} {j = i} above in
      let none : word / 2 ^ i ≡ 0 = div-eq_of_lt (omega arith) in
      absurd (omega arith)
]

-- the flags from a number on, by the bits of its word from its own on
module _ (words : List ℕ) (at word : ℕ) (inside : at < 64 * length words) (fits : word < 2 ^ 64)
    (read : word ≡ get_or words (at / 64) word) where
  abbrev bits : ℕ
  bits = word / 2 ^ (at % 64)

  -- the bit of a number that has the same word
  same-word : (k : ℕ) → at ≤ k → k / 64 ≡ at / 64 → bit_in words k ≡ (bit_at bits (k - at) == 1)
  same-word k low same =
      let bit : at % 64 + (k - at) ≡ k % 64 = omega arith in
      let here = get_or_read words (at / 64) word (omega arith) read 0 in
      rw (same, ← here, ← bit, ← shifted word (at % 64) (k - at)) refl

  -- if no bit is 1, no flag of the word is set
  pub clear-word : bits ≡ 0 → (k : ℕ) → at ≤ k → k < at / 64 * 64 + 64 → bit_in words k ≡ false
  clear-word none k low below =
      same-word k low (omega arith) ∙ rw (none, bit_at-zero (k - at)) refl

  module _ (some : bits ≢ 0) where
    abbrev clear : ℕ
    clear = trailing_zeros w64 bits

    lowest-bit : bit_at bits clear ≡ 1
    lowest-bit = lowest-one 64 bits (bits % 2) (omega arith) (let le = shr_le word (at % 64) in omega arith) refl

    pub in-word : clear < 64 - at % 64
    in-word =
        let within = one-within word (at % 64 + clear) fits (sym (shifted word (at % 64) clear) ∙ lowest-bit) in
        omega arith

    -- else none is before that of the lowest 1, which is set
    pub clear-flags : (k : ℕ) → at ≤ k → k < at + clear → bit_in words k ≡ false
    clear-flags k low below =
        let within = in-word in
        same-word k low (omega arith) ∙ rw (clear-trailing 64 bits (k - at) (omega arith)) refl

    pub flag-set : (k : ℕ) → k ≡ at + clear → bit_in words k ≡ true
    flag-set k is =
        let within = in-word in
        let rest : k - at ≡ clear = omega arith in
        same-word k (omega arith) (omega arith) ∙ rw (rest, lowest-bit) refl

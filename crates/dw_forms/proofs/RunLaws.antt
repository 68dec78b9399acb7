-- Codes that have the same lowest bits, and chains that begin with a run: codes that count up while the numbers of
-- their links count down.
use Rattle.std.proofs.Common.{rules, ◌≡◌, ℕ, zero, suc, ◌+◌, ◌%◌, ◌^◌, ◌<◌, ◌≤◌, Bool, true, false, refl, sym, ◌∙◌, inl, inr, arith, ◌==◌, not, bit_xor, eqb-true, ◌-◌, ◌/◌, List, ◌∷◌, ◌++◌, drop, ap, take-append-drop, eq-eqb, ne_eqb}
use Rattle.std.specs.Int.{bit_at, w64, trailing_zeros}
use Rattle.std.proofs.lemmas.Bool.{eqb-false, cases_eq, and_parts}
use Rattle.std.proofs.lemmas.Nat.{xor_lt}
use Rattle.std.proofs.lemmas.Nat.Bits.{bit_at-lt, bit_at-zero, bit_at_xor, bit_at-trailing_zeros, same_from_bits_below, bit_at_lowest, bit_at-suc}
use Rattle.dw_forms.specs.Chains.{same_bit, agrees, parts, Numbered, number_where, number_in, run_from, IsRun}
use Rattle.std.proofs.Math.Nat.{pow-suc}

-- ---- codes that have the same bits below a place

pub agrees_less : (code place other : ℕ) → agrees code (suc place) other ≡ true → agrees code place other ≡ true
unfolding agrees
agrees_less code place other e = search (rules, and_parts)

agrees_at : (code place other : ℕ) → agrees code (suc place) other ≡ true → bit_at code place ≡ bit_at other place
unfolding agrees
agrees_at code place other e = search (rules, eqb-true, and_parts)

agrees_below : (code place later other : ℕ) → place ≤ later → agrees code later other ≡ true
    → agrees code place other ≡ true
agrees_below code place zero other less e = search rules
agrees_below code place (suc later) other less e = elim (cases_eq place (suc later)) [
  | inl same ↦ (λ i. agrees code (same i) other) ∙ e
  | inr fewer ↦ agrees_below code place later other (omega arith) (agrees_less code later other e)
]

pub agreed_below : (code place other : ℕ) → agrees code place other ≡ true → (i : ℕ) → i < place
    → bit_at code i ≡ bit_at other i
agreed_below code place other e i less = search (rules, agrees_at, agrees_below)

pub agrees_from : (code place other : ℕ) → ((i : ℕ) → i < place → bit_at code i ≡ bit_at other i)
    → agrees code place other ≡ true
unfolding agrees
agrees_from code zero other same = refl
agrees_from code (suc place) other same =
    search (rules, eq-eqb, (agrees_from code place other (λ i less. same i (omega arith))))

pub agrees_same : (code place other : ℕ) → other ≡ code → agrees code place other ≡ true
agrees_same code place other same = search (rules, agrees_from)

-- a code that agrees below a place may stand for the other one
agrees_as : (code place first other : ℕ) → agrees code place first ≡ true
    → agrees first place other ≡ agrees code place other
unfolding agrees
agrees_as code zero first other e = refl
agrees_as code (suc place) first other e =
    rw (agrees_as code place first other (agrees_less code place first e), agrees_at code place first e) refl

-- also at the place, where both have the same bit
pub parts_as : (code place first other : ℕ) → agrees code place first ≡ true → same_bit code place first ≡ true
    → parts first place other ≡ parts code place other
parts_as code place first other e same = search (rules, agrees_as, eqb-true)

other_bit : (a b c : ℕ) → a < 2 → b < 2 → c < 2 → (a == b) ≡ false → not (b == c) ≡ (a == c)
other_bit a b c la lb lc apart = search (rules, cases_eq, ne_eqb, eqb-false, eq-eqb)

-- where they have not, what differs from one there agrees with the other
pub parts_turned : (code place first other : ℕ) → agrees code place first ≡ true → same_bit code place first ≡ false
    → parts first place other ≡ agrees code (suc place) other
unfolding agrees
parts_turned code place first other e apart = search (rules, agrees_as, other_bit, bit_at-lt)

pub agrees_on : (code place other : ℕ) → agrees code place other ≡ true → same_bit code place other ≡ true
    → agrees code (suc place) other ≡ true
unfolding agrees
agrees_on code place other e same = rw (e, same) refl

pub parts_on : (code place other : ℕ) → agrees code place other ≡ true → same_bit code place other ≡ false
    → parts code place other ≡ true
parts_on code place other e apart = rw (e, apart) refl

-- a code that first differs at a later place agrees below this one
pub parts_later : (code place later other : ℕ) → place ≤ later → parts code later other ≡ true
    → agrees code place other ≡ true
parts_later code place later other less e = search (rules, agrees_below, and_parts)

-- the code itself differs nowhere
pub parts_self : (code place : ℕ) → parts code place code ≡ false
parts_self code place = search (rules, agrees_same, eq-eqb)

-- ---- the lowest place at which two codes ne_eqb

same_bits : (a b : ℕ) → a < 2 → b < 2 → (a + b) % 2 ≡ 0 → b ≡ a
same_bits a b la lb e = omega arith

pub same_codes : (a b : ℕ) → a < 2 ^ 64 → b < 2 ^ 64 → bit_xor a b ≡ 0 → b ≡ a
same_codes a b la lb e =
    same_from_bits_below 64 b a lb la
    (λ i less. same_bits (bit_at a i) (bit_at b i) (bit_at-lt a i) (bit_at-lt b i)
    (sym (bit_at_xor a b i) ∙ (λ j. bit_at (e j) i) ∙ bit_at-zero i))

pub parts_lowest : (a b : ℕ) → a < 2 ^ 64 → b < 2 ^ 64 → (bit_xor a b ≡ 0 → ⊥)
    → (trailing_zeros w64 (bit_xor a b) < 64) × (parts a (trailing_zeros w64 (bit_xor a b)) b ≡ true)
parts_lowest a b la lb some =
    let low = trailing_zeros w64 (bit_xor a b) in
    let lowest = bit_at-trailing_zeros w64 (bit_xor a b) (omega arith) (xor_lt 64 a b la lb) in
    let bit = lowest.1 in (
      lowest.0,
      parts_on a low b
          (agrees_from a low b (λ i less. sym (same_bits (bit_at a i) (bit_at b i) (bit_at-lt a i) (bit_at-lt b i)
          (sym (bit_at_xor a b i) ∙ lowest.2 i less))))
          (ne_eqb (bit_at a low) (bit_at b low) (λ e. omega (arith, bit_at_xor a b low))),
    )

-- codes that agree at all places are the same
pub agrees_all : (code other : ℕ) → code < 2 ^ 64 → other < 2 ^ 64 → agrees code 64 other ≡ true → other ≡ code
agrees_all code other lc lo e =
    same_from_bits_below 64 other code lo lc
    (λ i less. sym (agreed_below code 64 other e i less))

-- ---- numbers at a distance of a power of two

-- codes at a smaller distance ne_eqb below the place
apart : (place code far : ℕ) → 0 < far → far < 2 ^ place
    → ((i : ℕ) → i < place → bit_at code i ≡ bit_at (code + far) i) → ⊥
apart zero code far some less same = omega arith
apart (suc place) code far some less same =
    let low : code % 2 ≡ (code + far) % 2 =
    sym (bit_at_lowest code) ∙ same 0 (omega arith) ∙ bit_at_lowest (code + far) in
    let half : (code + far) / 2 ≡ code / 2 + far / 2 = omega arith in
    apart place (code / 2) (far / 2) (omega arith) (omega (arith, pow-suc 2 place))
    (λ i l. sym (bit_at-suc code i) ∙ same (suc i) (omega arith) ∙ bit_at-suc (code + far) i
    ∙ (λ j. bit_at (half j) i))

-- those at this distance have the same bits below it, and another one there
half_more : (place code : ℕ) → (code + 2 ^ suc place) / 2 ≡ code / 2 + 2 ^ place
half_more place code = omega (arith, pow-suc 2 place)

same_below : (place code i : ℕ) → i < place → bit_at code i ≡ bit_at (code + 2 ^ place) i
same_below zero code i less = absurd (omega arith)
same_below (suc place) code zero less = search (rules, bit_at_lowest, pow-suc)
same_below (suc place) code (suc i) less =
    search (rules, bit_at-suc, half_more, (same_below place (code / 2) i (omega arith)))

other_there : (place code : ℕ) → bit_at code place ≡ bit_at (code + 2 ^ place) place → ⊥
other_there zero code same = search (rules, bit_at_lowest)
other_there (suc place) code same =
    other_there place (code / 2)
    (sym (bit_at-suc code place) ∙ same ∙ bit_at-suc (code + 2 ^ suc place) place
    ∙ (λ i. bit_at (half_more place code i) place))

parts_there : (code place : ℕ) → parts code place (code + 2 ^ place) ≡ true
parts_there code place = search (rules, parts_on, agrees_from, same_below, ne_eqb, other_there)

none_before : (code place far : ℕ) → far < 2 ^ place → parts code place (code + far) ≡ false
none_before code place zero less = search (rules, parts_self)
none_before code place (suc far) less = by_bits (agrees code place (code + suc far)) refl
  where
    by_bits : (b : Bool) → agrees code place (code + suc far) ≡ b → parts code place (code + suc far) ≡ false
    by_bits false e = rw e refl
    by_bits true e = absurd (apart place code (suc far) (omega arith) less (agreed_below code place (code + suc far) e))

-- ---- what is found in a run

-- the first link of a run that passes a test
pub run_where : (test : ℕ → Bool) (run code number far : ℕ) (more : List (Numbered ℕ)) → far < run
    → test (code + far) ≡ true → ((i : ℕ) → i < far → test (code + i) ≡ false)
    → number_where test (run_from run code number ++ more) ≡ number - far
unfolding number_where
run_where test zero code number far more less passes none = absurd (omega arith)
run_where test (suc run) code number zero more less passes none = search rules
run_where test (suc run) code number (suc far) more less passes none =
    let same : code + 0 ≡ code = omega arith in
    let on : (i : ℕ) → code + suc i ≡ suc code + i = λ i. omega arith in
    let end : number - 1 - far ≡ number - suc far = omega arith in
    rw (sym (ap test same) ∙ none 0 (omega arith))
    (run_where test run (suc code) (number - 1) far more (omega arith) (sym (ap test (on far)) ∙ passes)
    (λ i l. sym (ap test (on i)) ∙ none (suc i) (omega arith)) ∙ end)

run_parts : (chain : List (Numbered ℕ)) (run code number : ℕ) → IsRun chain run code number
    → chain ≡ run_from run code number ++ drop run chain
run_parts chain run code number is = search (rules, take-append-drop)

-- a code by its distance
run_number : (chain : List (Numbered ℕ)) (run code number i : ℕ) → IsRun chain run code number → i < run
    → number_in chain (code + i) ≡ number - i
run_number chain run code number i is less =
    (λ j. number_in (run_parts chain run code number is j) (code + i))
    ∙ run_where (λ c. c == code + i) run code number i (drop run chain) less (eq-eqb (code + i) (code + i) refl)
    (λ j l. ne_eqb (code + j) (code + i) (λ e. omega arith))

pub run_found : (chain : List (Numbered ℕ)) (run base number code : ℕ) → IsRun chain run base number → base ≤ code
    → code - base < run → number - (code - base) ≡ number_in chain code
run_found chain run base number code is from less =
    let at : base + (code - base) ≡ code = omega arith in
    sym (run_number chain run base number (code - base) is less) ∙ ap (number_in chain) at

-- the branch at a place, which is at a distance of a power of two
pub run_branch : (chain : List (Numbered ℕ)) (run code number place : ℕ) → IsRun chain run code number → 2 ^ place < run
    → number - 2 ^ place ≡ number_where (parts code place) chain
run_branch chain run code number place is less =
    sym (ap (number_where (parts code place)) (run_parts chain run code number is)
    ∙ run_where (parts code place) run code number (2 ^ place) (drop run chain) less (parts_there code place)
    (λ i l. none_before code place i l))

-- a run with one link more
pub run_more : (chain : List (Numbered ℕ)) (run code last : ℕ) → IsRun chain (run - 1) (code + 1) last
    → IsRun (record { number = suc last; item = code } ∷ chain) run code (suc last)
run_more chain zero code last is = refl
run_more chain (suc run) code last is = search rules

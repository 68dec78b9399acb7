-- LEB128 numbers of one byte and of two, one byte more of such a number, and what a call says that reads a value.
use Rattle.std.proofs.Common.{rules, ◌≡◌, ℕ, ◌+◌, ◌*◌, ◌%◌, ◌<◌, ◌≤◌, List, [], ◌∷◌, length, get_or, Result, Ok, arith, bit_and, lt-ltb, le-ltb, drop, Err, ap, ◌∙◌, IfOk, IfErr, OnErr, length-append, length-drop, zero, suc, ◌^◌, refl, to_z, of_z, pos, ◌-ℤ◌}
use Rattle.std.proofs.lemmas.Nat.{and_mask, shl_whole, mul-add-lt, pow-add, one_shl}
use Rattle.dw_forms.specs.LebReading.{spelling_from, uleb_at, NumberFault}
use Rattle.dw_forms.specs.Formats.{Format}
use Rattle.dw_forms.specs.Front.{BeginsWith, BeginsWithNone}
use Rattle.dw_forms.specs.LebLaws.{Numbers, number_again, leb}
use Rattle.dw_forms.specs.Readers.{read_is, takes, reader_begins, reader_none, reader_fails}
use Rattle.dw_forms.specs.ValueReading.{Gives}
use Rattle.std.proofs.lemmas.Grind.{common_steps}
use Rattle.std.specs.Int.{w128}
use Rattle.std.proofs.lemmas.Int.{ints}
use Rattle.std.proofs.Math.Nat.{pow-suc, pow-le-pow_right}
use Rattle.std.proofs.Math.Numerals.{add-one}
use Rattle.std.proofs.lemmas.List.{at_drop_more, at_drop_all}
use Rattle.dw_forms.specs.declared.leb.NumberFault.TheVariants.{Cut, BadNumber}

-- ---- numbers of one byte, and of two

pub uleb_one : (bytes : List ℕ) (n : ℕ) → 1 ≤ length bytes → n ≡ get_or bytes 0 0 → get_or bytes 0 0 < 128
    → ◌≡◌ {A = Result (ℕ × ℕ) NumberFault} (Ok (n, 1)) (uleb_at bytes)
unfolding uleb_at spelling_from
uleb_one [] n some e low = absurd (omega arith)
uleb_one (b ∷ bytes) n some e low = search (rules, lt-ltb)

two_bytes : (a b : ℕ) (bytes : List ℕ) (n : ℕ) → n ≡ a % 128 + 128 * b → 128 ≤ a → b < 128
    → ◌≡◌ {A = Result (ℕ × ℕ) NumberFault} (Ok (n, 2)) (uleb_at (a ∷ b ∷ bytes))
unfolding uleb_at spelling_from
two_bytes a b bytes n e high low = search (rules, le-ltb, lt-ltb)

pub uleb_two : (bytes : List ℕ) (low high : ℕ) → 2 ≤ length bytes → low ≡ bit_and (get_or bytes 0 0) 127
    → high ≡ get_or bytes 1 0
    → 128 ≤ get_or bytes 0 0 → get_or bytes 1 0 < 128
    → ◌≡◌ {A = Result (ℕ × ℕ) NumberFault} (Ok (low + 128 * high, 2)) (uleb_at bytes)
uleb_two [] low high some l h more less = absurd (omega arith)
uleb_two (a ∷ []) low high some l h more less = absurd (omega arith)
uleb_two (a ∷ b ∷ bytes) low high some l h more less =
    let mask = and_mask a 7 in
    two_bytes a b bytes (low + 128 * high) (omega arith) more less

-- ---- what a call says that reads a value at the front of some bytes

module _ {X V E : Type 0} (f : Format V E) (view : X → V) (bytes : List ℕ) where
  -- the call gives what reading gives, and how many bytes it takes
  abbrev pub IsRead : Result (X × ℕ) E → Type 0
  IsRead r = Gives (λ x. (view x.0, drop x.1 bytes)) r (f.read bytes)

  pub found_by : (r : Result (X × ℕ) E) → IfOk r (λ x. x.1 ≤ length bytes) → IsRead r
      → IfOk r (λ x. BeginsWith f.Spells bytes (view x.0) x.1)
  found_by (Ok x) within e = grind (arith, common_steps, length-drop, reader_begins)
  found_by (Err d) within e = tt

  pub none_by : (r : Result (X × ℕ) E) → IsRead r → OnErr r (BeginsWithNone f.Spells bytes)
  none_by (Ok x) e = tt
  none_by (Err d) e = search (rules, reader_none)

  pub fails_by : (r : Result (X × ℕ) E) → IsRead r → IfErr r (f.Fails bytes)
  fails_by (Ok x) e = tt
  fails_by (Err d) e = search (rules, reader_fails)

-- ---- numbers

module _ {V : Type 0} (n : Numbers V) (bytes : List ℕ) where
  pub number_read : (r : Result (V × ℕ) NumberFault) → r ≡ n.at bytes → IsRead (leb n) (λ v. v) bytes r
  number_read (Ok x) e = search rules
  number_read (Err f) e = search rules

  pub number_within : (r : Result (V × ℕ) NumberFault) → r ≡ n.at bytes → IfOk r (λ x. x.1 ≤ length bytes)
  number_within (Ok x) e =
      let rest = drop x.1 bytes in
      let t = takes (leb n).read n.Spells (leb n).Fails (leb n).is_reader bytes x.0 rest (number_read (Ok x) e) in
      let len : x.1 ≡ length t.text =
      (λ i. (read_is (e ∙ ap n.at t.parts ∙ number_again n t.text rest x.0 t.spelled) i).1) in
      omega (arith, ap length t.parts, length-append t.text rest)
  number_within (Err f) e = tt

-- ---- one byte more of a LEB128 number

-- seven bits a place
sevens : (k : ℕ) → 2 ^ (7 * k) ≡ 128 ^ k
sevens zero = refl
sevens (suc k) =
    let e : 7 * suc k ≡ 7 * k + 7 = omega arith in
    rw (e, pow-add, pow-suc 128 k) (λ i. (sevens k i) * 128)

-- the low seven bits of a byte, shifted to their place
pub shifted : (b place low : ℕ) → low ≡ bit_and b 127 → place ≤ 9
    → low * 2 ^ (7 * place) % 2 ^ 128 ≡ (b % 128) * 128 ^ place
shifted b place low is le =
    let low_seven : low ≡ b % 128 = is ∙ and_mask b 7 in
    let below : b % 128 < 2 ^ 7 = omega arith in
    let power : 2 ^ (7 * place) ≡ 128 ^ place = sevens place in
    rw low_seven (shl_whole (b % 128) 7 (7 * place) 128 below (omega arith) ∙ (λ i. (b % 128) * (power i)))

pub next_small : (b place sum : ℕ) → sum < 128 ^ place → sum + (b % 128) * 128 ^ place < 128 ^ (place + 1)
next_small b place sum lt = grind (arith, common_steps, add-one, pow-suc, mul-add-lt)

pub bits_70 : (place n : ℕ) → place ≤ 9 → n < 128 ^ (place + 1) → n < 2 ^ 70
bits_70 place n le lt = search (rules, pow-le-pow_right)

pub step_end : (bytes : List ℕ) (place sum : ℕ) → place < length bytes → get_or bytes place 0 < 128
    → spelling_from place sum (drop place bytes)
    ≡ Ok (record {
      sum = sum + (get_or bytes place 0 % 128) * 128 ^ place;
      last = get_or bytes place 0;
      len = place + 1;
    })
unfolding spelling_from
step_end bytes place sum lt low = grind (arith, common_steps, lt-ltb, at_drop_more)

pub step_on : (bytes : List ℕ) (place sum : ℕ) → place < length bytes → 128 ≤ get_or bytes place 0 → place < 9
    → spelling_from place sum (drop place bytes)
    ≡ spelling_from (place + 1) (sum + (get_or bytes place 0 % 128) * 128 ^ place) (drop (place + 1) bytes)
unfolding spelling_from
step_on bytes place sum lt high le = grind (arith, common_steps, at_drop_more, le-ltb, lt-ltb)

pub step_bad : (bytes : List ℕ) (place sum : ℕ) → place < length bytes → 128 ≤ get_or bytes place 0 → 9 ≤ place
    → spelling_from place sum (drop place bytes) ≡ Err BadNumber
unfolding spelling_from
step_bad bytes place sum lt high le = grind (arith, common_steps, at_drop_more, le-ltb)

pub step_cut : (bytes : List ℕ) (place sum : ℕ) → length bytes ≤ place
    → spelling_from place sum (drop place bytes) ≡ Err Cut
unfolding spelling_from
step_cut bytes place sum le = at_drop_all (spelling_from place sum) bytes place le

-- a difference of two numbers of at most 71 bits is computed as it is
difference : (s p : ℕ) → s < 2 ^ 71 → p < 2 ^ 71 → to_z w128 (of_z w128 (to_z w128 s -ℤ to_z w128 p)) ≡ pos s -ℤ pos p
difference s p small_s small_p = omega (arith, ints)

-- a power of 128 is taken off
pub taken_off : (s k : ℕ) → k ≤ 10 → s < 2 ^ 70
    → to_z w128 (of_z w128 (to_z w128 s -ℤ to_z w128 (1 * 2 ^ (7 * k) % 2 ^ 128))) ≡ pos s -ℤ pos (128 ^ k)
taken_off s k le lt = search (rules, one_shl, sevens, pow-le-pow_right, difference)

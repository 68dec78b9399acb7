-- Laws: reading the bytes of a LEB128 number from left to right agrees with the grammar: it gives the number that is
-- spelled, or the fault that the grammar names. So LEB128 numbers are formats.
use Rattle.std.proofs.Common.{◌≡◌, ℕ, ◌^◌, ◌<◌, ◌≤◌, Bool, true, false, cond, List, [], ◌∷◌, ◌++◌, length, drop, Result}
use Rattle.std.proofs.Common.{Ok, Err, refl, sym, ap, subst, ◌∙◌, inl, inr, arith, nat_lt, ℤ, pos, negsuc, lt-ltb}
use Rattle.std.proofs.Common.{ltb-true, drop_at, zero, suc, ◌+◌, ◌*◌, ◌%◌, take, All, ◌⊎◌}
use Rattle.std.proofs.lemmas.Int.{ints}
pub use Rattle.dw_forms.specs.declared.leb.NumberFault.{NumberFault}
use Rattle.dw_forms.specs.declared.leb.NumberFault.TheVariants.{Cut, BadNumber}
use Rattle.dw_forms.specs.Formats.{Format, format_of}
use Rattle.dw_forms.specs.Leb.{IsEnded, Uleb, Sleb, IsI64, unsigned_value, signed_value, LebFails, sum_from, last_of}
use Rattle.dw_forms.specs.Leb.{IsCut, IsUnending, HasValueOutside}
use Rattle.dw_forms.specs.LebReading.{spelling_at, uleb_at, sleb_at, fits_i64, signed_of, Spelling, spelling_from}
use Rattle.dw_forms.specs.Readers.{HasFront}
use Rattle.dw_forms.specs.Steps.{◌>>=◌}
use Rattle.std.proofs.lemmas.Bool.{le-ltb, cases_lt}
use Rattle.std.proofs.lemmas.List.Elements.{All-nil, All-cons, All-head, All-tail}

-- what is read of a text whose first byte has this place
abbrev read_of : ℕ → ℕ → List ℕ → Spelling
read_of place sum text = record { sum = sum + sum_from place text; last = last_of text; len = place + length text }

same_spelling : (a a' l l' n n' : ℕ) → a ≡ a' → l ≡ l' → n ≡ n'
    → ◌≡◌ {A = Spelling} (record { sum = a; last = l; len = n }) (record { sum = a'; last = l'; len = n' })
same_spelling a a' l l' n n' p q r = rw (p, q, r) refl

read_of-one : (b place sum : ℕ)
    → ◌≡◌ {A = Spelling} (record { sum = sum + (b % 128) * 128 ^ place; last = b; len = place + 1 })
    (read_of place sum (b ∷ []))
unfolding sum_from last_of
read_of-one b place sum = same_spelling _ _ _ _ _ _ (omega arith) refl refl

read_of-more : (b c : ℕ) (text : List ℕ) (place sum : ℕ)
    → read_of (place + 1) (sum + (b % 128) * 128 ^ place) (c ∷ text) ≡ read_of place sum (b ∷ c ∷ text)
unfolding sum_from last_of
read_of-more b c text place sum = same_spelling _ _ _ _ _ _ (omega arith) refl (omega arith)

-- a text that is ended is read whole, whatever follows
ended_again : (text rest : List ℕ) (place sum : ℕ) → IsEnded text → place + length text ≤ 10
    → spelling_from place sum (text ++ rest) ≡ Ok (read_of place sum text)
unfolding spelling_from
ended_again [] rest place sum ended short = absurd ended
ended_again (b ∷ []) rest place sum ended short = rw (lt-ltb b 128 ended) (ap Ok (read_of-one b place sum))
ended_again (b ∷ c ∷ text) rest place sum ended short =
    let le : place < 9 = omega arith in
    rw (le-ltb b 128 ended.0, lt-ltb place 9 le)
    (ended_again (c ∷ text) rest (place + 1) (sum + (b % 128) * 128 ^ place) ended.1 (omega arith)
    ∙ ap Ok (read_of-more b c text place sum))

-- ---- what is at the front of some bytes

-- a text of at most so many bytes that is ended is at the front
pub record HasEnded (most : ℕ) (bytes : List ℕ) : Type 0 where
  pub text : List ℕ
  pub rest : List ℕ
  pub parts : bytes ≡ text ++ rest
  pub ended : IsEnded text
  pub short : length text ≤ most

ended_more : (b : ℕ) (text : List ℕ) → 128 ≤ b → IsEnded text → IsEnded (b ∷ text)
ended_more b [] high ended = absurd ended
ended_more b (c ∷ text) high ended = (high, ended)

-- or there are fewer bytes than so many, each at least 128, or the first ones, so many, are each at least 128
pub ended_or_not : (most : ℕ) (bytes : List ℕ) → HasEnded most bytes
    ⊎ (((length bytes < most) × All (λ b. 128 ≤ b) bytes)
    ⊎ ((most ≤ length bytes) × All (λ b. 128 ≤ b) (take most bytes)))
ended_or_not zero bytes = inr (inr (omega arith, All-nil (λ b. 128 ≤ b)))
ended_or_not (suc most) [] = inr (inl (omega arith, All-nil (λ b. 128 ≤ b)))
ended_or_not (suc most) (b ∷ bytes) = elim (cases_lt b 128) [
  | inl low ↦ inl (record { text = b ∷ []; rest = bytes; parts = refl; ended = low; short = omega arith })
  | inr high ↦ elim (ended_or_not most bytes) [
    | inl f ↦ inl (record {
      text = b ∷ f.text;
      rest = f.rest;
      parts = ap (λ (t : List ℕ). b ∷ t) f.parts;
      ended = ended_more b f.text high f.ended;
      short = omega (arith, f.short);
    })
    | inr (inl (less, all)) ↦ inr (inl (omega (arith, less), All-cons (λ b. 128 ≤ b) b bytes high all))
    | inr (inr (long, all)) ↦ inr (inr (omega (arith, long), All-cons (λ b. 128 ≤ b) b (take most bytes) high all))
  ]
]

-- ---- from the first byte on

-- what is read of a text
abbrev pub whole_of : List ℕ → Spelling
whole_of text = record { sum = sum_from 0 text; last = last_of text; len = length text }

read_of-whole : (text : List ℕ) → read_of 0 0 text ≡ whole_of text
read_of-whole text = same_spelling _ _ _ _ _ _ (omega arith) refl (omega arith)

pub whole_again : (text rest : List ℕ) → IsEnded text → length text ≤ 10
    → spelling_at (text ++ rest) ≡ Ok (whole_of text)
whole_again text rest ended short = ended_again text rest 0 0 ended (omega arith) ∙ ap Ok (read_of-whole text)

-- ---- where no number is spelled

cut_from : (bytes : List ℕ) (place sum : ℕ) → place + length bytes < 10 → All (λ b. 128 ≤ b) bytes
    → spelling_from place sum bytes ≡ Err Cut
unfolding spelling_from
cut_from [] place sum short high = refl
cut_from (b ∷ bytes) place sum short high =
    rw (le-ltb b 128 (All-head (λ b. 128 ≤ b) b bytes high), lt-ltb place 9 (omega arith))
    (cut_from bytes (place + 1) _ (omega arith) (All-tail (λ b. 128 ≤ b) b bytes high))

unending_from : (n : ℕ) (bytes : List ℕ) (place sum : ℕ) → place + suc n ≡ 10 → suc n ≤ length bytes
    → All (λ b. 128 ≤ b) (take (suc n) bytes) → spelling_from place sum bytes ≡ Err BadNumber
unfolding spelling_from
unending_from n [] place sum e long high = absurd (omega arith)
unending_from zero (b ∷ bytes) place sum e long high =
    rw (le-ltb b 128 (All-head (λ b. 128 ≤ b) b [] high), le-ltb place 9 (omega arith)) refl
unending_from (suc n) (b ∷ bytes) place sum e long high =
    rw (le-ltb b 128 (All-head (λ b. 128 ≤ b) b (take (suc n) bytes) high), lt-ltb place 9 (omega arith))
    (unending_from n bytes (place + 1) _ (omega arith) (omega arith)
    (All-tail (λ b. 128 ≤ b) b (take (suc n) bytes) high))

pub cut_at : (bytes : List ℕ) → IsCut bytes → spelling_at bytes ≡ Err Cut
cut_at bytes c = cut_from bytes 0 0 (let h = c.short in omega arith) c.open_ended

pub unending_at : (bytes : List ℕ) → IsUnending bytes → spelling_at bytes ≡ Err BadNumber
unending_at bytes u = unending_from 9 bytes 0 0 (omega arith) (let h = u.long in omega arith) u.open_ended

pub outside_at : (Fits : List ℕ → Type 0) (bytes : List ℕ) (h : HasValueOutside Fits bytes)
    → spelling_at bytes ≡ Ok (whole_of h.text)
outside_at Fits bytes h = ap spelling_at h.parts ∙ whole_again h.text h.rest h.ended h.short

-- numbers that are made of what is read of a text, where this fits
pub record Numbers (V : Type 0) : Type 1 where
  pub Spells : List ℕ → V → Type 0
  pub Fits : List ℕ → Type 0
  pub at : List ℕ → Result (V × ℕ) NumberFault
  pub value : Spelling → V
  pub fits : Spelling → Bool
  pub at_is : (bytes : List ℕ)
      → at bytes ≡ (spelling_at bytes >>= λ s. cond (fits s) (Ok (value s, s.len)) (Err BadNumber))
  pub spelled : (text : List ℕ) → IsEnded text → length text ≤ 10 → Fits text → Spells text (value (whole_of text))
  pub parts : (text : List ℕ) (v : V) → Spells text v → IsEnded text × (length text ≤ 10) × Fits text
      × (value (whole_of text) ≡ v)
  pub passes : (text : List ℕ) → Fits text → fits (whole_of text) ≡ true
  pub passed : (text : List ℕ) → fits (whole_of text) ≡ true → Fits text

-- a number and the bytes after it
abbrev pub number_after : {V : Type 0} → List ℕ → Result (V × ℕ) NumberFault → Result (V × List ℕ) NumberFault
number_after bytes (Ok r) = Ok (r.0, drop r.1 bytes)
number_after bytes (Err f) = Err f

module _ {V : Type 0} (n : Numbers V) where
  pub number_again : (text rest : List ℕ) (v : V) → n.Spells text v → n.at (text ++ rest) ≡ Ok (v, length text)
  number_again text rest v s =
      let p = n.parts text v s in
      rw (n.at_is (text ++ rest), whole_again text rest p.0 p.1, n.passes text p.2, p.3) refl

  misfits : (text : List ℕ) (b : Bool) → n.fits (whole_of text) ≡ b → (n.Fits text → ⊥)
      → n.fits (whole_of text) ≡ false
  misfits text true e outside = absurd (outside (n.passed text e))
  misfits text false e outside = e

  number_refuses : (bytes : List ℕ) (f : NumberFault) → LebFails n.Fits bytes f → n.at bytes ≡ Err f
  number_refuses bytes Cut c = rw (n.at_is bytes, cut_at bytes c) refl
  number_refuses bytes BadNumber (inl u) = rw (n.at_is bytes, unending_at bytes u) refl
  number_refuses bytes BadNumber (inr h) =
      rw (n.at_is bytes, outside_at n.Fits bytes h, misfits h.text (n.fits (whole_of h.text)) refl h.outside) refl

  abbrev IsAnswered : List ℕ → Type 0
  IsAnswered = HasFront n.Spells (LebFails n.Fits)

  by_value : (bytes : List ℕ) (t : HasEnded 10 bytes) (b : Bool) → n.fits (whole_of t.text) ≡ b → IsAnswered bytes
  by_value bytes t true e = inl (
    n.value (whole_of t.text),
    t.rest,
    record {
      text = t.text;
      parts = t.parts;
      spelled = n.spelled t.text t.ended t.short (n.passed t.text e);
    },
  )
  by_value bytes t false e = inr (
    BadNumber,
    inr (record {
      text = t.text;
      rest = t.rest;
      parts = t.parts;
      ended = t.ended;
      short = t.short;
      outside = λ fit. let no : true ≡ false = sym (n.passes t.text fit) ∙ e in absurd cc;
    }),
  )

  pub answered : (bytes : List ℕ) → IsAnswered bytes
  answered bytes = elim (ended_or_not 10 bytes) [
    | inl t ↦ by_value bytes t (n.fits (whole_of t.text)) refl
    | inr (inl cut) ↦ inr (Cut, record { short = cut.0; open_ended = cut.1 })
    | inr (inr long) ↦ inr (BadNumber, inl (record { long = long.0; open_ended = long.1 }))
  ]

  pub after_again : (text rest : List ℕ) (v : V) → n.Spells text v
      → number_after (text ++ rest) (n.at (text ++ rest)) ≡ Ok (v, rest)
  after_again text rest v s = rw (number_again text rest v s, drop_at text rest (length text) refl) refl

  pub after_refuses : (bytes : List ℕ) (f : NumberFault) → LebFails n.Fits bytes f
      → number_after bytes (n.at bytes) ≡ Err f
  after_refuses bytes f h = ap (number_after bytes) (number_refuses bytes f h)

  -- these numbers as a format
  abbrev pub leb : Format V NumberFault
  leb =
      format_of (λ bytes. number_after bytes (n.at bytes)) n.Spells (LebFails n.Fits) after_again after_refuses answered

-- ---- unsigned numbers

pub uleb_is : (bytes : List ℕ)
    → uleb_at bytes ≡ (spelling_at bytes >>= λ s. cond (nat_lt s.sum (2 ^ 64)) (Ok (s.sum, s.len)) (Err BadNumber))
unfolding uleb_at
uleb_is bytes = refl

-- the unsigned numbers of 64 bits
abbrev pub unsigned : Numbers ℕ
unsigned = record {
  Spells = Uleb;
  Fits = λ text. unsigned_value text < 2 ^ 64;
  at = uleb_at;
  value = λ s. s.sum;
  fits = λ s. nat_lt s.sum (2 ^ 64);
  at_is = uleb_is;
  spelled = λ text ended short fits. record { ended = ended; short = short; value = refl; fits = fits };
  parts = λ text n u. (u.ended, u.short, subst (λ (m : ℕ). m < 2 ^ 64) u.value u.fits, sym u.value);
  passes = λ text fits. lt-ltb (unsigned_value text) (2 ^ 64) fits;
  passed = λ text e. ltb-true (unsigned_value text) (2 ^ 64) e;
}

-- ---- signed numbers

pub fits_is : (z : ℤ) → fits_i64 z ≡ true → IsI64 z
fits_is (pos n) e = let lt = ltb-true _ _ e in record { low = omega (arith, ints); high = omega (arith, ints) }
fits_is (negsuc n) e = let lt = ltb-true _ _ e in record { low = omega (arith, ints); high = omega (arith, ints) }

pub is_fits : (z : ℤ) → IsI64 z → fits_i64 z ≡ true
is_fits (pos n) i = let h = i.high in lt-ltb _ _ (omega (arith, ints))
is_fits (negsuc n) i = let h = i.low in lt-ltb _ _ (omega (arith, ints))

pub sleb_is : (bytes : List ℕ)
    → sleb_at bytes
    ≡ (spelling_at bytes >>= λ s. cond (fits_i64 (signed_of s)) (Ok (signed_of s, s.len)) (Err BadNumber))
unfolding sleb_at
sleb_is bytes = refl

-- the signed numbers of 64 bits
abbrev pub signed : Numbers ℤ
signed = record {
  Spells = Sleb;
  Fits = λ text. IsI64 (signed_value text);
  at = sleb_at;
  value = signed_of;
  fits = λ s. fits_i64 (signed_of s);
  at_is = sleb_is;
  spelled = λ text ended short fits. record { ended = ended; short = short; value = refl; fits = fits };
  parts = λ text n u. (u.ended, u.short, subst IsI64 u.value u.fits, sym u.value);
  passes = λ text fits. is_fits (signed_value text) fits;
  passed = λ text e. fits_is (signed_value text) e;
}

-- a number has some bytes
ended_some : (text : List ℕ) → IsEnded text → 0 < length text
ended_some [] h = absurd h
ended_some (b ∷ text) h = omega arith

pub uleb_some : (text : List ℕ) (n : ℕ) → Uleb text n → 0 < length text
uleb_some text n u = ended_some text u.ended

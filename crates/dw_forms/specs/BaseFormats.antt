-- Chapter: the formats that others are made of: one byte, so many bytes, a number of so many bytes, text up to a zero
-- byte, and LEB128 numbers.
use Rattle.std.proofs.Common.{◌≡◌, ℕ, zero, suc, ◌<◌, false, cond, ltb, List, [], ◌∷◌, ◌++◌, length, take, drop, Result}
use Rattle.std.proofs.Common.{Ok, Err, refl, sym, ap, ◌∙◌, inl, inr, All, append_assoc, arith, MatchResult, ℤ, take_at}
use Rattle.std.proofs.Common.{drop_at, take-append-drop, length-take, length-append}
use Rattle.byteorder.specs.Endian.{little_number}
use Rattle.std.proofs.lemmas.Bool.{lt-ltb, le-ltb, cases_lt}
use Rattle.std.proofs.lemmas.List.Elements.{All-nil, All-cons, All-head, All-tail}
use Rattle.dw_forms.specs.Formats.{Format, format_of, mapped, renamed}
use Rattle.dw_forms.specs.Front.{Takes}
use Rattle.dw_forms.specs.LebLaws.{leb, unsigned, signed, NumberFault}
use Rattle.dw_forms.specs.declared.leb.NumberFault.TheVariants as faults
use Rattle.dw_forms.specs.Readers.{HasFront}
use Rattle.dw_forms.specs.Steps.{◌>>=◌}

-- ---- one byte

-- the first byte, and the bytes after it
abbrev pub byte_at : {E : Type 0} → E → List ℕ → Result (ℕ × List ℕ) E
byte_at cut [] = Err cut
byte_at cut (b ∷ rest) = Ok (b, rest)

pub byte_says : {E : Type 0} (cut : E) (bytes : List ℕ)
    → MatchResult (byte_at cut bytes) (λ (x : ℕ × List ℕ). Takes (λ text b. text ≡ b ∷ []) bytes x.0 x.1)
    (λ e. (bytes ≡ []) × (cut ≡ e))
byte_says cut [] = (refl, refl)
byte_says cut (b ∷ rest) = record { text = b ∷ []; parts = refl; spelled = refl }

-- one byte, or this fault where there is none
abbrev pub byte : {E : Type 0} → E → Format ℕ E
byte {E} cut = record {
  read = byte_at cut;
  Spells = λ bytes b. bytes ≡ b ∷ [];
  Fails = λ bytes e. (bytes ≡ []) × (cut ≡ e);
  is_reader = record {
    says = byte_says cut;
    again = λ text rest b s. ap (λ (t : List ℕ). byte_at cut (t ++ rest)) s;
  };
  refuses = λ bytes e h. ap (byte_at cut) h.0 ∙ ap (λ (x : E). Err x) h.1;
}

-- ---- so many bytes

-- so many bytes, and no others
pub record Exactly (size : ℕ) (bytes content : List ℕ) : Type 0 where
  pub same : bytes ≡ content
  pub wide : length content ≡ size

-- the first bytes, so many, and those after them
unfoldable pub taken_at : {E : Type 0} → E → ℕ → List ℕ → Result (List ℕ × List ℕ) E
taken_at cut size bytes = cond (ltb (length bytes) size) (Err cut) (Ok (take size bytes, drop size bytes))

-- there are fewer bytes than so many
abbrev pub IsTooShort : {E : Type 0} → E → ℕ → List ℕ → E → Type 0
IsTooShort cut size bytes e = (length bytes < size) × (e ≡ cut)

module _ {E : Type 0} (cut : E) (size : ℕ) where
  pub taken_front : (bytes : List ℕ) → HasFront (Exactly size) (IsTooShort cut size) bytes
  taken_front bytes = elim (cases_lt (length bytes) size) [
    | inl short ↦ inr (cut, (short, refl))
    | inr long ↦ inl (
      take size bytes,
      drop size bytes,
      record {
        text = take size bytes;
        parts = sym (take-append-drop size bytes);
        spelled = record { same = refl; wide = omega (arith, long, length-take size bytes) };
      },
    )
  ]

  pub taken_again : (text rest content : List ℕ) → Exactly size text content
      → taken_at cut size (text ++ rest) ≡ Ok (content, rest)
  unfolding taken_at
  taken_again text rest content e =
      let wide : length text ≡ size = ap length e.same ∙ e.wide in
      let long : ltb (length (text ++ rest)) size ≡ false = le-ltb _ _ (omega (arith, length-append text rest)) in
      rw (long, take_at text rest size wide, drop_at text rest size wide, e.same) refl

  pub taken_refuses : (bytes : List ℕ) (e : E) → IsTooShort cut size bytes e → taken_at cut size bytes ≡ Err e
  unfolding taken_at
  taken_refuses bytes e h = rw (lt-ltb _ _ h.0, h.1) refl

  -- so many bytes, or this fault where there are fewer
  abbrev pub so_many : Format (List ℕ) E
  so_many = format_of (taken_at cut size) (Exactly size) (IsTooShort cut size) taken_again taken_refuses taken_front

  -- a number of so many bytes, lowest first
  abbrev pub fixed_number : Format ℕ E
  fixed_number = mapped (little_number size) so_many

-- ---- text

-- the bytes before a zero byte, none of them zero
pub record Ended (bytes content : List ℕ) : Type 0 where
  pub parts : bytes ≡ content ++ 0 ∷ []
  pub none_before : All (λ byte. 0 < byte) content

-- the bytes before the first zero byte, and those after it
unfoldable pub null_terminated_at : {E : Type 0} → E → List ℕ → Result (List ℕ × List ℕ) E
null_terminated_at cut [] = Err cut
null_terminated_at cut (zero ∷ bytes) = Ok ([], bytes)
null_terminated_at cut (suc byte ∷ bytes) = null_terminated_at cut bytes >>= λ t. Ok (suc byte ∷ t.0, t.1)

-- no zero byte ends the text
abbrev pub TextFails : {E : Type 0} → E → List ℕ → E → Type 0
TextFails cut bytes e = All (λ byte. 0 < byte) bytes × (e ≡ cut)

module _ {E : Type 0} (cut : E) where
  text_takes : (b : ℕ) (bytes content rest : List ℕ) → Takes Ended bytes content rest
      → Takes Ended (suc b ∷ bytes) (suc b ∷ content) rest
  text_takes b bytes content rest t = record {
    text = suc b ∷ t.text;
    parts = ap (λ (r : List ℕ). suc b ∷ r) t.parts;
    spelled = record {
      parts = ap (λ (r : List ℕ). suc b ∷ r) t.spelled.parts;
      none_before = All-cons (λ c. 0 < c) (suc b) content (omega arith) t.spelled.none_before;
    };
  }

  pub text_front : (bytes : List ℕ) → HasFront Ended (TextFails cut) bytes
  text_front [] = inr (cut, (All-nil (λ b. 0 < b), refl))
  text_front (zero ∷ bytes) = inl (
    [],
    bytes,
    record {
      text = 0 ∷ [];
      parts = refl;
      spelled = record { parts = refl; none_before = All-nil (λ b. 0 < b) };
    },
  )
  text_front (suc b ∷ bytes) = elim (text_front bytes) [
    | inl (content, rest, t) ↦ inl (suc b ∷ content, rest, text_takes b bytes content rest t)
    | inr (e, h) ↦ inr (e, (All-cons (λ c. 0 < c) (suc b) bytes (omega arith) h.0, h.1))
  ]

  ended_again : (content rest : List ℕ) → All (λ b. 0 < b) content
      → null_terminated_at cut (content ++ (0 ∷ rest)) ≡ Ok (content, rest)
  unfolding null_terminated_at
  ended_again [] rest h = refl
  ended_again (zero ∷ content) rest h = absurd (omega (arith, All-head (λ b. 0 < b) zero content h))
  ended_again (suc b ∷ content) rest h =
      rw (ended_again content rest (All-tail (λ b. 0 < b) (suc b) content h)) refl

  pub text_again : (text rest content : List ℕ) → Ended text content
      → null_terminated_at cut (text ++ rest) ≡ Ok (content, rest)
  text_again text rest content e =
      ap (λ (t : List ℕ). null_terminated_at cut (t ++ rest)) e.parts
      ∙ ap (null_terminated_at cut) (append_assoc content (0 ∷ []) rest) ∙ ended_again content rest e.none_before

  endless : (bytes : List ℕ) → All (λ byte. 0 < byte) bytes → null_terminated_at cut bytes ≡ Err cut
  unfolding null_terminated_at
  endless [] h = refl
  endless (zero ∷ bytes) h = absurd (omega (arith, All-head (λ b. 0 < b) zero bytes h))
  endless (suc b ∷ bytes) h = rw (endless bytes (All-tail (λ b. 0 < b) (suc b) bytes h)) refl

  pub text_refuses : (bytes : List ℕ) (e : E) → TextFails cut bytes e → null_terminated_at cut bytes ≡ Err e
  text_refuses bytes e h = endless bytes h.0 ∙ ap (λ (x : E). Err x) (sym h.1)

  -- bytes up to a zero byte, or this fault where none is zero
  abbrev pub zero_ended : Format (List ℕ) E
  zero_ended = format_of (null_terminated_at cut) Ended (TextFails cut) text_again text_refuses text_front

-- ---- numbers

-- an unsigned LEB128 number
abbrev pub uleb : Format ℕ NumberFault
uleb = leb unsigned

-- a signed LEB128 number
abbrev pub sleb : Format ℤ NumberFault
sleb = leb signed

-- the fault of a number that the bytes end in, or that has more than 10 bytes or more than 64 bits
abbrev pub number_fault : {E : Type 0} → E → E → NumberFault → E
number_fault cut long faults.Cut = cut
number_fault cut long faults.BadNumber = long

-- an unsigned LEB128 number, or one of these faults
abbrev pub uleb_or : {E : Type 0} → E → E → Format ℕ E
uleb_or cut long = renamed (λ bytes. number_fault cut long) uleb

-- a signed LEB128 number, or one of these faults
abbrev pub sleb_or : {E : Type 0} → E → E → Format ℤ E
sleb_or cut long = renamed (λ bytes. number_fault cut long) sleb

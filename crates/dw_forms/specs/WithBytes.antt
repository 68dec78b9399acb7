-- Chapter: formats whose values keep their bytes, and what holds of each format.
use Rattle.std.proofs.Common.{◌≡◌, ℕ, ◌-◌, List, ◌++◌, length, take, Result, Ok, Err, refl, sym, ap, ◌∙◌, arith}
use Rattle.std.proofs.Common.{length-append, take_at, MatchResult}
use mathlib.Core.Logic.{∥∥₁_elim}
use Rattle.std.proofs.lemmas.Result.{MatchResult-weaker}
use Rattle.dw_forms.specs.Formats.{Format}
use Rattle.dw_forms.specs.Front.{Takes}
use Rattle.dw_forms.specs.Readers.{not_both, takes, reader_fails, reads_on}
use Rattle.dw_forms.specs.StepLaws.{bind_says}
use Rattle.dw_forms.specs.Steps.{◌>>=◌}

-- the value of a step that did not fail
pub bind_ok : {A B E : Type 0} (r : Result A E) (f : A → Result B E) (y : B) → (r >>= f) ≡ Ok y → (x : A) × (r ≡ Ok x)
    × (f x ≡ Ok y)
bind_ok (Ok x) f y e = (x, refl, e)
bind_ok (Err d) f y e = absurd cc

-- equal readings have equal values and leave equal bytes
pub ok_pair : {A E : Type 0} (i j : A) (x y : List ℕ) → ◌≡◌ {A = Result (A × List ℕ) E} (Ok (i, x)) (Ok (j, y))
    → (i ≡ j) × (x ≡ y)
ok_pair {A} {E} i j x y e = let p : ◌≡◌ {A = A × List ℕ} (i, x) (j, y) = cc in
    (ap (λ (q : A × List ℕ). q.0) p, ap (λ (q : A × List ℕ). q.1) p)

module _ {V E : Type 0} (f : Format V E) where
  -- ---- a value and its bytes

  -- these bytes spell the value
  abbrev pub SpellsWith : List ℕ → V × List ℕ → Type 0
  SpellsWith bytes v = f.Spells bytes v.0 × (bytes ≡ v.1)

  abbrev pub with_front : List ℕ → V × List ℕ → Result ((V × List ℕ) × List ℕ) E
  with_front bytes x = Ok ((x.0, take (length bytes - length x.1) bytes), x.1)

  front : (bytes text rest : List ℕ) → bytes ≡ text ++ rest → text ≡ take (length bytes - length rest) bytes
  front bytes text rest parts =
      let long : length text ≡ length bytes - length rest = omega (arith, ap length parts, length-append text rest) in
      sym (ap (take (length bytes - length rest)) parts ∙ take_at text rest (length bytes - length rest) long)

  pub with_says : (bytes : List ℕ)
      → MatchResult (f.read bytes >>= with_front bytes)
      (λ (y : (V × List ℕ) × List ℕ). Takes SpellsWith bytes y.0 y.1) (f.Fails bytes)
  with_says bytes =
      bind_says (f.read bytes) (with_front bytes) (λ (x : V × List ℕ). Takes f.Spells bytes x.0 x.1) (f.Fails bytes)
      (λ (y : (V × List ℕ) × List ℕ). Takes SpellsWith bytes y.0 y.1) (f.Fails bytes) (f.is_reader.says bytes)
      (λ x t. record { text = t.text; parts = t.parts; spelled = (t.spelled, front bytes t.text x.1 t.parts) })
      (λ e h. h)

  pub with_again : (text rest : List ℕ) (v : V × List ℕ) → SpellsWith text v
      → (f.read (text ++ rest) >>= with_front (text ++ rest)) ≡ Ok (v, rest)
  with_again text rest v s =
      let whole = front (text ++ rest) text rest refl in
      rw (f.is_reader.again text rest v.0 s.0, ← whole, s.1) refl

  -- a value, and the bytes that spell it
  abbrev pub with_bytes : Format (V × List ℕ) E
  with_bytes = record {
    read = λ bytes. f.read bytes >>= with_front bytes;
    Spells = SpellsWith;
    Fails = f.Fails;
    is_reader = record { says = with_says; again = with_again };
    refuses = λ bytes e h. ap (λ (r : Result (V × List ℕ) E). r >>= with_front bytes) (f.refuses bytes e h);
  }

  -- ---- no telling how

  -- the same values, where nothing tells how one is spelled
  abbrev pub squashed : ((x y : Result (V × List ℕ) E) (p q : x ≡ y) → p ≡ q) → Format V E
  squashed set = record {
    read = f.read;
    Spells = λ bytes v. ∥ f.Spells bytes v ∥₁;
    Fails = f.Fails;
    is_reader = record {
      says = λ bytes. MatchResult-weaker (f.read bytes) (f.is_reader.says bytes)
          (λ (x : V × List ℕ) t. record { text = t.text; parts = t.parts; spelled = ∣ t.spelled ∣₁ }) (λ e h. h);
      again = λ text rest v s. ∥∥₁_elim s (set _ _) (λ t. f.is_reader.again text rest v t);
    };
    refuses = f.refuses;
  }

  -- ---- what holds of each format

  -- what is read is spelled
  pub read_takes : (bytes : List ℕ) (v : V) (rest : List ℕ) → f.read bytes ≡ Ok (v, rest) → Takes f.Spells bytes v rest
  read_takes = takes f.read f.Spells f.Fails f.is_reader

  -- where nothing is read, this is the fault
  pub read_fails : (bytes : List ℕ) (e : E) → f.read bytes ≡ Err e → f.Fails bytes e
  read_fails = reader_fails f.read f.Spells f.Fails f.is_reader

  -- a value or a fault, and never both
  pub value_or_fault : (bytes : List ℕ) (v : V) (rest : List ℕ) (e : E) → Takes f.Spells bytes v rest
      → f.Fails bytes e → ⊥
  value_or_fault bytes v rest e t h =
      not_both (sym (f.refuses bytes e h) ∙ reads_on f.read f.Spells f.Fails f.is_reader bytes v rest t)

  -- bytes begin with one value at most, and go on in one way
  pub one_value : (a b x y : List ℕ) (v w : V) → f.Spells a v → f.Spells b w → a ++ x ≡ b ++ y → (v ≡ w) × (x ≡ y)
  one_value a b x y v w s t e =
      ok_pair v w x y (sym (f.is_reader.again a x v s) ∙ ap f.read e ∙ f.is_reader.again b y w t)

-- Chapter: formats that repeat: so many values, values up to an end; and how many bytes a value takes.
use Rattle.std.proofs.Common.{◌≡◌, ℕ, zero, suc, ◌-◌, List, [], ◌∷◌, ◌++◌, length, Option, Result, Ok, refl, ap}
use Rattle.std.proofs.Common.{arith}
use Rattle.std.specs.Prelude.{MatchResult}
use Rattle.std.proofs.lemmas.List.{length-append}
use Rattle.dw_forms.specs.Formats.{Format, and_then, nothing, failing, mapped, found}
use Rattle.dw_forms.specs.Front.{Takes}
use Rattle.dw_forms.specs.StepLaws.{bind_says}
use Rattle.dw_forms.specs.Steps.{◌>>=◌}

-- so many values
unfoldable pub times : {X E : Type 0} → ℕ → Format X E → Format (List X) E
times zero value = nothing []
times (suc count) value = and_then value (λ x. mapped (λ xs. x ∷ xs) (times count value))

-- values up to an end, which are fewer than this bound
unfoldable pub up_to_end : {X E : Type 0} → ℕ → E → Format (Option X) E → Format (List X) E
up_to_end zero cut next = failing cut
up_to_end (suc bound) cut next = and_then next (λ o. found o (nothing []) (λ x.
    mapped (λ xs. x ∷ xs) (up_to_end bound cut next)))

module _ {A E : Type 0} (f : Format A E) where
  -- the value is spelled, by so many bytes
  abbrev pub SpellsSized : List ℕ → A × ℕ → Type 0
  SpellsSized bytes x = f.Spells bytes x.0 × (x.1 ≡ length bytes)

  abbrev pub sized_at : List ℕ → Result ((A × ℕ) × List ℕ) E
  sized_at bytes = f.read bytes >>= λ x. Ok ((x.0, length bytes - length x.1), x.1)

  taken : (bytes : List ℕ) (a : A) (rest : List ℕ) → Takes f.Spells bytes a rest
      → Takes SpellsSized bytes (a, length bytes - length rest) rest
  taken bytes a rest t = record {
    text = t.text;
    parts = t.parts;
    spelled = (t.spelled, omega (arith, ap length t.parts, length-append t.text rest));
  }

  pub sized_says : (bytes : List ℕ)
      → MatchResult (sized_at bytes) (λ (y : (A × ℕ) × List ℕ). Takes SpellsSized bytes y.0 y.1) (f.Fails bytes)
  sized_says bytes =
      bind_says (f.read bytes) (λ x. Ok ((x.0, length bytes - length x.1), x.1))
      (λ (x : A × List ℕ). Takes f.Spells bytes x.0 x.1) (f.Fails bytes)
      (λ (y : (A × ℕ) × List ℕ). Takes SpellsSized bytes y.0 y.1) (f.Fails bytes)
      (f.is_reader.says bytes) (λ x t. taken bytes x.0 x.1 t) (λ e h. h)

  pub sized_again : (text rest : List ℕ) (x : A × ℕ) → SpellsSized text x → sized_at (text ++ rest) ≡ Ok (x, rest)
  sized_again text rest x s =
      let long : length (text ++ rest) - length rest ≡ x.1 = omega (arith, length-append text rest, s.1) in
      rw (f.is_reader.again text rest x.0 s.0, long) refl

  -- a value, and how many bytes it takes
  abbrev pub sized : Format (A × ℕ) E
  sized = record {
    read = sized_at;
    Spells = SpellsSized;
    Fails = f.Fails;
    is_reader = record { says = sized_says; again = sized_again };
    refuses = λ bytes e h. ap (λ (r : Result (A × List ℕ) E). r >>= λ x. Ok ((x.0, length bytes - length x.1), x.1))
        (f.refuses bytes e h);
  }

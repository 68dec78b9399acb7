-- The text before the first zero byte.
use Rattle.std.proofs.Common.{rules, ◌≡◌, ◌≢◌, ℕ, zero, suc, ◌+◌, ◌<◌, List, [], ◌∷◌, length, get_or, take, drop, Ok, Err, refl, arith, length-take-le}
use Rattle.std.proofs.Math.Numerals.{add-one}
use Rattle.dw_forms.specs.BaseFormats.{null_terminated_at}

module _ {E : Type 0} (cut : E) where
  pub text_none : (bytes : List ℕ) → ((j : ℕ) → j < length bytes → get_or bytes j 0 ≢ 0)
      → null_terminated_at cut bytes ≡ Err cut
  unfolding null_terminated_at
  text_none [] h = refl
  text_none (zero ∷ bytes) h = absurd (h 0 (omega arith) refl)
  text_none (suc b ∷ bytes) h = rw (text_none bytes (λ j lt. h (suc j) (omega arith))) refl

  pub text_found : (bytes : List ℕ) (k : ℕ) → k < length bytes → ((j : ℕ) → j < k → get_or bytes j 0 ≢ 0)
      → get_or bytes k 0 ≡ 0 → null_terminated_at cut bytes ≡ Ok (take k bytes, drop (suc k) bytes)
  unfolding null_terminated_at
  text_found [] k lt before here = absurd (omega arith)
  text_found (zero ∷ bytes) zero lt before here = refl
  text_found (zero ∷ bytes) (suc k) lt before here = absurd (before 0 (omega arith) refl)
  text_found (suc b ∷ bytes) zero lt before here = absurd (omega arith)
  text_found (suc b ∷ bytes) (suc k) lt before here =
      rw (text_found bytes k (omega arith) (λ j lt'. before (suc j) (omega arith)) here) refl

  pub text_taken : (bytes : List ℕ) (k : ℕ) → k < length bytes → ((j : ℕ) → j < k → get_or bytes j 0 ≢ 0)
      → get_or bytes k 0 ≡ 0
      → null_terminated_at cut bytes ≡ Ok (take k bytes, drop (length (take k bytes) + 1) bytes)
  text_taken bytes k lt before here = search (rules, length-take-le, add-one, text_found)

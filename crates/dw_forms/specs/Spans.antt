-- Laws: how many bytes the values of a format take, and what holds of the values, from the parts of the format.
use Rattle.std.proofs.Common.{◌≡◌, ℕ, ◌+◌, Bool, true, false, List, length, sym, ap, subst, arith, length-append}
use Rattle.dw_forms.specs.Formats.{Format, and_then, nothing, failing, mapped, choose, tested, tested_is}

-- after so many bytes, each value ends at this place, and this holds of it
pub record Spans {V E : Type 0} (f : Format V E) (before : ℕ) (end : V → ℕ) (P : V → Type 0) : Type 0 where
  pub of : (text : List ℕ) (v : V) → f.Spells text v → (before + length text ≡ end v) × P v

module _ {A B E : Type 0} where
  pub spans_then : {f : Format A E} {g : A → Format B E} {size before : ℕ} {end : B → ℕ} {P : A → Type 0}
      {Q : B → Type 0} → Spans f 0 (λ a. size) P → ((a : A) → P a → Spans (g a) (before + size) end Q)
      → Spans (and_then f g) before end Q
  spans_then first second = record {
    of = λ text b s.
        let (one, p) = first.of s.first s.value s.is_first in
        let (two, q) = (second s.value p).of s.second b s.is_second in
        (omega (arith, one, two, ap length s.parts, length-append s.first s.second), q);
  }

  pub spans_mapped : {k : A → B} {f : Format A E} {before : ℕ} {end : B → ℕ} {Q : B → Type 0}
      → Spans f before (λ a. end (k a)) (λ a. Q (k a)) → Spans (mapped k f) before end Q
  spans_mapped {before = before} {end = end} {Q = Q} h = record {
    of = λ text b s. subst (λ (b : B). (before + length text ≡ end b) × Q b) (sym s.2) (h.of text s.0 s.1);
  }

module _ {V E : Type 0} where
  -- a value that ends a format
  pub spans_end : {f : Format V E} {size before : ℕ} {end : V → ℕ} {P Q : V → Type 0} → Spans f 0 (λ v. size) P
      → ((v : V) → P v → (before + size ≡ end v) × Q v) → Spans f before end Q
  spans_end h then = record {
    of = λ text v s.
        let (one, p) = h.of text v s in
        let (two, q) = then v p in
        (omega (arith, one, two), q);
  }

  pub spans_nothing : {value : V} {before : ℕ} {end : V → ℕ} {Q : V → Type 0} → before ≡ end value → Q value
      → Spans (nothing {E = E} value) before end Q
  spans_nothing {before = before} {end = end} {Q = Q} here q = record {
    of = λ text v s.
        let none : length text ≡ 0 = ap length s.0 in
        subst (λ (w : V). (before + length text ≡ end w) × Q w) (sym s.1) (omega (arith, here, none), q);
  }

  pub spans_failing : {wrong : E} {before : ℕ} {end : V → ℕ} {Q : V → Type 0}
      → Spans (failing {A = V} wrong) before end Q
  spans_failing = record { of = λ text v s. absurd s }

  pub spans_choose : (b : Bool) {f g : Format V E} {before : ℕ} {end : V → ℕ} {Q : V → Type 0} → Spans f before end Q
      → Spans g before end Q → Spans (choose b f g) before end Q
  spans_choose true one two = one
  spans_choose false one two = two

  pub spans_tested : {test : V → Bool} (wrong : E) {f : Format V E} {size : ℕ} {P Q : V → Type 0}
      → Spans f 0 (λ v. size) P → ((v : V) → test v ≡ true → Q v) → Spans (tested test wrong f) 0 (λ v. size) Q
  spans_tested {test = test} wrong {f = f} h passes = record {
    of = λ text v s.
        let (spelled, good) = tested_is test wrong f text v s in ((h.of text v spelled).0, passes v good);
  }

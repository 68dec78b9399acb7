-- Strings of a section, by where its last zero byte is.
use Rattle.std.proofs.Common.{◌≡◌, ◌≢◌, ℕ, suc, ◌+◌, ◌-◌, ◌<◌, ◌≤◌, ◌==◌, List, length, drop, get_or}
use Rattle.std.proofs.Common.{Ok, Err, Bool, true, false, arith, length-drop, sym, ap, ◌∙◌}
use Rattle.std.specs.List.{before_first, position_or_len}
use Rattle.std.proofs.lemmas.List.{get_or-drop}
use Rattle.std.proofs.lemmas.List.Sums.{passes_at_first, fails_before_first}
use Rattle.std.proofs.lemmas.Bool.{eqb-true, eq-eqb}
use Rattle.dw_forms.proofs.Texts.{text_none, text_found}
use Rattle.dw_forms.specs.BaseFormats.{null_terminated_at}
use Rattle.dw_elf.specs.Elf.{IsAfterLastZero}

module _ {E : Type 0} (cut : E) where
  -- a zero byte ends what is before the first of them
  zero_found : (bytes : List ℕ) (j : ℕ) → j < length bytes → get_or bytes j 0 ≡ 0
      → null_terminated_at cut bytes
      ≡ Ok (before_first (λ b. b == 0) bytes, drop (suc (position_or_len (λ b. b == 0) bytes)) bytes)
  zero_found bytes j lt here =
      let at = position_or_len (λ b. b == 0) bytes in
      let before : (k : ℕ) → k < at → get_or bytes k 0 ≢ 0 =
      λ k less is. not-both (eq-eqb _ _ is) (fails_before_first (λ b. b == 0) bytes k 0 less) in
      let first : at ≤ j = not-lt-le (λ less. before j less here) in
      text_found cut bytes at (omega (arith, first, lt)) before
      (eqb-true _ _ (passes_at_first (λ b. b == 0) bytes 0 (omega (arith, first, lt))))
    where
      not-both : {b : Bool} → b ≡ true → b ≡ false → ⊥
      not-both holds fails = let both : true ≡ false = sym holds ∙ fails in cc

      not-lt-le : {a b : ℕ} → (b < a → ⊥) → a ≤ b
      not-lt-le {a} {b} not = grind (arith, not)

  -- a string that begins before the last zero byte, or at it, ends at the first zero byte from there on
  pub string_found : (section : List ℕ) (end offset : ℕ) → IsAfterLastZero section end → offset < end
      → null_terminated_at cut (drop offset section) ≡ Ok (
        before_first (λ b. b == 0) (drop offset section),
        drop (suc (position_or_len (λ b. b == 0) (drop offset section))) (drop offset section),
      )
  string_found section end offset is lt =
      let within = is.0 in
      let j = end - 1 - offset in
      let place : offset + j ≡ end - 1 = omega (arith, lt) in
      zero_found (drop offset section) j (omega (arith, length-drop offset section, within, lt))
      (get_or-drop offset section j 0 ∙ ap (λ (k : ℕ). get_or section k 0) place ∙ is.1 (omega (arith, lt)))

  -- no zero byte ends a string that begins after the last of them
  pub string_none : (section : List ℕ) (end offset : ℕ) → IsAfterLastZero section end → end ≤ offset
      → null_terminated_at cut (drop offset section) ≡ Err cut
  string_none section end offset is le =
      text_none cut (drop offset section) (λ j lt zero_there. is.2 (offset + j) (omega (arith, le))
      (omega (arith, length-drop offset section, lt)) (sym (get_or-drop offset section j 0) ∙ zero_there))

-- What reading by a format says of the bytes: what is left of them is no longer, and where it is; what was found is at
-- their front, and nothing else.
use Rattle.std.proofs.Common.{◌≡◌, ℕ, true, nat_lt, ◌+◌, ◌-◌, ◌<◌, ◌≤◌, List, length, take, drop, Result, Ok, Err, refl, sym, ap, subst, ◌∙◌, arith}
use Rattle.std.proofs.lemmas.Bool.{lt-ltb}
use Rattle.std.proofs.lemmas.List.{length-append, drop_at, take_at, drop-take, drop-drop}
use Rattle.dw_forms.specs.BaseFormats.{so_many}
use Rattle.dw_forms.specs.Formats.{Format}
use Rattle.dw_forms.specs.Front.{BeginsWith}
use Rattle.dw_forms.specs.Readers.{takes, read_is, not_both, reader_begins}
use Rattle.dw_forms.specs.Steps.{◌>>=◌}
use Rattle.dw_lines.specs.Header.{content as content_format, field, length_end}
use Rattle.dw_lines.specs.Programs.{after_content}
use Rattle.dw_lines.specs.declared.rule.LineRule.TheVariants.{LineCut}

module _ {V E : Type 0} (f : Format V E) (bytes : List ℕ) where
  pub leaves : (v : V) (rest : List ℕ) → f.read bytes ≡ Ok (v, rest) → length rest ≤ length bytes
  leaves v rest e = let t = takes f.read f.Spells f.Fails f.is_reader bytes v rest e in
      omega (arith, ap length t.parts, length-append t.text rest)

  -- the value alone
  abbrev first : Result (V × List ℕ) E → Result V E
  first r = r >>= λ x. Ok x.0

  pub begins : (v : V) (r : Result (V × List ℕ) E) → f.read bytes ≡ r → first r ≡ Ok v
      → (len : ℕ) × BeginsWith f.Spells bytes v len
  begins v (Ok x) is e =
      let at = length bytes - length x.1 in (
        at,
        subst (λ (w : V). BeginsWith f.Spells bytes w at) (read_is e)
            (reader_begins f.read f.Spells f.Fails f.is_reader bytes x.0 x.1 is),
      )
  begins v (Err d) is e = absurd (not_both e)

-- the content after a length of four bytes, by where it is
pub content_at : (bytes rest after content : List ℕ) (n : ℕ) → (field 4).read bytes ≡ Ok (n, rest)
    → (so_many LineCut n).read rest ≡ Ok (content, after)
    → (4 + length content ≤ length bytes) × (take (length content) (drop 4 bytes) ≡ content)
content_at bytes rest after content n e d =
    let f = field 4 in
    let g = so_many LineCut n in
    let t = takes f.read f.Spells f.Fails f.is_reader bytes n rest e in
    let u = takes g.read g.Spells g.Fails g.is_reader rest content after d in
    let four : length t.text ≡ 4 = ap length t.spelled.1.same ∙ t.spelled.1.wide in
    let wide : length u.text ≡ length content = ap length u.spelled.same in (
      omega (arith, ap length t.parts, length-append t.text rest, ap length u.parts, length-append u.text after),
      ap (λ (b : List ℕ). take (length content) (drop 4 b)) t.parts
          ∙ ap (take (length content)) (drop_at t.text rest 4 four ∙ u.parts)
          ∙ take_at u.text after (length content) wide ∙ u.spelled.same,
    )

-- where it ends
pub content_end : (bytes rest after content : List ℕ) (n offset : ℕ) → (field 4).read bytes ≡ Ok (n, rest)
    → n < length_end → (so_many LineCut n).read rest ≡ Ok (content, after)
    → after_content offset (content_format.read bytes) ≡ offset + 4 + length content
content_end bytes rest after content n offset e lt d =
    let inside : nat_lt n length_end ≡ true = lt-ltb n length_end lt in
    rw (e, inside, d, after_content) refl

-- the bytes that reading leaves of a content after four bytes, by where they are in the section
pub left_at : {V E : Type 0} (f : Format V E) (section content rest : List ℕ) (offset : ℕ) (v : V)
    → f.read content ≡ Ok (v, rest) → take (length content) (drop 4 (drop offset section)) ≡ content
    → take (length rest) (drop (offset + 4 + (length content - length rest)) section) ≡ rest
left_at f section content rest offset v e place =
    let t = takes f.read f.Spells f.Fails f.is_reader content v rest e in
    let whole : length content ≡ length t.text + length rest = ap length t.parts ∙ length-append t.text rest in
    let n : length content - length rest ≡ length t.text = omega arith in
    let D = drop 4 (drop offset section) in
    let at : drop (offset + 4 + length t.text) section ≡ drop (length t.text) D =
    sym (ap (drop (length t.text)) (drop-drop 4 offset section) ∙ drop-drop (length t.text) (offset + 4) section) in
    rw (n, at)
    (sym (drop-take (length t.text) (length rest) D)
    ∙ ap (λ (k : ℕ). drop (length t.text) (take k D)) (sym whole)
    ∙ ap (drop (length t.text)) (place ∙ t.parts) ∙ drop_at t.text rest (length t.text) refl)

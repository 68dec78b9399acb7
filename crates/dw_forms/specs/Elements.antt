-- Chapter: the next element of a list, or its end, as a format. No key is there twice.
use Rattle.std.proofs.Common.{◌≡◌, ◌≢◌, ℕ, ◌<◌, ◌==◌, Bool, true, false, cond, List, ◌++◌, length, Option, Some, None}
use Rattle.std.proofs.Common.{Result, Ok, Err, refl, sym, ap, subst, ◌∙◌, inl, inr, append_assoc, All, Any}
use Rattle.std.specs.List.{list_any}
use Rattle.dw_forms.specs.Formats.{Format, format_of}
use Rattle.dw_forms.specs.Front.{Takes}
use Rattle.dw_forms.specs.Keys.{Lacks, lacks_from, lacks_test, any_from, any_test}
use Rattle.dw_forms.specs.Readers.{HasFront, front_of, reads_on, joined}
use Rattle.dw_forms.specs.Steps.{◌>>=◌, on_option}

-- what a list is made of: what an element begins with, or the end of the list; the rest of the element; and its key
pub record Elements (H X E : Type 0) : Type 1 where
  pub head : Format (Option H) E
  pub rest : H → Format X E
  pub key : X → ℕ
  -- the key is in what the element begins with, and this is the fault of an element whose key an earlier one has
  pub name : H → ℕ
  pub twice : H → E
  pub named : (h : H) (text : List ℕ) (x : X) → (rest h).Spells text x → key x ≡ name h
  -- an element has some bytes
  pub some : (text : List ℕ) (h : H) → head.Spells text (Some h) → 0 < length text

-- an element is spelled
pub record SpellsElement {H X E : Type 0} (of : Elements H X E) (bytes : List ℕ) (x : X) : Type 0 where
  pub begins : H
  pub first : List ℕ
  pub others : List ℕ
  pub parts : bytes ≡ first ++ others
  pub is_first : of.head.Spells first (Some begins)
  pub is_rest : (of.rest begins).Spells others x

-- the end of the list is spelled
abbrev pub SpellsEnd : {H X E : Type 0} → Elements H X E → List ℕ → Type 0
SpellsEnd of bytes = of.head.Spells bytes None

-- the end of a list, or an element whose key none of the earlier ones has
abbrev pub NextOf : {X : Type 0} → (X → ℕ) → (List ℕ → X → Type 0) → (List ℕ → Type 0) → List X → List ℕ → Option X
    → Type 0
NextOf key Spells End earlier text None = End text
NextOf key Spells End earlier text (Some x) = Spells text x × Lacks key (key x) earlier

-- why neither an element nor the end follows the earlier elements, by the first check that fails
pub data NextFails {H X E : Type 0} (of : Elements H X E) (earlier : List X) (bytes : List ℕ) (e : E) : Type 0 where
  no_head : of.head.Fails bytes e → NextFails of earlier bytes e
  key_twice : (h : H) (rest : List ℕ) → Takes of.head.Spells bytes (Some h) rest
      → Any (λ x. of.key x ≡ of.name h) earlier → e ≡ of.twice h → NextFails of earlier bytes e
  no_rest : (h : H) (rest : List ℕ) → Takes of.head.Spells bytes (Some h) rest
      → All (λ x. of.key x ≢ of.name h) earlier → (of.rest h).Fails rest e → NextFails of earlier bytes e

module _ {H X E : Type 0} (of : Elements H X E) (earlier : List X) where
  abbrev is_known : H → Bool
  is_known h = list_any (λ x. of.key x == of.name h) earlier

  abbrev pub rest_after_head : H → List ℕ → Result (Option X × List ℕ) E
  rest_after_head h bytes = cond (is_known h) (Err (of.twice h)) ((of.rest h).read bytes >>= λ x. Ok (Some x.0, x.1))

  unfoldable pub next_at : List ℕ → Result (Option X × List ℕ) E
  next_at bytes = of.head.read bytes >>= λ o. on_option o.0 (Ok (None, o.1)) (λ h. rest_after_head h o.1)

  abbrev Next : List ℕ → Option X → Type 0
  Next = NextOf of.key (SpellsElement of) (SpellsEnd of) earlier

  element : (bytes : List ℕ) (h : H) (rest : List ℕ) (x : X) (end : List ℕ) → Takes of.head.Spells bytes (Some h) rest
      → Takes (of.rest h).Spells rest x end → Lacks of.key (of.name h) earlier → Takes Next bytes (Some x) end
  element bytes h rest x end t u lacks = record {
    text = t.text ++ u.text;
    parts = joined t.text u.text end bytes rest t.parts u.parts;
    spelled = (
      record {
        begins = h;
        first = t.text;
        others = u.text;
        parts = refl;
        is_first = t.spelled;
        is_rest = u.spelled;
      },
      subst (λ (n : ℕ). Lacks of.key n earlier) (sym (of.named h u.text x u.spelled)) lacks,
    );
  }

  front_after : (bytes : List ℕ) (h : H) (rest : List ℕ) → Takes of.head.Spells bytes (Some h) rest → (b : Bool)
      → is_known h ≡ b → HasFront Next (NextFails of earlier) bytes
  front_after bytes h rest t true twice =
      inr (of.twice h, key_twice h rest t (any_from of.key (of.name h) earlier twice) refl)
  front_after bytes h rest t false once =
      let lacks = lacks_from of.key (of.name h) earlier once in
      elim (front_of (of.rest h).is_reader rest) [
        | inl (x, end, u) ↦ inl (Some x, end, element bytes h rest x end t u lacks)
        | inr (e, fails) ↦ inr (e, no_rest h rest t lacks fails)
      ]

  pub next_front : (bytes : List ℕ) → HasFront Next (NextFails of earlier) bytes
  next_front bytes = elim (front_of of.head.is_reader bytes) [
    | inl (None, rest, t) ↦ inl (None, rest, record { text = t.text; parts = t.parts; spelled = t.spelled })
    | inl (Some h, rest, t) ↦ front_after bytes h rest t (is_known h) refl
    | inr (e, fails) ↦ inr (e, no_head fails)
  ]

  pub next_again : (text rest : List ℕ) (o : Option X) → Next text o → next_at (text ++ rest) ≡ Ok (o, rest)
  unfolding next_at
  next_again text rest None s = rw (of.head.is_reader.again text rest None s) refl
  next_again text rest (Some x) (s, lacks) =
      let parts : text ++ rest ≡ s.first ++ (s.others ++ rest) =
      ap (λ (t : List ℕ). t ++ rest) s.parts ∙ append_assoc s.first s.others rest in
      let one : of.head.read (text ++ rest) ≡ Ok (Some s.begins, s.others ++ rest) =
      ap of.head.read parts ∙ of.head.is_reader.again s.first (s.others ++ rest) (Some s.begins) s.is_first in
      let once : is_known s.begins ≡ false = lacks_test of.key (of.name s.begins) earlier
      (subst (λ (n : ℕ). Lacks of.key n earlier) (of.named s.begins s.others x s.is_rest) lacks) in
      rw (one, once, (of.rest s.begins).is_reader.again s.others rest x s.is_rest) refl

  pub next_refuses : (bytes : List ℕ) (e : E) → NextFails of earlier bytes e → next_at bytes ≡ Err e
  unfolding next_at
  next_refuses bytes e (no_head h) = rw (of.head.refuses bytes e h) refl
  next_refuses bytes e (key_twice h rest t any is) =
      rw (
        reads_on of.head.read of.head.Spells of.head.Fails of.head.is_reader bytes (Some h) rest t,
        any_test of.key (of.name h) earlier any,
        is,
      ) refl
  next_refuses bytes e (no_rest h rest t lacks fails) =
      rw (
        reads_on of.head.read of.head.Spells of.head.Fails of.head.is_reader bytes (Some h) rest t,
        lacks_test of.key (of.name h) earlier lacks,
        (of.rest h).refuses rest e fails,
      ) refl

  -- the next element after the earlier ones, or the end
  abbrev pub element_or_end : Format (Option X) E
  element_or_end =
      format_of next_at (NextOf of.key (SpellsElement of) (SpellsEnd of) earlier) (NextFails of earlier) next_again
      next_refuses next_front

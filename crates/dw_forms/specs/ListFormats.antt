-- Chapter: lists as formats: element after element up to an end, and no key of them twice.
use Rattle.std.proofs.Common.{◌≡◌, ℕ, zero, suc, ◌+◌, ◌<◌, ◌≤◌, List, [], ◌∷◌, ◌++◌, length, Option, Some, None, Result}
use Rattle.std.proofs.Common.{Ok, Err, refl, sym, ap, subst, ◌∙◌, inl, inr, append_assoc, arith, ◌⊎◌, append-nil}
use Rattle.std.proofs.Common.{length-append}
use Rattle.dw_forms.specs.Elements.{Elements, SpellsElement, SpellsEnd, NextOf, NextFails, next_at, element_or_end}
use Rattle.dw_forms.specs.Formats.{Format, format_of, renamed}
use Rattle.dw_forms.specs.Front.{Takes}
use Rattle.dw_forms.specs.Keys.{Apart, apart_push, apart_lacks}
use Rattle.dw_forms.specs.Readers.{IsReader, HasFront, front_of, joined}
use Rattle.dw_forms.specs.Steps.{◌>>=◌, on_option}

-- element after element up to the end, after the earlier ones. There are fewer than this bound
unfoldable pub list_from : {X E : Type 0} → (List X → List ℕ → Result (Option X × List ℕ) E) → E → ℕ → List X → List ℕ
    → Result (List X × List ℕ) E
list_from next cut zero earlier bytes = Err cut
list_from next cut (suc bound) earlier bytes =
    next earlier bytes >>= λ p. on_option p.0 (Ok (earlier, p.1))
    (λ x. list_from next cut bound (earlier ++ x ∷ []) p.1)

-- a list up to its end
abbrev pub list_of : {X E : Type 0} → (List X → List ℕ → Result (Option X × List ℕ) E) → E → List ℕ
    → Result (List X × List ℕ) E
list_of next cut bytes = list_from next cut (suc (length bytes)) [] bytes

-- one spelling for each element, and then the end
abbrev pub SpellsEach : {X : Type 0} → (List ℕ → X → Type 0) → (List ℕ → Type 0) → List X → List ℕ → Type 0
SpellsEach Spells End [] bytes = End bytes
SpellsEach Spells End (x ∷ xs) bytes =
    (first : List ℕ) × (others : List ℕ) × (bytes ≡ first ++ others) × Spells first x
    × SpellsEach Spells End xs others

-- the bytes are a list of these elements, up to its end, and no two have the same key
pub record SpellsList {X : Type 0} (key : X → ℕ) (Spells : List ℕ → X → Type 0) (End : List ℕ → Type 0)
    (bytes : List ℕ) (xs : List X) : Type 0 where
  pub spelled : SpellsEach Spells End xs bytes
  pub distinct : Apart key xs

-- after the earlier elements some more are spelled, and after them no next one and no end
pub record FailsAfter {X E : Type 0} (key : X → ℕ) (Spells : List ℕ → X → Type 0)
    (Fails : List X → List ℕ → E → Type 0) (earlier : List X) (bytes : List ℕ) (fault : E) : Type 0 where
  pub items : List X
  pub text : List ℕ
  pub rest : List ℕ
  pub parts : bytes ≡ text ++ rest
  pub spelled : SpellsEach Spells (λ bytes. bytes ≡ []) items text
  pub distinct : Apart key (earlier ++ items)
  pub fails : Fails (earlier ++ items) rest fault

-- what reads the next element or the end, whatever follows, and the fault where no bound is left
pub record ReadsNext {X E : Type 0} (key : X → ℕ) (Spells : List ℕ → X → Type 0) (End : List ℕ → Type 0)
    (Fails : List X → List ℕ → E → Type 0) (next : List X → List ℕ → Result (Option X × List ℕ) E) (cut : E) : Type 0
  where
    pub some : (text : List ℕ) (x : X) → Spells text x → 0 < length text
    pub is_reader : (earlier : List X) → IsReader (next earlier) (NextOf key Spells End earlier) (Fails earlier)
    pub refuses : (earlier : List X) (bytes : List ℕ) (e : E) → Fails earlier bytes e → next earlier bytes ≡ Err e

module _ {X E : Type 0} {key : X → ℕ} {Spells : List ℕ → X → Type 0} {End : List ℕ → Type 0}
    {Fails : List X → List ℕ → E → Type 0} {next : List X → List ℕ → Result (Option X × List ℕ) E} {cut : E}
    (h : ReadsNext key Spells End Fails next cut) where
  -- no more elements are spelled than there are bytes, since each has some, and so may the end
  pub each_fits : (End' : List ℕ → Type 0) (least : ℕ) → ((text : List ℕ) → End' text → least ≤ length text)
      → (xs : List X) (text : List ℕ) → SpellsEach Spells End' xs text → length xs + least ≤ length text
  each_fits End' least fits [] text s = omega (arith, fits text s)
  each_fits End' least fits (x ∷ xs) text p =
      omega (arith, h.some p.0 x p.3, each_fits End' least fits xs p.1 p.4, ap length p.2, length-append p.0 p.1)

  -- ---- what is at the front of some bytes

  abbrev Next : List X → List ℕ → Option X → Type 0
  Next = NextOf key Spells End

  -- the end is at the front, or a fault
  abbrev Ends : List X → List ℕ → Type 0
  Ends earlier bytes = ((after : List ℕ) × Takes (Next earlier) bytes None after) ⊎ ((e : E) × Fails earlier bytes e)

  -- some elements are at the front, and after them the end or a fault
  abbrev IsFront : List X → List ℕ → Type 0
  IsFront earlier bytes = FailsAfter key Spells (λ all rest (u : Unit {0}). Ends all rest) earlier bytes tt

  front_none : (earlier : List X) (bytes : List ℕ) → Apart key earlier → Ends earlier bytes → IsFront earlier bytes
  front_none earlier bytes distinct ends = record {
    items = [];
    text = [];
    rest = bytes;
    parts = refl;
    spelled = refl;
    distinct = subst (Apart key) (sym (append-nil earlier)) distinct;
    fails = subst (λ (xs : List X). Ends xs bytes) (sym (append-nil earlier)) ends;
  }

  front_more : (earlier : List X) (bytes : List ℕ) (x : X) (after : List ℕ) → Takes (Next earlier) bytes (Some x) after
      → IsFront (earlier ++ x ∷ []) after → IsFront earlier bytes
  front_more earlier bytes x after t f = record {
    items = x ∷ f.items;
    text = t.text ++ f.text;
    rest = f.rest;
    parts = joined t.text f.text f.rest bytes after t.parts f.parts;
    spelled = (t.text, f.text, refl, t.spelled.0, f.spelled);
    distinct = subst (Apart key) (append_assoc earlier (x ∷ []) f.items) f.distinct;
    fails = subst (λ (xs : List X). Ends xs f.rest) (append_assoc earlier (x ∷ []) f.items) f.fails;
  }

  front_at : (bound : ℕ) (earlier : List X) (bytes : List ℕ) → length bytes < bound → Apart key earlier
      → IsFront earlier bytes
  front_at zero earlier bytes lt distinct = absurd (omega arith)
  front_at (suc bound) earlier bytes lt distinct = elim (front_of (h.is_reader earlier) bytes) [
    | inl (None, after, t) ↦ front_none earlier bytes distinct (inl (after, t))
    | inl (Some x, after, t) ↦ front_more earlier bytes x after t (front_at bound (earlier ++ x ∷ []) after
        (omega (arith, h.some t.text x t.spelled.0, ap length t.parts, length-append t.text after))
        (apart_push key earlier x distinct t.spelled.1))
    | inr fails ↦ front_none earlier bytes distinct (inr fails)
  ]

  each_then : (xs : List X) (text end : List ℕ) → SpellsEach Spells (λ bytes. bytes ≡ []) xs text → End end
      → SpellsEach Spells End xs (text ++ end)
  each_then [] text end none e = subst (λ (t : List ℕ). End (t ++ end)) (sym none) e
  each_then (x ∷ xs) text end p e =
      (p.0, p.1 ++ end, ap (λ (t : List ℕ). t ++ end) p.2 ∙ append_assoc p.0 p.1 end, p.3, each_then xs p.1 end p.4 e)

  abbrev Whole : List ℕ → List X → Type 0
  Whole = SpellsList key Spells End

  abbrev Broken : List ℕ → E → Type 0
  Broken = FailsAfter key Spells Fails []

  pub list_front : (bytes : List ℕ) → HasFront Whole Broken bytes
  list_front bytes =
      let f = front_at (suc (length bytes)) [] bytes (omega arith) (λ i j d lt long. absurd (omega arith)) in
      elim f.fails [
        | inl (after, t) ↦ inl (
          f.items,
          after,
          record {
            text = f.text ++ t.text;
            parts = joined f.text t.text after bytes f.rest f.parts t.parts;
            spelled = record { spelled = each_then f.items f.text t.text f.spelled t.spelled; distinct = f.distinct };
          },
        )
        | inr (e, fails) ↦ inr (
          e,
          record {
            items = f.items;
            text = f.text;
            rest = f.rest;
            parts = f.parts;
            spelled = f.spelled;
            distinct = f.distinct;
            fails = fails;
          },
        )
      ]

  -- ---- what is spelled is read

  -- reading goes through what is spelled, and ends as it does after it
  from_ends : (End' : List ℕ → Type 0) (rest : List ℕ) (answer : Result (List X × List ℕ) E) (xs earlier : List X)
      (bound : ℕ) (text : List ℕ) → SpellsEach Spells End' xs text → Apart key (earlier ++ xs)
      → length xs < bound
      → ((tail : List ℕ) (b : ℕ) → End' tail → list_from next cut (suc b) (earlier ++ xs) (tail ++ rest) ≡ answer)
      → list_from next cut bound earlier (text ++ rest) ≡ answer
  unfolding list_from
  from_ends End' rest answer xs earlier zero text s a lt last = absurd (omega arith)
  from_ends End' rest answer [] earlier (suc bound) text s a lt last =
      subst (λ (e : List X). list_from next cut (suc bound) e (text ++ rest) ≡ answer) (append-nil earlier)
      (last text bound s)
  from_ends End' rest answer (x ∷ xs) earlier (suc bound) text p a lt last =
      let parts : text ++ rest ≡ p.0 ++ (p.1 ++ rest) = ap (λ (t : List ℕ). t ++ rest) p.2
      ∙ append_assoc p.0 p.1 rest in
      let first : next earlier (text ++ rest) ≡ Ok (Some x, p.1 ++ rest) = ap (next earlier) parts
      ∙ (h.is_reader earlier).again p.0 (p.1 ++ rest) (Some x) (p.3, apart_lacks key earlier x xs a) in
      let regrouped : (earlier ++ x ∷ []) ++ xs ≡ earlier ++ x ∷ xs = append_assoc earlier (x ∷ []) xs in
      rw first (from_ends End' rest answer xs (earlier ++ x ∷ []) bound p.1 p.4
      (subst (Apart key) (sym regrouped) a) (omega arith)
      (λ tail b e. ap (λ (all : List X). list_from next cut (suc b) all (tail ++ rest)) regrouped ∙ last tail b e))

  of_ends : (End' : List ℕ → Type 0) (text rest : List ℕ) (answer : Result (List X × List ℕ) E) (xs : List X)
      → SpellsEach Spells End' xs text → Apart key xs
      → ((tail : List ℕ) (b : ℕ) → End' tail → list_from next cut (suc b) xs (tail ++ rest) ≡ answer)
      → list_of next cut (text ++ rest) ≡ answer
  of_ends End' text rest answer xs s a last =
      from_ends End' rest answer xs [] (suc (length (text ++ rest))) text s a
      (omega (arith, each_fits End' 0 (λ t e. omega arith) xs text s, length-append text rest)) last

  pub list_again : (text rest : List ℕ) (xs : List X) → Whole text xs → list_of next cut (text ++ rest) ≡ Ok (xs, rest)
  unfolding list_from
  list_again text rest xs s =
      of_ends End text rest (Ok (xs, rest)) xs s.spelled s.distinct
      (λ tail b e. rw ((h.is_reader xs).again tail rest None e) refl)

  -- the fault of the next element is that of the list
  pub list_refuses : (bytes : List ℕ) (fault : E) → Broken bytes fault → list_of next cut bytes ≡ Err fault
  unfolding list_from
  list_refuses bytes fault f =
      ap (list_of next cut) f.parts ∙ of_ends (λ text. text ≡ []) f.text f.rest (Err fault) f.items f.spelled f.distinct
      (λ tail b e. rw (e, h.refuses f.items f.rest fault f.fails) refl)

  -- the list as a format
  abbrev pub list_format : Format (List X) E
  list_format =
      format_of (list_of next cut) (SpellsList key Spells End) (FailsAfter key Spells Fails []) list_again list_refuses
      list_front

-- ---- a list of elements

module _ {H X E : Type 0} (of : Elements H X E) where
  element_some : (text : List ℕ) (x : X) → SpellsElement of text x → 0 < length text
  element_some text x s =
      omega (arith, of.some s.first s.begins s.is_first, ap length s.parts, length-append s.first s.others)

  pub reads_next : (cut : E) → ReadsNext of.key (SpellsElement of) (SpellsEnd of) (NextFails of) (next_at of) cut
  reads_next cut = record {
    some = element_some;
    is_reader = λ earlier. (element_or_end of earlier).is_reader;
    refuses = λ earlier. (element_or_end of earlier).refuses;
  }

  -- the elements up to the end, and this fault where reading would never end
  abbrev pub up_to_end : E → Format (List X) E
  up_to_end cut = list_format (reads_next cut)

  -- the same where the bytes may say what a fault becomes
  module _ {F : Type 0} (rename : List ℕ → E → F) where
    abbrev pub renamed_next : List X → Format (Option X) F
    renamed_next earlier = renamed rename (element_or_end of earlier)

    pub reads_renamed : (cut : F) → ReadsNext of.key (SpellsElement of) (SpellsEnd of)
        (λ earlier. (renamed_next earlier).Fails) (λ earlier. (renamed_next earlier).read) cut
    reads_renamed cut = record {
      some = element_some;
      is_reader = λ earlier. (renamed_next earlier).is_reader;
      refuses = λ earlier. (renamed_next earlier).refuses;
    }

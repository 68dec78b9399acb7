-- A value of a form with one size is skipped by that size, and the values of a declaration by the sum of theirs.
use Rattle.std.proofs.Common.{rules, arith, ◌≡◌, ℕ, ◌+◌, ◌<◌, ◌≤◌, Bool, true, false, cond, List, [], ◌∷◌, length, drop, Option, Some, None, Ok, Err, refl, sym, subst, ◌∙◌, lt-ltb, le-ltb, drop-drop, length-drop}
use Rattle.std.proofs.lemmas.Bool.{cases_lt}
use Rattle.dw_forms.specs.declared.form.Form.TheVariants as form
use Rattle.dw_forms.specs.declared.value.ValueFault.TheVariants.{Cut}
use Rattle.dw_forms.specs.BaseFormats.{taken_at}
use Rattle.dw_forms.specs.FormCodes.{Form}
use Rattle.dw_forms.specs.KnownValues.{rest_beyond, AttributeSpec}
use Rattle.dw_forms.specs.Readers.{read_is}
use Rattle.dw_forms.specs.Sizes.{size_of, fixed_size_of, rest_at, plus, fixed_sum, ValuesEnd}
use Rattle.dw_forms.specs.Steps.{◌>>=◌}
use Rattle.dw_forms.specs.Value.{Layout, fixed, exactly, nothing}
use Rattle.dw_forms.specs.ValueFormats.{laid_out}
use Rattle.dw_forms.specs.ValueReading.{layout_at}
use Rattle.dw_forms.specs.WithBytes.{bind_ok}

pub some_is : {A : Type 0} {x y : A} → ◌≡◌ {A = Option A} (Some x) (Some y) → x ≡ y
some_is e = cc

pub never_none : {A : Type 0} {x : A} → ◌≡◌ {A = Option A} None (Some x) → ⊥
never_none e = cc

-- ---- bytes that are cut off

pub cut_short : (len : ℕ) (bytes : List ℕ) → length bytes < len → rest_beyond len bytes ≡ Err Cut
cut_short len bytes lt = rw (lt-ltb _ _ lt) refl

pub cut_long : (len : ℕ) (bytes : List ℕ) → len ≤ length bytes → rest_beyond len bytes ≡ Ok (drop len bytes)
cut_long len bytes le = rw (le-ltb _ _ le) refl

layout_cut : (layout : Layout) (n : ℕ) (bytes : List ℕ) → size_of layout ≡ Some n
    → (layout_at layout bytes >>= λ x. Ok x.1) ≡ rest_beyond n bytes
unfolding laid_out taken_at
layout_cut (fixed size of) n bytes e = search (rules, some_is, cases_lt, lt-ltb, le-ltb)
layout_cut (exactly size of) n bytes e = search (rules, some_is, cases_lt, lt-ltb, le-ltb)
layout_cut (nothing datum) n bytes e = search (rules, some_is, cut_long)
layout_cut _ n bytes e = absurd (never_none e)

pub rest_cut : (version : ℕ) (f : Form) (size n : ℕ) (bytes : List ℕ) → fixed_size_of size f ≡ Some n
    → rest_at version f size bytes ≡ rest_beyond n bytes
unfolding rest_at
rest_cut version form.Indirect size n bytes e = absurd (never_none e)
rest_cut version g size n bytes e = search (rules, layout_cut)

pub rest_skips : (version : ℕ) (f : Form) (size n : ℕ) (bytes : List ℕ) → fixed_size_of size f ≡ Some n
    → n ≤ length bytes → rest_at version f size bytes ≡ Ok (drop n bytes)
rest_skips version f size n bytes e le = rest_cut version f size n bytes e ∙ cut_long n bytes le

-- ---- all values of a declaration

parts_of : (o p : Option ℕ) (n : ℕ) → plus o p ≡ Some n
    → (a : ℕ) × (b : ℕ) × (o ≡ Some a) × (p ≡ Some b) × (n ≡ a + b)
parts_of (Some a) (Some b) n e = search (rules, some_is)
parts_of _ _ n e = absurd (never_none e)

allowed_of : (b : Bool) (o : Option ℕ) (n : ℕ) → cond b o None ≡ Some n → (b ≡ true) × (o ≡ Some n)
allowed_of true o n e = (refl, e)
allowed_of false o n e = absurd (never_none e)

-- where the bytes are enough for all values, they are read, and end after exactly the sum of their sizes
pub values_skip : (version size : ℕ) (specs : List AttributeSpec) (n : ℕ) (bytes : List ℕ)
    → fixed_sum version size specs ≡ Some n → n ≤ length bytes
    → ValuesEnd version size specs bytes (drop n bytes)
unfolding rest_at
values_skip version size [] n bytes e le = rw (← some_is e) refl
values_skip version size (spec ∷ specs) n bytes e le =
    let (first, others, is_first, are_others, total) =
    parts_of _ _ n e in
    let (allowed, sized) = allowed_of _ _ first is_first in
    let (v, read, rest) = bind_ok _ (λ x. Ok x.1) _
    (rest_skips version spec.form size first bytes sized (omega arith)) in
    let more = values_skip version size specs others _ are_others
    (omega (arith, length-drop first bytes)) in (
      allowed,
      v.0,
      drop first bytes,
      read ∙ (λ i. Ok (v.0, (read_is rest i))),
      subst (ValuesEnd version size specs (drop first bytes))
          (drop-drop others first bytes ∙ (λ i. drop (sym total i) bytes)) more,
    )

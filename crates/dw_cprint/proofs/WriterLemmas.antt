-- One step of writing a type, over plain values.
use Rattle.std.proofs.lemmas.Grind.{common_steps, flat_map-append}
use Rattle.std.proofs.Common.{arith, rules, ◌≡◌, ℕ, zero, suc, Bool, true, false, List, [], ◌∷◌, ◌++◌, Option, Some, None, refl, sym, ◌∙◌, ap, subst, append_assoc, append-nil}
use Rattle.std.specs.Global.{Global}
use Rattle.std.specs.Prelude.{is_some, Vec, flat_map, option_map}
use Rattle.dw_types.specs.Sizes.{has_elements}
use Rattle.dw_cprint.specs.Declarations.{base_term, nested_arrays, is_miscounted, is_misplaced, has_more, parameters_by, body_by, term_by, declaration_by, term_at}
use Rattle.dw_cprint.specs.Declarators.{gap, pointer_row, opening, closing, before, after, core}
use Rattle.dw_cprint.specs.Kept.{Writes}
use Rattle.dw_cprint.specs.Shapes.{Qualifier, Parameter, Name, TypeAt, BodyOf, ShapeOf, base, typedef, qualified, pointer, array, function, tagged, body, typedef_subject, variable_subject, defined_subject, view_shape}
use Rattle.dw_cprint.specs.Terms.{Term, Void, Named, Tagged, Unnamed, Body, Function, Prototyped, Parameters, CDeclaration}
use Rattle.dw_cprint.specs.Tokens.{Token, Blank, Star, Open, Close, Semicolon, TypedefWord, Identifier, spelling, text_of}
use Rattle.dw_cprint.specs.Writing.{body_tokens, spell, qualifying, count_tokens, name_tokens, signature_tokens, written}
use Rattle.dw_cprint.specs.declared.shape.Shape.{Shape}
use Rattle.dw_cprint.specs.declared.shape.Shape.TheVariants as shape
use Rattle.dw_cprint.proofs.DeclaratorLemmas.{in_parts}
use Rattle.dw_cprint.proofs.NameLemmas.{words-text}
use Rattle.dw_cprint.proofs.OptionLemmas.{map_inverted, then_inverted, unless_inverted, map_holds, unless_holds}

-- ---- texts

-- one text behind another
pub both : (a b : List Token) (old mid new : List ℕ) → Writes a old mid → Writes b mid new
    → Writes (a ++ b) old new
both a b old mid new first second =
    rw (second, first, flat_map-append spelling a b) (append_assoc old (text_of a) (text_of b))

-- the same tokens, written in another way
pub as_tokens : (a b : List Token) (old new : List ℕ) → a ≡ b → Writes a old new → Writes b old new
as_tokens a b old new e h = rw (← e) h

-- ---- what stands before a declarator

-- no declarator of its own belongs to the shape
abbrev pub is_specifier : ShapeOf → Bool
is_specifier (qualified q at) = false
is_specifier (pointer at) = false
is_specifier (array counts strange at) = false
is_specifier (function at parameters) = false
is_specifier _ = true

pub record IsSpecifier (t : Term) : Type 0 where
  pub front : (qs : List Qualifier) (inside : Bool) → qualifying qs ++ (core t ++ gap inside) ≡ before qs t inside
  pub back : after t ≡ []
  pub not_opened : opening t ≡ []
  pub not_closed : closing t ≡ []

specifier-named : (name : List ℕ) → IsSpecifier (Named name)
specifier-named name = record { front = λ qs inside. refl; back = refl; not_opened = refl; not_closed = refl }

specifier-base : (name : List ℕ) (t : Term) → base_term name ≡ Some t → IsSpecifier t
specifier-base name t e = search (rules, specifier-named)

pub specifier-of : (term : TypeAt → Option Term) (s : ShapeOf) (t : Term) → is_specifier s ≡ true
    → term_by term s ≡ Some t → IsSpecifier t
specifier-of term (base (Some name)) t is e = specifier-base name t e
specifier-of term (typedef (Some name)) t is e =
    let same : Named name ≡ t = cc in subst IsSpecifier same (specifier-named name)
specifier-of term (tagged word name) t is e =
    let same : Tagged word name ≡ t = cc in
    subst IsSpecifier same (record { front = λ qs inside. refl; back = refl; not_opened = refl; not_closed = refl })
specifier-of term (body b) t is e = search (rules, map_inverted)
specifier-of term _ t is e = absurd (cc)

pub before-arrays : (counts : List (Option ℕ)) (u : Term) → before [] (nested_arrays counts u) true ≡ before [] u true
before-arrays [] u = refl
before-arrays (c ∷ cs) u = before-arrays cs u

pub after-arrays : (counts : List (Option ℕ)) (u : Term)
    → flat_map count_tokens counts ++ after u ≡ after (nested_arrays counts u)
after-arrays [] u = refl
after-arrays (c ∷ cs) u =
    rw (append_assoc (count_tokens c) (flat_map count_tokens cs) (after u), after-arrays cs u) refl

-- the parts of a function's term
pub record IsFunction (term : TypeAt → Option Term) (at : TypeAt) (ps : List Parameter) (t : Term) : Type 0 where
  pub result : Term
  pub is_result : term at ≡ Some result
  pub placed : is_misplaced ps ≡ false
  pub parameters : Parameters
  pub are_parameters : parameters_by term ps ≡ Some parameters
  pub is : Function result (Prototyped parameters (has_more ps)) ≡ t

pub function-parts : (term : TypeAt → Option Term) (at : TypeAt) (ps : List Parameter) (t : Term)
    → term_by term (function at (Some ps)) ≡ Some t → IsFunction term at ps t
function-parts term at ps t e = search (rules, unless_inverted, then_inverted, map_inverted)

-- the step from a type to the shape of its entry
pub step-at : (shapes : ℕ → ShapeOf) (k below : ℕ) {at got : TypeAt} {n : ℕ} {seen s : ShapeOf} → got ≡ at
    → got ≡ Some n → term_at k shapes (Some n) ≡ term_by (term_at below shapes) seen → seen ≡ s
    → term_at k shapes at ≡ term_by (term_at below shapes) s
step-at shapes k below got is found same =
    ap (term_at k shapes) (sym got ∙ is) ∙ found ∙ ap (term_by (term_at below shapes)) same

pub void-at : (shapes : ℕ → ShapeOf) (k : ℕ) (at : TypeAt) (t : Term) → at ≡ None → term_at k shapes at ≡ Some t
    → Void ≡ t
void-at shapes zero at t is e = absurd (cc)
void-at shapes (suc k) at t is e = let found : Some Void ≡ Some t = sym (ap (term_at (suc k) shapes) is) ∙ e in cc

module _ (term : TypeAt → Option Term) (o : Option Term) (old new : List ℕ) where
  pub pointer_before : (mid mid2 mid3 : List ℕ) (qs : List Qualifier) (inside : Bool) (at : TypeAt)
      → o ≡ term_by term (pointer at)
      → ((t : Term) → term at ≡ Some t → Writes (before [] t true) old mid)
      → ((t : Term) → term at ≡ Some t → Writes (opening t) mid mid2) → Writes (Star ∷ []) mid2 mid3
      → Writes (pointer_row qs inside) mid3 new → (t : Term) → o ≡ Some t → Writes (before qs t inside) old new
  pointer_before mid mid2 mid3 qs inside at step inner opens star row t e =
      grind (arith, common_steps, map_inverted, both)

  pub array_before : (qs : List Qualifier) (inside : Bool) (counts : List (Option ℕ)) (strange : Bool) (at : TypeAt)
      → o ≡ term_by term (array counts strange at)
      → ((t : Term) → term at ≡ Some t → Writes (before [] t true) old new) → (t : Term) → o ≡ Some t
      → Writes (before qs t inside) old new
  array_before qs inside [] strange at step inner t e = absurd (cc)
  array_before qs inside (c ∷ cs) strange at step inner t e =
      search (rules, unless_inverted, map_inverted, as_tokens, before-arrays)

  pub specifier_before : (mid mid2 : List ℕ) (qs : List Qualifier) (inside : Bool) (s : ShapeOf)
      → is_specifier s ≡ true → o ≡ term_by term s
      → Writes (qualifying qs) old mid → ((t : Term) → term_by term s ≡ Some t → Writes (core t) mid mid2)
      → Writes (gap inside) mid2 new → (t : Term) → o ≡ Some t → Writes (before qs t inside) old new
  specifier_before mid mid2 qs inside s is step row inner end t e =
      let spec = specifier-of term s t is (sym step ∙ e) in
      as_tokens (qualifying qs ++ (core t ++ gap inside)) (before qs t inside) old new (spec.front qs inside)
      (both (qualifying qs) (core t ++ gap inside) old mid new row
      (both (core t) (gap inside) mid mid2 new (inner t (sym step ∙ e)) end))

  -- ---- what stands behind it

  pub array_after : (mid : List ℕ) (counts : List (Option ℕ)) (strange : Bool) (at : TypeAt)
      → o ≡ term_by term (array counts strange at) → Writes (flat_map count_tokens counts) old mid
      → ((t : Term) → term at ≡ Some t → Writes (after t) mid new) → (t : Term) → o ≡ Some t → Writes (after t) old new
  array_after mid counts strange at step brackets inner t e =
      let P : Term → Type 0 = λ u. Writes (after u) old new in
      unless_holds P (is_miscounted counts) _
      (λ placed. map_holds P (nested_arrays counts) (term at)
      (λ u is. as_tokens (flat_map count_tokens counts ++ after u) (after (nested_arrays counts u)) old new
      (after-arrays counts u)
      (both (flat_map count_tokens counts) (after u) old mid new brackets (inner u is)))) t (sym step ∙ e)

  pub pointer_after : (mid : List ℕ) (at : TypeAt) → o ≡ term_by term (pointer at)
      → ((t : Term) → term at ≡ Some t → Writes (closing t) old mid)
      → ((t : Term) → term at ≡ Some t → Writes (after t) mid new) → (t : Term) → o ≡ Some t → Writes (after t) old new
  pointer_after mid at step closes inner t e = search (rules, map_inverted, both)

  pub prototype_after : (mid mid2 mid3 : List ℕ) (at : TypeAt) (ps : List Parameter)
      → o ≡ term_by term (function at (Some ps)) → Writes (Open ∷ []) old mid
      → (is_misplaced ps ≡ false → (us : Parameters) → parameters_by term ps ≡ Some us
      → Writes (signature_tokens (Prototyped us (has_more ps))) mid mid2) → Writes (Close ∷ []) mid2 mid3
      → ((t : Term) → term at ≡ Some t → Writes (after t) mid3 new) → (t : Term) → o ≡ Some t → Writes (after t) old new
  prototype_after mid mid2 mid3 at ps step opens written closes inner t e =
      let f = function-parts term at ps t (sym step ∙ e) in
      let s = signature_tokens (Prototyped f.parameters (has_more ps)) in
      let P : Term → Type 0 = λ u. Writes (after u) old new in
      subst P f.is
      (both (Open ∷ []) (s ++ Close ∷ after f.result) old mid new opens
      (both s (Close ∷ after f.result) mid mid2 new (written f.placed f.parameters f.are_parameters)
      (both (Close ∷ []) (after f.result) mid2 mid3 new closes (inner f.result f.is_result))))

-- ---- a type with a name inside

there-name : (name : Name) → has_elements (name_tokens name) ≡ is_some name
there-name None = refl
there-name (Some name) = refl

pub named_written : (term : TypeAt → Option Term) (at : TypeAt) (name : Name) (old mid mid2 new : List ℕ)
    → ((t : Term) → term at ≡ Some t → Writes (before [] t (is_some name)) old mid)
    → Writes (name_tokens name) mid mid2 → ((t : Term) → term at ≡ Some t → Writes (after t) mid2 new) → (t : Term)
    → term at ≡ Some t → Writes (spell [] t (name_tokens name)) old new
named_written term at name old mid mid2 new front word back t e = search (rules, as_tokens, there-name, in_parts, both)

-- ---- a specifier without its qualifiers

pub base-core : (name : List ℕ) (t : Term) → base_term name ≡ Some t → text_of (Identifier name ∷ []) ≡ text_of (core t)
base-core name t e = search (rules, append-nil, words-text)

module _ (term : TypeAt → Option Term) (old new : List ℕ) where
  pub base_core : (name : Name) → Writes (name_tokens name) old new → (t : Term) → term_by term (base name) ≡ Some t
      → Writes (core t) old new
  base_core None h t e = absurd (cc)
  base_core (Some name) h t e = h ∙ ap (λ (u : List ℕ). old ++ u) (base-core name t e)

  pub body_core : (b : BodyOf) → ((u : Body) → body_by term b ≡ Some u → Writes (body_tokens None u) old new)
      → (t : Term) → term_by term (body b) ≡ Some t → Writes (core t) old new
  body_core b inner t e = map_holds (λ (u : Term). Writes (core u) old new) Unnamed (body_by term b) inner t e

-- ---- declarations

module _ (term : TypeAt → Option Term) (old mid mid2 new : List ℕ) where
  pub typedef_done : (name : Name) (at : TypeAt) → Writes (TypedefWord ∷ Blank ∷ []) old mid
      → ((t : Term) → term at ≡ Some t → Writes (spell [] t (name_tokens name)) mid mid2)
      → Writes (Semicolon ∷ []) mid2 new
      → (d : CDeclaration) → declaration_by term (typedef_subject name at) ≡ Some d → new ≡ old ++ written d
  typedef_done None at first inner last d e = absurd (cc)
  typedef_done (Some name) at first inner last d e = grind (arith, common_steps, map_inverted, both)

  pub variable_done : (name : Name) (at : TypeAt)
      → ((t : Term) → term at ≡ Some t → Writes (spell [] t (name_tokens name)) old mid)
      → Writes (Semicolon ∷ []) mid new
      → (d : CDeclaration) → declaration_by term (variable_subject name at) ≡ Some d → new ≡ old ++ written d
  variable_done None at inner last d e = absurd (cc)
  variable_done (Some name) at inner last d e = search (rules, map_inverted, both)

  pub defined_done : (name : Name) (b : BodyOf)
      → ((u : Body) → body_by term b ≡ Some u → Writes (body_tokens name u) old mid) → Writes (Semicolon ∷ []) mid new
      → (d : CDeclaration) → declaration_by term (defined_subject name b) ≡ Some d → new ≡ old ++ written d
  defined_done None b inner last d e = absurd (cc)
  defined_done (Some name) b inner last d e = search (rules, map_inverted, both)

-- ---- shapes as the code has them

pub specifier-shape : (s : Shape) → ((q : Qualifier) (at : TypeAt) → s ≡ shape.Qualified q at → ⊥)
    → ((at : TypeAt) → s ≡ shape.Pointer at → ⊥)
    → ((counts : List (Option ℕ)) (strange : Bool) (at : TypeAt) → s ≡ shape.Array counts strange at → ⊥)
    → ((at : TypeAt) (parameters : Option (Vec Parameter Global)) → s ≡ shape.Function at parameters → ⊥)
    → is_specifier (view_shape s) ≡ true
specifier-shape (shape.Qualified q at) a b c d = absurd (a q at refl)
specifier-shape (shape.Pointer at) a b c d = absurd (b at refl)
specifier-shape (shape.Array counts strange at) a b c d = absurd (c counts strange at refl)
specifier-shape (shape.Function at parameters) a b c d = absurd (d at parameters refl)
specifier-shape _ a b c d = refl

pub some-mapped : {X Y : Type 0} (f : X → Y) (o : Option X) → is_some o ≡ is_some (option_map f o)
some-mapped f None = refl
some-mapped f (Some x) = refl

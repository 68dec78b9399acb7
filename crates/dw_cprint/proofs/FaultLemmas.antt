-- What is wrong with a type, by its own entry and by the types that it names.
use Rattle.std.proofs.Common.{rules, ◌≡◌, ℕ, Bool, true, false, List, [], ◌∷◌, Some, refl, sym, ap, ◌∙◌, ◌⊎◌, inl, inr, map, arith}
use Rattle.std.proofs.lemmas.Bool.{or_cases}
use Rattle.std.specs.Prelude.{IsTrue, All, Any, ◌↔◌, ◌||◌}
use Rattle.std.specs.List.{list_any}
use Rattle.std.proofs.lemmas.List.Elements.{All-weaker, All-nil}
use Rattle.std.proofs.lemmas.List.Folds.{Any-from_list_any, list_any-from_Any}
use Rattle.dw_cprint.specs.Declarations.{is_cut_short, is_misplaced}
use Rattle.dw_cprint.specs.Shapes.{Parameter, TypeAt, aggregate, ShapeOf, array, qualified, function, body, Enum, SubjectOf, variable_subject, defined_subject, declared_subject}
use Rattle.dw_cprint.specs.Steps.{parameter_types, types_declared, types_reached}
use Rattle.dw_cprint.specs.Summaries.{IsBase, KnowsType, base_known, has_void, is_own_unspeakable, is_unspeakable, kind_known}
use Rattle.dw_cprint.specs.declared.survey.Survey.{Survey}
use Rattle.dw_cprint.specs.Wrong.{TypeKind, kind_at, StandsUnder, nothing, itself, below, IsVoidLike, has_bad_name, has_own_bad_name, is_void, is_wrong, is_wrong_row, object_types, IsUnspeakable, wrong, void_object, row, IsOwnUnspeakable, void_variable, unspeakable, declared_enumeration}
use Rattle.dw_cprint.proofs.KindLemmas.{first-of, names-alike, others-of, own-names-alike, wrong-alike}
use Rattle.dw_cprint.proofs.OptionLemmas.{or_left, or_right}

-- a test that is another
pub test-same : {A : Type 0} {a b : Bool} → a ≡ b → IsTrue b ↔ A → IsTrue a ↔ A
test-same same f = (λ h. f.0 (sym same ∙ h), λ x. same ∙ f.1 x)

pub test-itself : {b c : Bool} → b ≡ c → IsTrue b ↔ (c ≡ true)
test-itself same = (λ h. sym same ∙ h, λ h. same ∙ h)

-- one of two tests
pub either : {A B C : Type 0} {a b all : Bool} → IsTrue a ↔ A → IsTrue b ↔ B → all ≡ (a || b) → (A ⊎ B) ↔ C
    → IsTrue all ↔ C
either one other is joins = search (rules, or_cases, or_left, or_right)

-- a test of each element, that says whether a fact holds of it
any-iff : {X : Type 0} (P : X → Type 0) (p : X → Bool) (xs : List X) → All (λ x. IsTrue (p x) ↔ P x) xs
    → IsTrue (list_any p xs) ↔ Any P xs
any-iff P p xs same = search (rules, Any-from_list_any, list_any-from_Any)

-- a test of what is seen of each element
pub any_seen : {X Y : Type 0} (p : Y → Bool) (f : X → Y) (xs : List X)
    → list_any p (map f xs) ≡ list_any (λ x. p (f x)) xs
any_seen p f [] = refl
any_seen p f (x ∷ xs) = ap (λ (b : Bool). p (f x) || b) (any_seen p f xs)

pub seen_any : {X Y : Type 0} (p : Y → Bool) (f : X → Y) (xs ys : List X) (r : Bool) → r ≡ list_any (λ x. p (f x)) xs
    → xs ≡ ys → r ≡ list_any p (map f ys)
seen_any {X = X} p f xs ys r is same = is ∙ ap (λ (zs : List X). list_any (λ x. p (f x)) zs) same
    ∙ sym (any_seen p f ys)

-- ---- what stands under a row of qualifiers

one-base : {shapes : ℕ → ShapeOf} {at one other : TypeAt} → StandsUnder shapes at one → StandsUnder shapes at other
    → one ≡ other
one-base nothing nothing = refl
one-base (itself plain) (itself other_plain) = refl
one-base (itself plain) (below q at is under) = absurd (plain q at is)
one-base (below q at is under) (itself plain) = absurd (plain q at is)
one-base {shapes = shapes} {other = other} (below q at is under) (below r to is' under') =
    let same : to ≡ at = (let both : qualified q at ≡ qualified r to = sym is ∙ is' in cc) in
    one-base under (rw same at under')

module _ (shapes : ℕ → ShapeOf) (at : TypeAt) (k : TypeKind) (known : IsBase shapes at k) where
  -- its kind is the one that is known
  base-kind : (under : TypeAt) → StandsUnder shapes at under → k ≡ kind_at shapes under
  base-kind under stands = known.2 ∙ ap (kind_at shapes) (one-base known.1 stands)

  void-like : IsTrue (is_void k) ↔ IsVoidLike shapes at
  void-like = search (rules, base-kind)

-- ---- what summaries tell

-- the types that cannot be void are among those that a shape names
pub objects-of : (P : TypeAt → Type 0) (shape : ShapeOf) → All P (types_reached shape) → All P (object_types shape)
objects-of P (array counts strange at) all = all
objects-of P (function at (Some ps)) all = others-of P at (parameter_types ps) all
objects-of P (body (aggregate word odd ms)) all = all
objects-of P _ all = All-nil P

module _ (shapes : ℕ → ShapeOf) (s : Survey) where
  kinds-known : (types : List TypeAt) → All (KnowsType shapes s) types
      → All (λ at. kind_known s at ≡ kind_at shapes at) types
  kinds-known types all =
      All-weaker (KnowsType shapes s) (λ at. kind_known s at ≡ kind_at shapes at) (λ at known. known.is_kind) types all

  pub names-known : (shape : ShapeOf) → All (KnowsType shapes s) (types_reached shape)
      → has_bad_name (kind_known s) shape ≡ has_bad_name (kind_at shapes) shape
  names-known shape all = names-alike (kind_known s) (kind_at shapes) shape (kinds-known (types_reached shape) all)

  pub own-names-known : (subject : SubjectOf) → All (KnowsType shapes s) (types_declared subject)
      → has_own_bad_name (kind_known s) subject ≡ has_own_bad_name (kind_at shapes) subject
  own-names-known subject all =
      own-names-alike (kind_known s) (kind_at shapes) subject (kinds-known (types_declared subject) all)

  void-known : (at : TypeAt) → KnowsType shapes s at → IsTrue (is_void (base_known s at)) ↔ IsVoidLike shapes at
  void-known at known = void-like shapes at (base_known s at) known.is_base

  voids-known : (shape : ShapeOf) → All (KnowsType shapes s) (types_reached shape)
      → IsTrue (has_void s (object_types shape))
      ↔ Any (IsVoidLike shapes) (object_types shape)
  voids-known shape all = search (rules, any-iff, void-known, objects-of)

  wrong-known : (shape : ShapeOf) → All (KnowsType shapes s) (types_reached shape)
      → is_wrong (kind_known s) shape ≡ is_wrong (kind_at shapes) shape
  wrong-known shape all = wrong-alike (kind_known s) (kind_at shapes) shape (kinds-known (types_reached shape) all)

  unspeakable-told : (shape : ShapeOf) → All (KnowsType shapes s) (types_reached shape) → is_unspeakable s shape ≡ true
      → IsUnspeakable shapes shape
  unspeakable-told (qualified q at) all h =
      let base = (first-of (KnowsType shapes s) at [] all).is_base in
      row base.0 base.1 (ap (is_wrong_row q) (sym base.2) ∙ h)
  unspeakable-told shape all t = elim (or_cases (has_void s (object_types shape)) _ t) [
    | inl h ↦ void_object ((voids-known shape all).0 h)
    | inr h ↦ wrong (sym (wrong-known shape all) ∙ h)
  ]

  unspeakable-tells : (shape : ShapeOf) → All (KnowsType shapes s) (types_reached shape) → IsUnspeakable shapes shape
      → is_unspeakable s shape ≡ true
  unspeakable-tells (qualified q at) all (row under stands h) =
      let base = (first-of (KnowsType shapes s) at [] all).is_base in
      ap (is_wrong_row q) (base-kind shapes at (base_known s at) base under stands) ∙ h
  unspeakable-tells (qualified q at) all (wrong h) = absurd (cc)
  unspeakable-tells (qualified q at) all (void_object some) = absurd (omega (arith, some.2))
  unspeakable-tells shape all (wrong h) =
      or_right (has_void s (object_types shape)) (is_wrong (kind_known s) shape) (wrong-known shape all ∙ h)
  unspeakable-tells shape all (void_object some) =
      or_left (has_void s (object_types shape)) (is_wrong (kind_known s) shape) ((voids-known shape all).1 some)

  pub unspeakable-known : (shape : ShapeOf) → All (KnowsType shapes s) (types_reached shape)
      → IsTrue (is_unspeakable s shape) ↔ IsUnspeakable shapes shape
  unspeakable-known shape all = (unspeakable-told shape all, unspeakable-tells shape all)

  pub own-unspeakable-known : (subject : SubjectOf) → All (KnowsType shapes s) (types_declared subject)
      → IsTrue (is_own_unspeakable s subject) ↔ IsOwnUnspeakable shapes subject
  own-unspeakable-known (variable_subject name at) all =
      let void = void-known at (first-of (KnowsType shapes s) at [] all) in
      (λ h. void_variable (void.0 h), λ h. elim h [ void_variable v ↦ void.1 v ])
  own-unspeakable-known (defined_subject name b) all =
      let known = unspeakable-known (body b) all in
      (λ h. unspeakable (known.0 h), λ h. elim h [ unspeakable u ↦ known.1 u ])
  own-unspeakable-known (declared_subject Enum name) all = (λ h. declared_enumeration, λ h. refl)
  own-unspeakable-known _ all = (λ h. absurd (cc), λ h. elim h [ ])

-- ---- parameters

-- whether unspecified parameters among those that are left are misplaced
abbrev pub has_spare : (typed : Bool) → List Parameter → Bool
has_spare true ps = is_cut_short ps
has_spare false ps = is_misplaced ps

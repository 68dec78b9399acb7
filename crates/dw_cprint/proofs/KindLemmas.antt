-- Tests of a shape by the kinds of the types that it names: they are the same where these kinds are.
use Rattle.std.proofs.Common.{◌≡◌, ℕ, zero, suc, Bool, List, [], ◌∷◌, Some, None, refl, ap, arith}
use Rattle.std.specs.Prelude.{All, Contains, ◌||◌}
use Rattle.std.specs.List.{list_any}
use Rattle.dw_cprint.specs.Declarations.{is_miscounted, is_misplaced}
use Rattle.dw_cprint.specs.Shapes.{TypeAt, MemberOf, aggregate, ShapeOf, array, function, body, SubjectOf, defined_subject}
use Rattle.dw_cprint.specs.Steps.{entries_among, member_types, parameter_types, types_declared, types_reached}
use Rattle.dw_cprint.specs.Wrong.{TypeKind, has_bad_name, has_own_bad_name, is_bracketed, is_function, is_open_array, is_wrong, is_wrong_bits, lacks_member_name, lacks_name}

pub first-of : (P : TypeAt → Type 0) (at : TypeAt) (ats : List TypeAt) → All P (at ∷ ats) → P at
first-of P at ats all = all 0 at (omega arith)

pub others-of : (P : TypeAt → Type 0) (at : TypeAt) (ats : List TypeAt) → All P (at ∷ ats) → All P ats
others-of P at ats all = λ k d within. all (suc k) d (omega arith)

-- a fact of types holds of void, and of each entry among them
pub all-types : (P : TypeAt → Type 0) → P None → (types : List TypeAt)
    → ((to : ℕ) → Contains (entries_among types) to → P (Some to)) → All P types
all-types P void [] each k d w = absurd (omega arith)
all-types P void (None ∷ types) each zero d w = void
all-types P void (None ∷ types) each (suc k) d w = all-types P void types each k d (omega arith)
all-types P void (Some to ∷ types) each zero d w = each to (0, omega arith, refl)
all-types P void (Some to ∷ types) each (suc k) d w =
    all-types P void types (λ x c. each x (suc c.0, omega (arith, c.1), c.2)) k d (omega arith)

module _ (f g : TypeAt → TypeKind) where
  abbrev Same : TypeAt → Type 0
  Same at = f at ≡ g at

  -- a test of each member and of the kind of its type
  members-alike : (test : TypeKind → MemberOf → Bool) (ms : List MemberOf) → All Same (member_types ms)
      → list_any (λ (m : MemberOf). test (f m.type_at) m) ms ≡ list_any (λ (m : MemberOf). test (g m.type_at) m) ms
  members-alike test [] same = refl
  members-alike test (m ∷ ms) same =
      let here = first-of Same m.type_at (member_types ms) same in
      let rest = members-alike test ms (others-of Same m.type_at (member_types ms) same) in
      rw (here, rest) refl

  pub names-alike : (shape : ShapeOf) → All Same (types_reached shape) → has_bad_name f shape ≡ has_bad_name g shape
  names-alike (body (aggregate word odd ms)) same = members-alike (λ k m. lacks_member_name k m.bits m.name) ms same
  names-alike _ same = refl

  pub own-names-alike : (subject : SubjectOf) → All Same (types_declared subject)
      → has_own_bad_name f subject ≡ has_own_bad_name g subject
  own-names-alike (defined_subject name b) same =
      ap (λ (bad : Bool). lacks_name name || bad) (names-alike (body b) same)
  own-names-alike _ same = refl

  pub wrong-alike : (shape : ShapeOf) → All Same (types_reached shape) → is_wrong f shape ≡ is_wrong g shape
  wrong-alike (array counts strange at) same =
      ap (λ (k : TypeKind). strange || (is_miscounted counts || (is_function k || is_open_array k)))
      (first-of Same at [] same)
  wrong-alike (function at None) same = ap is_bracketed (first-of Same at [] same)
  wrong-alike (function at (Some ps)) same =
      ap (λ (k : TypeKind). is_bracketed k || is_misplaced ps) (first-of Same at (parameter_types ps) same)
  wrong-alike (body (aggregate word odd ms)) same =
      members-alike (λ k m. is_function k || is_wrong_bits k m.bits) ms same
  wrong-alike _ same = refl

-- State: the shapes that a survey keeps, and what is written from them.
use Rattle.std.specs.Prelude.{◌≡◌, ℕ, ℤ, Bool, true, false, List, [], ◌∷◌, ◌++◌, Option, Some, slice_get}
use Rattle.std.specs.Prelude.{option_and_then}
use Rattle.std.specs.Option.{option_map_or}
use Rattle.dw_cprint.specs.Declarations.{term_at, body_by, parameters_by, has_more, is_misplaced, constants_of}
use Rattle.dw_cprint.specs.Declarations.{declaration_of}
use Rattle.dw_cprint.specs.Shapes.{Parameter, Typed, More, Name, TypeAt, MemberOf, details_of, EnumeratorOf, BodyOf}
use Rattle.dw_cprint.specs.Shapes.{ShapeOf, other, SubjectOf, view_shape}
use Rattle.dw_cprint.specs.Terms.{Term, Parameters, Prototyped, Constant, Valued}
use Rattle.dw_cprint.specs.Tokens.{Token, LeftBrace, RightBrace, Blank, Dot, text_of}
use Rattle.dw_cprint.specs.Writing.{body_tokens, spell, name_tokens, member_tokens, constant_tokens, constants}
use Rattle.dw_cprint.specs.Writing.{more_constants, signature_tokens, declaration_tokens}
use Rattle.dw_cprint.specs.declared.survey.Survey.{Survey}

-- what is listed for an entry, by the place of that entry
abbrev pub found_at : {X : Type 0} → List ℕ → List X → ℕ → Option X
found_at places xs entry = option_and_then (slice_get xs) (slice_get places entry)

-- the shape that is kept of an entry; other where none is
unfoldable pub kept : Survey → ℕ → ShapeOf
kept s entry = option_map_or view_shape (found_at s.places.items s.shapes.items entry) other

-- the term of a type, by the shapes that are kept
abbrev pub kept_term : Survey → ℕ → TypeAt → Option Term
kept_term s k = term_at k (kept s)

-- some tokens' text was written after what was there
abbrev pub Writes : List Token → List ℕ → List ℕ → Type 0
Writes tokens old new = new ≡ old ++ text_of tokens

-- the tokens of a value were written, if there is one
abbrev pub WritesOf : {X : Type 0} → Option X → (tokens : X → List Token) → List ℕ → List ℕ → Type 0
WritesOf {X = X} o tokens old new = (x : X) → o ≡ Some x → Writes (tokens x) old new

-- a member of a body was written
abbrev pub WritesMember : Survey → ℕ → MemberOf → List ℕ → List ℕ → Type 0
WritesMember s k m =
    WritesOf (kept_term s k m.type_at) (λ (t : Term). member_tokens (details_of m) (spell [] t (name_tokens m.name)))

-- an enumerator was written
abbrev pub WritesEnumerator : EnumeratorOf → List ℕ → List ℕ → Type 0
WritesEnumerator e old new =
    (name : List ℕ) (value : ℤ) → e.name ≡ Some name → e.value ≡ Some value
    → Writes (constant_tokens (Valued name value)) old new

-- the constants that are left, with a comma and a space before each; not before the first of all
abbrev pub constants_left : (others : Bool) → List Constant → List Token
constants_left false cs = constants cs
constants_left true cs = more_constants cs

-- the enumerators that are left are still to be written
pub record EnumeratorsLeft (all : List EnumeratorOf) (begin : List ℕ) (others : Bool)
    (left : List EnumeratorOf) (out : List ℕ) : Type 0 where
  pub rest : (us : List Constant) → constants_of all ≡ Some us
      → (vs : List Constant) × (constants_of left ≡ Some vs)
      × (out ++ text_of (constants_left others vs) ≡ begin ++ text_of (constants us))

-- the enumerators were written, in braces
abbrev pub WritesEnumerators : List EnumeratorOf → List ℕ → List ℕ → Type 0
WritesEnumerators es =
    WritesOf (constants_of es) (λ (cs : List Constant). LeftBrace ∷ Blank ∷ (constants cs ++ Blank ∷ RightBrace ∷ []))

-- a body was written after its keyword and a name, if there is one
abbrev pub WritesBody : Survey → ℕ → Name → BodyOf → List ℕ → List ℕ → Type 0
WritesBody s k name b = WritesOf (body_by (kept_term s k) b) (body_tokens name)

-- a parameter was written, or that others follow
abbrev pub WritesParameter : Survey → ℕ → Parameter → List ℕ → List ℕ → Type 0
WritesParameter s k (Typed at) old new = WritesOf (kept_term s k at) (λ (t : Term). spell [] t []) old new
WritesParameter s k More old new = Writes (Dot ∷ Dot ∷ Dot ∷ []) old new

-- the parameters of a function were written
abbrev pub WritesParameters : Survey → ℕ → List Parameter → List ℕ → List ℕ → Type 0
WritesParameters s k ps old new =
    is_misplaced ps ≡ false
    → WritesOf (parameters_by (kept_term s k) ps)
    (λ (us : Parameters). signature_tokens (Prototyped us (has_more ps))) old new

-- the declaration of the declared entry was written
abbrev pub WritesDeclaration : Survey → SubjectOf → List ℕ → List ℕ → Type 0
WritesDeclaration s subject = WritesOf (declaration_of (kept s) subject) declaration_tokens

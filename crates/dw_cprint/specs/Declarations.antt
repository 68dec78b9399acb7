-- Chapter: the declaration of an entry as a term, by the shapes of the entries that it reaches.
use Rattle.std.specs.Prelude.{ℕ, ℤ, zero, suc, ◌==◌, Bool, true, false, List, [], ◌∷◌, Option, Some, None, is_none}
use Rattle.std.specs.Prelude.{option_map, option_and_then, bytes_eq, if◌then◌else◌}
use Rattle.std.specs.List.{find, list_any, slice_split}
use Rattle.dw_cprint.specs.Legible.{is_identifier}
use Rattle.dw_cprint.specs.Terms.{TypeWord, Constant, Valued, Term, Void, Named, Basic, Tagged, Unnamed, Body}
use Rattle.dw_cprint.specs.Terms.{Aggregate, Constants, Qualified, Pointer, Array as ArrayTerm, Function, Unprototyped}
use Rattle.dw_cprint.specs.Terms.{Prototyped, Parameters, NoParameter, Parameter as ParameterTerm, Members, NoMember}
use Rattle.dw_cprint.specs.Terms.{Member as MemberTerm, CDeclaration, Typedef, Variable, Defined, Declared}
use Rattle.dw_cprint.specs.Tokens.{type_word_spelling, type_words}
use Rattle.dw_cprint.specs.Shapes.{Parameter, Typed, More, TypeAt, MemberOf, details_of, EnumeratorOf, BodyOf}
use Rattle.dw_cprint.specs.Shapes.{aggregate, enumeration, ShapeOf, base, typedef, qualified, pointer, array, function}
use Rattle.dw_cprint.specs.Shapes.{tagged, body, SubjectOf, typedef_subject, variable_subject, defined_subject}
use Rattle.dw_cprint.specs.Shapes.{declared_subject}

-- ---- names of base types

-- the type word that a part of a name is
abbrev pub word_of : List ℕ → Option TypeWord
word_of part = find (λ (word : TypeWord). bytes_eq part (type_word_spelling word)) type_words

-- the parts between spaces
abbrev pub parts_of : List ℕ → List (List ℕ)
parts_of name = slice_split (λ byte. byte == 32) name

-- the type words that the parts are, up to so many
abbrev pub words_of : (most : ℕ) → List (List ℕ) → Option (List TypeWord)
words_of most [] = Some []
words_of zero (part ∷ parts) = None
words_of (suc most) (part ∷ parts) =
    option_and_then (λ (w : TypeWord). option_map (λ (ws : List TypeWord). w ∷ ws) (words_of most parts)) (word_of part)

-- an identifier, or 1 to 4 type words joined by one space each
abbrev pub base_term : List ℕ → Option Term
base_term name = if is_identifier name then Some (Named name) else option_map Basic (words_of 4 (parts_of name))

-- ---- terms

-- one array in another for each dimension, the first outermost
abbrev pub nested_arrays : List (Option ℕ) → Term → Term
nested_arrays [] element = element
nested_arrays (count ∷ counts) element = ArrayTerm count (nested_arrays counts element)

-- a count after the first is unknown, or there is none
abbrev pub is_miscounted : List (Option ℕ) → Bool
is_miscounted [] = true
is_miscounted (count ∷ counts) = list_any is_none counts

-- the enumerators, where each has a name and a number
abbrev pub constants_of : List EnumeratorOf → Option (List Constant)
constants_of [] = Some []
constants_of (e ∷ es) =
    option_and_then
    (λ (name : List ℕ).
    option_and_then
    (λ (value : ℤ). option_map (λ (cs : List Constant). Valued name value ∷ cs) (constants_of es))
    e.value)
    e.name

-- unspecified parameters before the end
abbrev pub is_cut_short : List Parameter → Bool
is_cut_short [] = false
is_cut_short (Typed at ∷ parameters) = is_cut_short parameters
is_cut_short (More ∷ []) = false
is_cut_short (More ∷ parameter ∷ parameters) = true

-- unspecified parameters before another, twice or alone
abbrev pub is_misplaced : List Parameter → Bool
is_misplaced (More ∷ parameters) = true
is_misplaced parameters = is_cut_short parameters

-- unspecified parameters are among these
abbrev pub has_more : List Parameter → Bool
has_more [] = false
has_more (Typed at ∷ parameters) = has_more parameters
has_more (More ∷ parameters) = true

-- the terms of parameters, members and entries, by those of the types that they name
module _ (term : TypeAt → Option Term) where
  -- the parameters of a function; unspecified parameters are left out here
  abbrev pub parameters_by : List Parameter → Option Parameters
  parameters_by [] = Some NoParameter
  parameters_by (Typed at ∷ ps) =
      option_and_then (λ (t : Term). option_map (ParameterTerm t) (parameters_by ps)) (term at)
  parameters_by (More ∷ ps) = parameters_by ps

  -- the members of a body
  abbrev pub members_by : List MemberOf → Option Members
  members_by [] = Some NoMember
  members_by (m ∷ ms) =
      option_and_then (λ (t : Term). option_map (MemberTerm (details_of m) t) (members_by ms)) (term m.type_at)

  -- a body
  abbrev pub body_by : BodyOf → Option Body
  body_by (aggregate word odd ms) = option_map (Aggregate word) (members_by ms)
  body_by (enumeration odd es) = option_map Constants (constants_of es)

  -- the term of an entry that is reached, by its shape, if it has one
  abbrev pub term_by : ShapeOf → Option Term
  term_by (base (Some name)) = base_term name
  term_by (typedef (Some name)) = Some (Named name)
  term_by (qualified q at) = option_map (Qualified q) (term at)
  term_by (pointer at) = option_map Pointer (term at)
  term_by (array counts strange at) = if is_miscounted counts then None else option_map (nested_arrays counts) (term at)
  term_by (function at None) = option_map (λ (t : Term). Function t Unprototyped) (term at)
  term_by (function at (Some ps)) =
      if is_misplaced ps then None
      else option_and_then
      (λ (t : Term). option_map (λ (us : Parameters). Function t (Prototyped us (has_more ps))) (parameters_by ps))
      (term at)
  term_by (tagged word name) = Some (Tagged word name)
  term_by (body b) = option_map Unnamed (body_by b)
  term_by _ = None

  -- the declaration of the entry that is declared
  abbrev pub declaration_by : SubjectOf → Option CDeclaration
  declaration_by (typedef_subject (Some name) at) = option_map (Typedef name) (term at)
  declaration_by (variable_subject (Some name) at) = option_map (Variable name) (term at)
  declaration_by (defined_subject (Some name) b) = option_map (Defined name) (body_by b)
  declaration_by (declared_subject word (Some name)) = Some (Declared word name)
  declaration_by _ = None

-- the term of a type, where fewer than k steps lead on from it in a row
abbrev pub term_at : ℕ → (ℕ → ShapeOf) → TypeAt → Option Term
term_at zero shapes at = None
term_at (suc k) shapes None = Some Void
term_at (suc k) shapes (Some entry) = term_by (term_at k shapes) (shapes entry)

-- the declaration of an entry, where no path of more than 64 steps begins at it; void may come after the last
unfoldable pub declaration_of : (ℕ → ShapeOf) → SubjectOf → Option CDeclaration
declaration_of shapes subject = declaration_by (term_at 65 shapes) subject

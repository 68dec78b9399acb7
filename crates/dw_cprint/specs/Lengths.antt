-- State: how many bytes the text of a type has, by what is known of the types that it names. A number above the limit
-- is kept as the limit plus one.
use Rattle.std.specs.Prelude.{◌≡◌, ℕ, ℤ, ◌+◌, min, Bool, true, false, not, ◌||◌, List, [], ◌∷◌, Option, Some, None}
use Rattle.std.specs.Prelude.{length, sum_by, if◌then◌else◌}
use Rattle.dw_types.specs.Sizes.{has_elements}
use Rattle.dw_cprint.specs.Declarators.{before, after, opening, closing}
use Rattle.dw_cprint.specs.Shapes.{Qualifier, TagKeyword, OfAggregate, Enum, Name, Parameter, Typed, More, TypeAt}
use Rattle.dw_cprint.specs.Shapes.{MemberOf, details_of, EnumeratorOf, aggregate, enumeration, ShapeOf, base, typedef}
use Rattle.dw_cprint.specs.Shapes.{qualified, pointer, array, function, tagged, body, SubjectOf, typedef_subject}
use Rattle.dw_cprint.specs.Shapes.{variable_subject, defined_subject, declared_subject, other_subject}
use Rattle.dw_cprint.specs.Terms.{Term}
use Rattle.dw_cprint.specs.Tokens.{Token, text_of, qualifier_spelling, tag_spelling}
use Rattle.dw_cprint.specs.Writing.{spell, count_tokens, member_tokens, value_tokens}
use Rattle.dw_cprint.specs.Wrong.{TypeKind, is_bracketed, is_pointer, kind_in}
use Rattle.dw_cprint.specs.declared.survey.Summary.{Summary}

-- how many bytes the text of some tokens has
abbrev pub byte_count : List Token → ℕ
byte_count tokens = length (text_of tokens)

-- a number of bytes, or the limit plus one if it is above the limit
abbrev pub capped : ℕ → ℕ
capped n = min n 65537

-- the bytes of a type, without those of its declarator
abbrev pub type_bytes : Term → Bool → ℕ
type_bytes t inside = byte_count (before [] t inside) + byte_count (after t)

-- the bytes of a space, if there is one
abbrev pub space : Bool → ℕ
space there = if there then 1 else 0

-- a space comes between a type and a declarator that is not empty, by the kind of the type and of what is under its
-- qualifiers
abbrev pub has_gap : (kind under : TypeKind) → Bool
has_gap kind under = not (is_bracketed under || is_pointer kind)

-- what a qualifier adds, in front of other qualifiers, of a declarator, or of neither
abbrev pub qualifier_bytes : (kind under : TypeKind) → Qualifier → (before_others : Bool) → ℕ
qualifier_bytes kind under q before_others =
    if is_bracketed under then 0 else length (qualifier_spelling q) + space (not (is_pointer kind) || before_others)

-- how many bytes the text of a type has without a declarator, and what qualifiers, a declarator and a star add
pub record IsLength (t : Term) (kind under : TypeKind) (n : ℕ) : Type 0 where
  pub bare : n ≡ capped (byte_count (spell [] t []))
  pub around : type_bytes t true ≡ type_bytes t false + space (has_gap kind under)
  pub qualifier : (q : Qualifier) (qs : List Qualifier) (inside : Bool)
      → byte_count (before (q ∷ qs) t inside)
      ≡ byte_count (before qs t inside) + qualifier_bytes kind under q (has_elements qs || inside)
  pub parentheses : byte_count (opening t) + byte_count (closing t) ≡ (if is_bracketed kind then 2 else 0)

-- the bytes of a name, if there is one
abbrev pub name_bytes : Name → ℕ
name_bytes None = 0
name_bytes (Some name) = length name

-- the bytes of the word before a tag, a space, and the tag
abbrev pub tag_bytes : TagKeyword → Name → ℕ
tag_bytes word name = length (tag_spelling word) + 1 + name_bytes name

-- the bytes of a value, if there is one
abbrev pub value_bytes : Option ℤ → ℕ
value_bytes None = 0
value_bytes (Some value) = byte_count (value_tokens value)

-- the bytes of an enumerator, ` = ` and its value, with the comma or the brace before it and a space
abbrev pub enumerator_bytes : EnumeratorOf → ℕ
enumerator_bytes e = name_bytes e.name + 5 + value_bytes e.value

-- the bytes of the brackets of a dimension
abbrev pub count_bytes : Option ℕ → ℕ
count_bytes count = byte_count (count_tokens count)

-- the bytes of enumerators, in braces
abbrev pub enumerators_bytes : List EnumeratorOf → ℕ
enumerators_bytes [] = 4
enumerators_bytes (e ∷ es) = 2 + sum_by enumerator_bytes (e ∷ es)

module _ (known : TypeAt → Summary) where
  -- the bytes of a type with a declarator that is not empty, without those of the declarator
  abbrev pub bytes_around : TypeAt → ℕ
  bytes_around at = (known at).length + space (has_gap (known at).kind (known at).base)

  -- the bytes of a type with a name, or with nothing
  abbrev pub named_bytes : TypeAt → Name → ℕ
  named_bytes at None = (known at).length
  named_bytes at (Some name) = bytes_around at + length name

  -- the bytes of a member: its type and name, and what is around them
  abbrev pub member_bytes : MemberOf → ℕ
  member_bytes m = named_bytes m.type_at m.name + byte_count (member_tokens (details_of m) [])

  -- the bytes of members, in braces
  abbrev pub members_bytes : List MemberOf → ℕ
  members_bytes ms = 3 + sum_by member_bytes ms

  -- the bytes of a parameter, with the comma and space or the parentheses around the first
  abbrev pub parameter_bytes : Parameter → ℕ
  parameter_bytes (Typed at) = (known at).length + 2
  parameter_bytes More = 5

  -- the bytes of parameters, in parentheses
  abbrev pub parameters_bytes : List Parameter → ℕ
  parameters_bytes [] = 6
  parameters_bytes (p ∷ ps) = sum_by parameter_bytes (p ∷ ps)

  -- the bytes of a shape without a declarator
  abbrev pub shape_bytes : ShapeOf → ℕ
  shape_bytes (base name) = name_bytes name
  shape_bytes (typedef name) = name_bytes name
  shape_bytes (qualified q at) = (known at).length + qualifier_bytes (known at).kind (known at).base q false
  shape_bytes (pointer at) = bytes_around at + (if is_bracketed (known at).kind then 3 else 1)
  shape_bytes (array counts strange at) = bytes_around at + sum_by count_bytes counts
  shape_bytes (function at None) = bytes_around at + 2
  shape_bytes (function at (Some ps)) = bytes_around at + parameters_bytes ps
  shape_bytes (tagged word name) = tag_bytes word (Some name)
  shape_bytes (body (aggregate word odd ms)) = tag_bytes (OfAggregate word) None + members_bytes ms
  shape_bytes (body (enumeration odd es)) = tag_bytes Enum None + enumerators_bytes es
  shape_bytes _ = 0

  -- the kind of what is under a row of qualifiers that begins with the shape
  abbrev pub base_kind : ShapeOf → TypeKind
  base_kind (qualified q at) = (known at).base
  base_kind shape = kind_in (Some shape)

  -- the bytes of a declaration; a typedef has `typedef ` before and `;` after it, a body ` ` and `;`
  abbrev pub declared_bytes : SubjectOf → ℕ
  declared_bytes (typedef_subject name at) = named_bytes at name + 9
  declared_bytes (variable_subject name at) = named_bytes at name + 1
  declared_bytes (defined_subject name b) = shape_bytes (body b) + name_bytes name + 2
  declared_bytes (declared_subject word name) = tag_bytes word name + 1
  declared_bytes other_subject = 0

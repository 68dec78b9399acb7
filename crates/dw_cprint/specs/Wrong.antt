-- Chapter: what is wrong with one entry, by the second, third and fourth refusal.
use Rattle.std.specs.Prelude.{◌≡◌, ℕ, Bool, true, false, not, ◌&&◌, ◌||◌, List, [], ◌∷◌, Option, Some, None, Any}
use Rattle.std.specs.Prelude.{zero, suc, is_none, is_some}
use Rattle.std.specs.List.{list_any}
use Rattle.dw_cprint.specs.Declarations.{words_of, parts_of}
pub use Rattle.dw_cprint.specs.Declarations.{is_miscounted, is_misplaced}
use Rattle.dw_cprint.specs.Legible.{is_identifier}
use Rattle.dw_cprint.specs.Shapes.{Qualifier, Restrict, OfAggregate, Enum, Name, TypeAt, MemberOf, EnumeratorOf}
use Rattle.dw_cprint.specs.Shapes.{BodyOf, aggregate, enumeration, ShapeOf, base, typedef, qualified, pointer, array}
use Rattle.dw_cprint.specs.Shapes.{function, tagged, nameless, body, foreign, other, SubjectOf, typedef_subject}
use Rattle.dw_cprint.specs.Shapes.{variable_subject, defined_subject, declared_subject}
use Rattle.dw_cprint.specs.Steps.{parameter_types, member_types}
pub use Rattle.dw_cprint.specs.declared.shape.TypeKind.{TypeKind}
use Rattle.dw_cprint.specs.declared.shape.TypeKind.TheVariants as kind

-- ---- types

-- the shape of a type; void is no entry
abbrev pub shape_of : (ℕ → ShapeOf) → TypeAt → Option ShapeOf
shape_of shapes None = None
shape_of shapes (Some entry) = Some (shapes entry)

-- the first count is unknown
abbrev pub starts_open : List (Option ℕ) → Bool
starts_open (None ∷ counts) = true
starts_open _ = false

-- the kind of a shape; void has none
abbrev pub kind_in : Option ShapeOf → TypeKind
kind_in None = kind.Void
kind_in (Some (typedef name)) = kind.Typedef
kind_in (Some (qualified q at)) = kind.Qualified
kind_in (Some (pointer at)) = kind.Pointer
kind_in (Some (array counts strange at)) = kind.Array (starts_open counts)
kind_in (Some (function at parameters)) = kind.Function
kind_in (Some (nameless (OfAggregate word))) = kind.UnnamedAggregate
kind_in (Some (body (aggregate word odd ms))) = kind.UnnamedAggregate
kind_in (Some _) = kind.Other

-- the kind of a type
abbrev pub kind_at : (ℕ → ShapeOf) → TypeAt → TypeKind
kind_at shapes at = kind_in (shape_of shapes at)

-- what is under a row of qualifiers; None is void
pub data StandsUnder (shapes : ℕ → ShapeOf) : TypeAt → TypeAt → Type 0 where
  nothing : StandsUnder shapes None None
  itself : {entry : ℕ} → ((q : Qualifier) (at : TypeAt) → shapes entry ≡ qualified q at → ⊥)
      → StandsUnder shapes (Some entry) (Some entry)
  below : {entry : ℕ} {under : TypeAt} (q : Qualifier) (at : TypeAt) → shapes entry ≡ qualified q at
      → StandsUnder shapes at under → StandsUnder shapes (Some entry) under

-- absent, or a qualifier over a void-like type
abbrev pub IsVoidLike : (ℕ → ShapeOf) → TypeAt → Type 0
IsVoidLike shapes at = StandsUnder shapes at None

-- ---- kinds

-- void
abbrev pub is_void : TypeKind → Bool
is_void kind.Void = true
is_void _ = false

-- a function
abbrev pub is_function : TypeKind → Bool
is_function kind.Function = true
is_function _ = false

-- an array or a function
abbrev pub is_bracketed : TypeKind → Bool
is_bracketed (kind.Array unknown) = true
is_bracketed kind.Function = true
is_bracketed _ = false

-- a pointer
abbrev pub is_pointer : TypeKind → Bool
is_pointer kind.Pointer = true
is_pointer _ = false

-- an array or a pointer
abbrev pub is_array_or_pointer : TypeKind → Bool
is_array_or_pointer (kind.Array unknown) = true
is_array_or_pointer kind.Pointer = true
is_array_or_pointer _ = false

-- an array whose first count is unknown
abbrev pub is_open_array : TypeKind → Bool
is_open_array (kind.Array unknown) = unknown
is_open_array _ = false

-- what restrict may qualify
abbrev pub is_restrictable : TypeKind → Bool
is_restrictable kind.Pointer = true
is_restrictable kind.Typedef = true
is_restrictable _ = false

-- a structure or a union without a name
abbrev pub is_unnamed_aggregate : TypeKind → Bool
is_unnamed_aggregate kind.UnnamedAggregate = true
is_unnamed_aggregate _ = false

-- ---- names

-- an identifier, or 1 to 4 type words joined by one space each
abbrev pub is_base_name : List ℕ → Bool
is_base_name name = is_identifier name || is_some (words_of 4 (parts_of name))

-- there is no identifier
abbrev pub lacks_name : Name → Bool
lacks_name None = true
lacks_name (Some name) = not (is_identifier name)

-- the enumerator has no identifier
abbrev pub lacks_identifier : EnumeratorOf → Bool
lacks_identifier e = lacks_name e.name

-- there is no name of a base type
abbrev pub lacks_base_name : Name → Bool
lacks_base_name None = true
lacks_base_name (Some name) = not (is_base_name name)

-- a member needs a name but where its type is directly a structure or union without one and it has no bit size
abbrev pub lacks_member_name : TypeKind → Option ℕ → Name → Bool
lacks_member_name k bits None = not (is_unnamed_aggregate k && is_none bits)
lacks_member_name k bits (Some name) = not (is_identifier name)

-- the second refusal, at an entry that is reached, by the kinds of the types that it names
abbrev pub has_bad_name : (TypeAt → TypeKind) → ShapeOf → Bool
has_bad_name kinds (base name) = lacks_base_name name
has_bad_name kinds (typedef name) = lacks_name name
has_bad_name kinds (tagged word name) = lacks_name (Some name)
has_bad_name kinds (nameless word) = true
has_bad_name kinds (body (aggregate word odd ms)) =
    list_any (λ (m : MemberOf). lacks_member_name (kinds m.type_at) m.bits m.name) ms
has_bad_name kinds (body (enumeration odd es)) = list_any lacks_identifier es
has_bad_name kinds _ = false

-- the same
abbrev pub HasBadName : (ℕ → ShapeOf) → ShapeOf → Type 0
HasBadName shapes shape = has_bad_name (kind_at shapes) shape ≡ true

-- the same of the declared entry: its own name, and those of its body
abbrev pub has_own_bad_name : (TypeAt → TypeKind) → SubjectOf → Bool
has_own_bad_name kinds (typedef_subject name at) = lacks_name name
has_own_bad_name kinds (variable_subject name at) = lacks_name name
has_own_bad_name kinds (defined_subject name b) = lacks_name name || has_bad_name kinds (body b)
has_own_bad_name kinds (declared_subject word name) = lacks_name name
has_own_bad_name kinds _ = false

-- ---- types of other languages

-- the third refusal, at an entry that is reached: of another language or unspecified, or a body with a child that C
-- does not have
abbrev pub is_foreign : ShapeOf → Bool
is_foreign foreign = true
is_foreign other = true
is_foreign (body (aggregate word odd ms)) = odd
is_foreign (body (enumeration odd es)) = odd
is_foreign _ = false

-- the same of the declared entry: its body has a child that C does not have
abbrev pub is_own_foreign : SubjectOf → Bool
is_own_foreign (defined_subject name b) = is_foreign (body b)
is_own_foreign _ = false

-- ---- what C has no words for

-- bits that are no number of 1 or more, or that come with an array or a pointer
abbrev pub is_wrong_bits : TypeKind → Option ℕ → Bool
is_wrong_bits k None = false
is_wrong_bits k (Some zero) = true
is_wrong_bits k (Some (suc n)) = is_array_or_pointer k

-- the enumerator has no number as its value
abbrev pub lacks_value : EnumeratorOf → Bool
lacks_value e = not (is_some e.value)

-- C has no such enumeration: it has no enumerator, or one without a value
abbrev pub is_wrong_enumeration : List EnumeratorOf → Bool
is_wrong_enumeration [] = true
is_wrong_enumeration enumerators = list_any lacks_value enumerators

-- the member is a function, or its bit size is wrong
abbrev pub is_wrong_member : (TypeAt → TypeKind) → MemberOf → Bool
is_wrong_member kinds m = is_function (kinds m.type_at) || is_wrong_bits (kinds m.type_at) m.bits

-- by the kinds of the types that it names, C has no such array: a child, a stride or a count that C has no words for,
-- or elements that are functions or arrays whose first count is unknown; no such function: its result is an array or a
-- function, or unspecified parameters are not last or are alone; no such body: it has a wrong member; or no such
-- enumeration
abbrev pub is_wrong : (TypeAt → TypeKind) → ShapeOf → Bool
is_wrong kinds (array counts strange at) =
    strange || (is_miscounted counts || (is_function (kinds at) || is_open_array (kinds at)))
is_wrong kinds (function at None) = is_bracketed (kinds at)
is_wrong kinds (function at (Some parameters)) = is_bracketed (kinds at) || is_misplaced parameters
is_wrong kinds (body (aggregate word odd ms)) = list_any (is_wrong_member kinds) ms
is_wrong kinds (body (enumeration odd es)) = is_wrong_enumeration es
is_wrong kinds _ = false

-- the types that cannot be void: those of elements, of parameters and of members
abbrev pub object_types : ShapeOf → List TypeAt
object_types (array counts strange at) = at ∷ []
object_types (function at (Some parameters)) = parameter_types parameters
object_types (body (aggregate word odd ms)) = member_types ms
object_types _ = []

-- a qualifier cannot be over an array or a function, and restrict only over what may have it
abbrev pub is_wrong_row : Qualifier → TypeKind → Bool
is_wrong_row Restrict k = not (is_restrictable k)
is_wrong_row _ k = is_bracketed k

-- the fourth refusal, at an entry that is reached
pub data IsUnspeakable (shapes : ℕ → ShapeOf) : ShapeOf → Type 0 where
  wrong : {shape : ShapeOf} → is_wrong (kind_at shapes) shape ≡ true → IsUnspeakable shapes shape
  void_object : {shape : ShapeOf} → Any (IsVoidLike shapes) (object_types shape) → IsUnspeakable shapes shape
  row : {q : Qualifier} {at : TypeAt} (under : TypeAt) → StandsUnder shapes at under
      → is_wrong_row q (kind_at shapes under) ≡ true → IsUnspeakable shapes (qualified q at)

-- the same at the declared entry: a variable cannot be void, and an enumeration cannot be only declared
pub data IsOwnUnspeakable (shapes : ℕ → ShapeOf) : SubjectOf → Type 0 where
  void_variable : {name : Name} {at : TypeAt} → IsVoidLike shapes at
      → IsOwnUnspeakable shapes (variable_subject name at)
  unspeakable : {name : Name} {b : BodyOf} → IsUnspeakable shapes (body b)
      → IsOwnUnspeakable shapes (defined_subject name b)
  declared_enumeration : {name : Name} → IsOwnUnspeakable shapes (declared_subject Enum name)

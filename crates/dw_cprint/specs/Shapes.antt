-- Chapter: the shape of an entry that is reached, and the subject that is declared: all that the printer reads of an
-- entry.
use Rattle.std.specs.Prelude.{ℕ, Bool, List, Option, map, option_map, Vec}
use Rattle.std.specs.Global.{Global}
pub use Rattle.dw_cprint.specs.Enumerators.{Name, EnumeratorOf}
pub use Rattle.dw_cprint.specs.declared.words.Qualifier.{Qualifier}
pub use Rattle.dw_cprint.specs.declared.words.Qualifier.TheVariants.{Const, Volatile, Restrict, Atomic}
pub use Rattle.dw_cprint.specs.declared.words.AggregateKeyword.{AggregateKeyword}
pub use Rattle.dw_cprint.specs.declared.words.AggregateKeyword.TheVariants.{Struct, Union}
pub use Rattle.dw_cprint.specs.declared.words.TagKeyword.{TagKeyword}
pub use Rattle.dw_cprint.specs.declared.words.TagKeyword.TheVariants.{OfAggregate, Enum}
pub use Rattle.dw_cprint.specs.declared.shape.Parameter.{Parameter}
pub use Rattle.dw_cprint.specs.declared.shape.Parameter.TheVariants.{Typed, More}
use Rattle.dw_cprint.specs.Terms.{Details}
use Rattle.dw_cprint.specs.declared.words.Text.{Text}
use Rattle.dw_cprint.specs.declared.shape.Member.{Member}
use Rattle.dw_cprint.specs.declared.enumerators.Enumerator.{Enumerator}
use Rattle.dw_cprint.specs.declared.shape.Body.{Body}
use Rattle.dw_cprint.specs.declared.shape.Body.TheVariants as contents
use Rattle.dw_cprint.specs.declared.shape.Shape.{Shape}
use Rattle.dw_cprint.specs.declared.shape.Shape.TheVariants as shape
use Rattle.dw_cprint.specs.declared.shape.Subject.{Subject}
use Rattle.dw_cprint.specs.declared.shape.Subject.TheVariants as subject

-- the entry of a type; a type that is absent is void
abbrev pub TypeAt : Type 0
TypeAt = Option ℕ

-- a plain member; its bit size is 0, if that is no number of 1 or more
pub record MemberOf : Type 0 where
  pub name : Name
  pub type_at : TypeAt
  pub bits : Option ℕ

-- what its declaration has beside its type
abbrev pub details_of : MemberOf → Details
details_of m = record { name = m.name; bits = m.bits }

-- a body: the members of a structure or union, or the enumerators of an enumeration; odd: a child is an inheritance or
-- a variant part
pub data BodyOf : Type 0 where
  aggregate : AggregateKeyword → (odd : Bool) → List MemberOf → BodyOf
  enumeration : (odd : Bool) → List EnumeratorOf → BodyOf

-- an entry that is reached
pub data ShapeOf : Type 0 where
  base : Name → ShapeOf
  typedef : Name → ShapeOf
  qualified : Qualifier → TypeAt → ShapeOf
  pointer : TypeAt → ShapeOf
  -- the counts of the dimensions, whether a child or a stride makes it one that C has no word for, and the element
  array : (counts : List (Option ℕ)) → (strange : Bool) → TypeAt → ShapeOf
  -- the result, and the parameters where it is prototyped
  function : TypeAt → Option (List Parameter) → ShapeOf
  -- a structure, union or enumeration with a name, one that is declared and has none, and the body of one without
  tagged : TagKeyword → List ℕ → ShapeOf
  nameless : TagKeyword → ShapeOf
  body : BodyOf → ShapeOf
  foreign : ShapeOf
  other : ShapeOf

-- the entry that is declared: a typedef or a variable with its type; a structure, union or enumeration with its body,
-- or only declared; or an entry of another kind
pub data SubjectOf : Type 0 where
  typedef_subject : Name → TypeAt → SubjectOf
  variable_subject : Name → TypeAt → SubjectOf
  defined_subject : Name → BodyOf → SubjectOf
  declared_subject : TagKeyword → Name → SubjectOf
  other_subject : SubjectOf

-- ---- what the code keeps of them

-- the name that a value of the code represents
abbrev pub view_name : Option Text → Name
view_name name = option_map (λ (text : Text). text.bytes.now) name

-- the member that a value of the code represents
abbrev pub view_member : Member → MemberOf
view_member m = record { name = view_name m.name; type_at = m.type_at; bits = m.bits }

-- the enumerator that a value of the code represents
abbrev pub view_enumerator : Enumerator → EnumeratorOf
view_enumerator e = record { name = view_name e.name; value = e.value }

-- the parameters in a vector, if there is one
abbrev pub parameter_items : Option (Vec Parameter Global) → Option (List Parameter)
parameter_items parameters = option_map (λ (ps : Vec Parameter Global). ps.items) parameters

-- the body that a value of the code represents
abbrev pub view_body : Body → BodyOf
view_body (contents.Aggregate word odd members) = aggregate word odd (map view_member members.items)
view_body (contents.Enumeration odd enumerators) = enumeration odd enumerators

-- the shape that a value of the code represents
abbrev pub view_shape : Shape → ShapeOf
view_shape (shape.Base name) = base (view_name name)
view_shape (shape.Typedef name) = typedef (view_name name)
view_shape (shape.Qualified q at) = qualified q at
view_shape (shape.Pointer at) = pointer at
view_shape (shape.Array dimensions strange element) = array dimensions strange element
view_shape (shape.Function at parameters) = function at (parameter_items parameters)
view_shape (shape.Tagged word name) = tagged word name.bytes.now
view_shape (shape.Nameless word) = nameless word
view_shape (shape.Body b) = body (view_body b)
view_shape shape.Foreign = foreign
view_shape shape.Other = other

-- the subject that a value of the code represents
abbrev pub view_subject : Subject → SubjectOf
view_subject (subject.Typedef name at) = typedef_subject (view_name name) at
view_subject (subject.Variable name at) = variable_subject (view_name name) at
view_subject (subject.Defined name b) = defined_subject (view_name name) (view_body b)
view_subject (subject.Declared word name) = declared_subject word (view_name name)
view_subject subject.Other = other_subject

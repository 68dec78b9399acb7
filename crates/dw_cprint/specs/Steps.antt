-- Chapter: spelling steps from an entry that is reached, and from the one that is declared. The latter are not the
-- steps of the same entry where it is reached.
use Rattle.std.specs.Prelude.{◌≡◌, ℕ, zero, suc, List, [], ◌∷◌, Option, Some, None, Contains, map}
use Rattle.dw_types.specs.Paths.{Leads, IsOnCycle}
use Rattle.dw_cprint.specs.Shapes.{Parameter, Typed, More, MemberOf, aggregate, ShapeOf, qualified, pointer, array}
use Rattle.dw_cprint.specs.Shapes.{function, body, SubjectOf, typedef_subject, variable_subject, defined_subject}

-- the entries among types; void is none
abbrev pub entries_among : List (Option ℕ) → List ℕ
entries_among [] = []
entries_among (None ∷ types) = entries_among types
entries_among (Some entry ∷ types) = entry ∷ entries_among types

-- the types of parameters; unspecified parameters have none
abbrev pub parameter_types : List Parameter → List (Option ℕ)
parameter_types [] = []
parameter_types (Typed at ∷ parameters) = at ∷ parameter_types parameters
parameter_types (More ∷ parameters) = parameter_types parameters

-- the types of members
abbrev pub member_types : List MemberOf → List (Option ℕ)
member_types members = map (λ (m : MemberOf). m.type_at) members

-- the types that an entry that is reached leads to; a structure with a name leads to none
abbrev pub types_reached : ShapeOf → List (Option ℕ)
types_reached (qualified q at) = at ∷ []
types_reached (pointer at) = at ∷ []
types_reached (array counts strange at) = at ∷ []
types_reached (function at None) = at ∷ []
types_reached (function at (Some parameters)) = at ∷ parameter_types parameters
types_reached (body (aggregate word odd ms)) = member_types ms
types_reached _ = []

-- the types that the declared entry leads to
abbrev pub types_declared : SubjectOf → List (Option ℕ)
types_declared (typedef_subject name at) = at ∷ []
types_declared (variable_subject name at) = at ∷ []
types_declared (defined_subject name b) = types_reached (body b)
types_declared _ = []

-- the spelling steps of an entry that is reached
abbrev pub steps_reached : (ℕ → ShapeOf) → ℕ → List ℕ
steps_reached shapes entry = entries_among (types_reached (shapes entry))

-- a spelling step leads from an entry that is reached to another
abbrev pub StepsTo : (ℕ → ShapeOf) → ℕ → ℕ → Type 0
StepsTo shapes from to = Contains (steps_reached shapes from) to

-- the spelling steps of the entry that is declared
abbrev pub first_steps : SubjectOf → List ℕ
first_steps subject = entries_among (types_declared subject)

-- an entry is reached from some others by spelling steps
pub data IsReachedFrom (shapes : ℕ → ShapeOf) (roots : List ℕ) : ℕ → Type 0 where
  root : {to : ℕ} → Contains roots to → IsReachedFrom shapes roots to
  further : {from to : ℕ} → IsReachedFrom shapes roots from → Contains (steps_reached shapes from) to
      → IsReachedFrom shapes roots to

-- an entry is reached from the declared one
abbrev pub IsReached : (ℕ → ShapeOf) → SubjectOf → ℕ → Type 0
IsReached shapes subject entry = IsReachedFrom shapes (first_steps subject) entry

-- the same shape at each entry that is reached
abbrev pub AreSameFor : (ℕ → ShapeOf) → (ℕ → ShapeOf) → SubjectOf → Type 0
AreSameFor shapes others subject = (entry : ℕ) → IsReached shapes subject entry → shapes entry ≡ others entry

-- an entry on a cycle is reached from some others
abbrev pub ReachACycle : (ℕ → ShapeOf) → List ℕ → Type 0
ReachACycle shapes roots = (entry : ℕ) × IsReachedFrom shapes roots entry × IsOnCycle (StepsTo shapes) entry

-- a path of so many steps begins with a step to one of some entries
abbrev pub HasPathFrom : (ℕ → ShapeOf) → List ℕ → ℕ → Type 0
HasPathFrom shapes roots zero = Unit {0}
HasPathFrom shapes roots (suc k) = (next to : ℕ) × Contains roots next × Leads (StepsTo shapes) k next to

-- a path of so many steps begins at the declared entry
abbrev pub HasPath : (ℕ → ShapeOf) → SubjectOf → ℕ → Type 0
HasPath shapes subject count = HasPathFrom shapes (first_steps subject) count

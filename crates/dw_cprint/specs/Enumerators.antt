-- Chapter: names and enumerators, as the printer reads them.
use Rattle.std.specs.Prelude.{ℕ, ℤ, List, Option}

-- a name as DW_AT_name has it, if it is there
abbrev pub Name : Type 0
Name = Option (List ℕ)

-- an enumerator, and its value where that is a number
pub record EnumeratorOf : Type 0 where
  pub name : Name
  pub value : Option ℤ

-- Chapter: the first failure of the rules on the values of attributes. Those on classes come first, then those on
-- strings and addresses, then those on references.
use Rattle.std.specs.Prelude.{◌⊎◌, List}
use Rattle.dw_entries.specs.declared.fault.PlainFault.{PlainFault}
use Rattle.dw_entries.specs.Failures.{Failure, HasNone, IsFirst}
use Rattle.dw_entries.specs.Units.{DebugUnit}
use Rattle.dw_links.specs.Classes.{ClassFailures}
use Rattle.dw_links.specs.References.{ReferenceFailures}
use Rattle.dw_links.specs.Strings.{StringFailures, Sections}

-- the first failure of a group of rules, or where none of these fails, this
abbrev pub IsFirstOr : (Failure → Type 0) → (PlainFault → Type 0) → PlainFault → Type 0
IsFirstOr Fails Otherwise broken = IsFirst Fails broken ⊎ (HasNone Fails × Otherwise broken)

-- the first failure of the rules on strings and addresses, or if none fails, of those on references
abbrev pub IsFirstOfTargets : Sections → List DebugUnit → PlainFault → Type 0
IsFirstOfTargets sections units = IsFirstOr (StringFailures sections units) (IsFirst (ReferenceFailures units))

-- the first failure of the three groups
abbrev pub IsFirstOfLinks : Sections → List DebugUnit → PlainFault → Type 0
IsFirstOfLinks sections units = IsFirstOr (ClassFailures units) (IsFirstOfTargets sections units)

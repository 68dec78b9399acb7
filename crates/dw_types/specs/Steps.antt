-- Chapter: steps by value: what an entry contains, and so may not be contained in (DWARF 5, chapter 5).
use Rattle.std.specs.Prelude.{◌≡◌, ℕ, ◌<◌, Bool, true, List, [], ◌++◌, Option, Some, map, if◌then◌else◌, length}
use Rattle.std.specs.List.{flat_map}
use Rattle.std.specs.Option.{option_to_list}
use Rattle.dw_entries.specs.Entries.{entries_of, DebugUnit}
use Rattle.dw_types.specs.Children.{children_of}
use Rattle.dw_types.specs.Entries.{entry_in, entry_numbers, signature_target, type_target}
use Rattle.dw_types.specs.Graphs.{Graph}
use Rattle.dw_types.specs.Kinds.{is_declared_type, passes_type_on}
use Rattle.dw_types.specs.Shapes.{is_plain}

-- one entry holds another by value: as its type, as the type of a plain member, or by its signature
pub data IsStepByValue (us : List DebugUnit) (from to : ℕ) : Type 0 where
  by_type : passes_type_on (entry_in us from) ≡ true → type_target us from ≡ Some to → IsStepByValue us from to
  by_member : (member : ℕ) → member < length (entries_of us) → is_plain us member ≡ true
      → (entry_in us member).parent ≡ Some from → type_target us member ≡ Some to → IsStepByValue us from to
  by_signature : is_declared_type (entry_in us from) ≡ true → signature_target us from ≡ Some to
      → IsStepByValue us from to

-- the target, if the test passes
abbrev pub targets_if : Bool → Option ℕ → List ℕ
targets_if test target = if test then option_to_list target else []

-- the step of an entry through a child, if that is a plain member
abbrev pub member_step : List DebugUnit → (child : ℕ) → List ℕ
member_step us child = targets_if (is_plain us child) (type_target us child)

-- the steps of an entry in their order: its type, the types of its plain members, its signature
abbrev pub steps_by_value : List DebugUnit → ℕ → List ℕ
steps_by_value us node =
    targets_if (passes_type_on (entry_in us node)) (type_target us node)
    ++ flat_map (member_step us) (children_of (entries_of us) node)
    ++ targets_if (is_declared_type (entry_in us node)) (signature_target us node)

-- the graph of steps by value, with the entries as nodes
abbrev pub by_value : List DebugUnit → Graph
by_value us = map (steps_by_value us) (entry_numbers us)

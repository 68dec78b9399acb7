-- State: flags of nodes and of entries that a walk and the sizes ask.
use Rattle.std.specs.Prelude.{◌≡◌, ℕ, ◌<◌, Bool, ◌&&◌, List, length, nat_eq, nat_lt}
use Rattle.dw_forms.specs.Codes.{DW_TAG_member, is_type_tag}
use Rattle.dw_entries.specs.Entries.{entries_of, DebugUnit}
use Rattle.dw_types.specs.declared.flags.Flags.{Flags}
use Rattle.dw_types.specs.declared.flags.SizeFlags.{SizeFlags}
use Rattle.dw_types.specs.Entries.{entry_in}
use Rattle.dw_types.specs.Graphs.{Graph, steps_of}
use Rattle.dw_types.specs.Steps.{steps_by_value}
use Rattle.dw_types.specs.StoredFlags.{flag_at, flag_count}

-- the flags tell which nodes have steps
pub record TellSteps (graph : Graph) (flags : Flags) : Type 0 where
  pub room : length graph < flag_count flags
  pub told : (node : ℕ) → node < length graph → flag_at flags node ≡ nat_lt 0 (length (steps_of graph node))

-- the entry is a type without steps by value
abbrev pub is_leaf : List DebugUnit → ℕ → Bool
is_leaf us node = is_type_tag (entry_in us node).head.decl.tag && nat_eq (length (steps_by_value us node)) 0

-- the flags tell which entries are types without steps by value, and which are members
pub record TellSizeFlags (us : List DebugUnit) (flags : SizeFlags) : Type 0 where
  pub leaf_room : length (entries_of us) < flag_count flags.leaves
  pub member_room : length (entries_of us) < flag_count flags.members
  pub leaves : (k : ℕ) → k < length (entries_of us) → flag_at flags.leaves k ≡ is_leaf us k
  pub members : (k : ℕ) → k < length (entries_of us)
      → flag_at flags.members k ≡ nat_eq (entry_in us k).head.decl.tag DW_TAG_member

-- Chapter: plain members, and the rules on the types of arrays and members and on counts (DWARF 5, 5.5, 5.7.6 and
-- 5.13).
use Rattle.std.specs.Prelude.{ℕ, ℤ, Bool, true, false, ◌&&◌, ◌||◌, not, List, Option, None, Some, nat_eq}
use Rattle.std.specs.Option.{option_map_or}
use Rattle.dw_forms.specs.declared.rule.Rule.TheVariants.{MissingType, BadCount}
use Rattle.dw_forms.specs.Codes.{DW_AT_abstract_origin, DW_AT_specification, DW_TAG_member}
use Rattle.dw_entries.specs.Entries.{Entry, entries_of, DebugUnit}
use Rattle.dw_links.specs.declared.constant.Constant.{Constant}
use Rattle.dw_links.specs.Constants.{constant_at, is_below_zero, is_present}
use Rattle.dw_links.specs.References.{is_declared}
use Rattle.dw_types.specs.Counts.{count_read}
use Rattle.dw_types.specs.Entries.{entry_in, language, type_target}
use Rattle.dw_entries.specs.Failures.{Failure, Rule}
use Rattle.dw_types.specs.Kinds.{has_members, is_array, is_subrange, parent_is}
use Rattle.dw_types.specs.TypeFailures.{EntryFailures}

-- a member that is not declared
abbrev pub is_defined_member : Entry → Bool
is_defined_member entry = nat_eq entry.head.decl.tag DW_TAG_member && not (is_declared entry)

-- a plain member: it is not declared, and a child of a structure or union that is not declared either
abbrev pub is_plain : List DebugUnit → ℕ → Bool
is_plain us node = is_defined_member (entry_in us node) && parent_is has_members us node

-- the entry takes nothing over from another one
abbrev pub stands_alone : Entry → Bool
stands_alone entry =
    not (is_present (constant_at entry DW_AT_specification))
    && not (is_present (constant_at entry DW_AT_abstract_origin))

-- what a rule on shapes looks at: an entry without the numbers of others, tests of its parent and of the entry that its
-- type refers to, which fail if there is none, and the language of its unit
pub record Sight : Type 0 where
  pub entry : Entry
  pub parent_is : (Entry → Bool) → Bool
  pub type_is : (Entry → Bool) → Bool
  pub language : Constant

-- an entry without the numbers of its unit, its parent and its next sibling
abbrev pub numberless : Entry → Entry
numberless entry = record {
  at = entry.at;
  unit = 0;
  parent = None;
  depth = entry.depth;
  next = None;
  head = entry.head;
}

-- an entry to which a number may refer passes a test
abbrev pub passes_at : List DebugUnit → (Entry → Bool) → Option ℕ → Bool
passes_at us test to = option_map_or (λ (node : ℕ). test (numberless (entry_in us node))) to false

-- what it looks at at the entry of a number
abbrev pub sight : List DebugUnit → ℕ → Sight
sight us node = record {
  entry = numberless (entry_in us node);
  parent_is = λ test. passes_at us test (entry_in us node).parent;
  type_is = λ test. passes_at us test (type_target us node);
  language = language us node;
}

-- an array or a plain member with no type, which does not take one over from another entry either
abbrev pub misses_type : Sight → Bool
misses_type s =
    (is_array s.entry || (is_defined_member s.entry && s.parent_is has_members))
    && (not (s.type_is (λ to. true)) && stands_alone s.entry)

-- a count that is known and below 0
abbrev pub is_known_negative : Option ℤ → Bool
is_known_negative None = false
is_known_negative (Some n) = is_below_zero n

-- a dimension with a known count below 0
abbrev pub has_bad_count : Sight → Bool
has_bad_count s =
    (is_subrange s.entry && s.parent_is is_array) && is_known_negative (count_read s.entry s.language)

-- the rule is violated at what is looked at
abbrev pub violates_shape : Sight → Rule → Bool
violates_shape s MissingType = misses_type s
violates_shape s BadCount = has_bad_count s
violates_shape s _ = false

-- the entry of a number violates a rule on shapes
abbrev pub fails_shape : List DebugUnit → ℕ → Rule → Bool
fails_shape us node rule = violates_shape (sight us node) rule

-- the failures of the rules on shapes
abbrev pub ShapeFailures : List DebugUnit → Failure → Type 0
ShapeFailures us = EntryFailures (entries_of us) (fails_shape us)

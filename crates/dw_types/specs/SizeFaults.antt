-- Chapter: the rules on sizes (DWARF 5, 5.1, 5.5, 5.7 and 5.8).
use Rattle.std.specs.Prelude.{ℕ, ◌^◌, Bool, true, false, ◌&&◌, ◌||◌, not, List, None, Some, is_some, if◌then◌else◌}
use Rattle.std.specs.Prelude.{nat_eq, nat_le}
use Rattle.dw_types.specs.declared.kind.Kind.{Kind}
use Rattle.dw_types.specs.declared.kind.Kind.TheVariants.{Declared, OwnSized, Pointer, Alias, Enumeration, Array}
use Rattle.dw_types.specs.declared.kind.Kind.TheVariants.{Subroutine, NoType}
use Rattle.dw_forms.specs.declared.rule.Rule.TheVariants.{NoSize, SizeTooGreat, MemberOutside, EnumSize}
use Rattle.dw_forms.specs.Codes.{DW_TAG_base_type, DW_TAG_enumeration_type, DW_TAG_member, DW_AT_bit_size}
use Rattle.dw_forms.specs.Codes.{DW_AT_byte_stride, is_type_tag}
use Rattle.dw_entries.specs.declared.fault.PlainFault.{PlainFault}
use Rattle.dw_entries.specs.Entries.{Entry, entries_of, DebugUnit}
use Rattle.dw_links.specs.Constants.{constant_at, is_present, is_negative, natural_of}
use Rattle.dw_types.specs.Entries.{byte_size, entry_in, type_target}
use Rattle.dw_types.specs.Extents.{is_outside}
use Rattle.dw_entries.specs.Failures.{Failure, IsFirst, Rule}
use Rattle.dw_types.specs.Kinds.{has_members, is_array, is_enumeration, kind_of}
use Rattle.dw_types.specs.Shapes.{stands_alone}
use Rattle.dw_types.specs.SizeTables.{Size}
use Rattle.dw_types.specs.Sizes.{size_to, IsSizeTable}
use Rattle.dw_types.specs.TypeFailures.{EntryFailures}

-- the size of such an entry reads its own byte size
abbrev pub reads_own : Kind → Bool
reads_own Declared = false
reads_own OwnSized = true
reads_own Pointer = true
reads_own Alias = false
reads_own Enumeration = true
reads_own Array = true
reads_own Subroutine = false
reads_own NoType = false

-- if the byte size is absent: a base type without bit size, a structure or union that stands alone, or an array with
-- a negative stride
abbrev pub wants_own : Entry → Bool
wants_own entry =
    (nat_eq entry.head.decl.tag DW_TAG_base_type && not (is_present (constant_at entry DW_AT_bit_size)))
    || ((has_members entry && stands_alone entry)
    || (is_array entry && is_negative (constant_at entry DW_AT_byte_stride)))

-- a negative byte size that is read, or none if one is required
abbrev pub has_no_size : Entry → Bool
has_no_size entry =
    (reads_own (kind_of entry) && is_negative (byte_size entry))
    || (not (is_present (byte_size entry)) && wants_own entry)

-- a size of 2^63 or more
abbrev pub is_too_great : Size → Bool
is_too_great None = false
is_too_great (Some n) = nat_le (2 ^ 63) n

-- two sizes that are known and not the same
abbrev pub differ : Size → Size → Bool
differ None b = false
differ (Some a) None = false
differ (Some a) (Some b) = not (nat_eq a b)

-- an enumeration that stands alone with neither byte size nor type, or whose byte size is not the size of its type
abbrev pub has_wrong_size : List DebugUnit → (ℕ → Size) → ℕ → Bool
has_wrong_size us table node =
    is_enumeration (entry_in us node)
    && ((not (is_present (byte_size (entry_in us node)))
    && (not (is_some (type_target us node)) && stands_alone (entry_in us node)))
    || differ (natural_of (byte_size (entry_in us node))) (size_to table (type_target us node)))

-- a rule on sizes may fail at a type of this size: it lacks one, has one that is too great, or is an enumeration
abbrev pub type_may_fail : Entry → Size → Bool
type_may_fail entry size =
    has_no_size entry || (is_too_great size || nat_eq entry.head.decl.tag DW_TAG_enumeration_type)

-- one may fail at an entry: at such a type, or at a member
abbrev pub may_fail : Entry → Size → Bool
may_fail entry size =
    if is_type_tag entry.head.decl.tag then type_may_fail entry size else nat_eq entry.head.decl.tag DW_TAG_member

-- the entry of a number violates a rule on sizes, by a table of sizes
abbrev pub fails_size : List DebugUnit → (ℕ → Size) → ℕ → Rule → Bool
fails_size us table node NoSize = has_no_size (entry_in us node)
fails_size us table node SizeTooGreat = is_too_great (table node)
fails_size us table node MemberOutside = is_outside us table node
fails_size us table node EnumSize = has_wrong_size us table node
fails_size us table node _ = false

-- the failures of the rules on sizes, by a table of sizes
abbrev pub SizeFailures : List DebugUnit → (ℕ → Size) → Failure → Type 0
SizeFailures us table = EntryFailures (entries_of us) (fails_size us table)

-- over the one table of sizes this is the first failure
pub record IsFirstSizeFault (us : List DebugUnit) (broken : PlainFault) : Type 0 where
  pub table : ℕ → Size
  pub is_table : IsSizeTable us table
  pub first : IsFirst (SizeFailures us table) broken

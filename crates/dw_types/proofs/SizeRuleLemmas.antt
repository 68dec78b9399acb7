-- Which rule on sizes an entry violates, by a capped table: the least of those of a type, one at most of another entry.
use Rattle.std.proofs.Common.{rules, ◌≡◌, ℕ, ◌^◌, ◌<◌, pos, negsuc, Bool, true, false, not, ◌&&◌, ◌||◌, if◌then◌else◌, List, Some, None, IfSome, length, nat_eq, refl, sym, ap, ◌∙◌}
use Rattle.std.proofs.lemmas.Bool.{eqb-true, false_from_ne_true, false≢true, or_parts}
use Rattle.dw_forms.specs.Codes.{DW_AT_byte_stride, DW_TAG_array_type, DW_TAG_base_type, DW_TAG_enumeration_type, DW_TAG_member, is_type_tag}
use Rattle.dw_forms.specs.declared.rule.Rule.{Rule}
use Rattle.dw_forms.specs.declared.rule.Rule.TheVariants.{NoSize, SizeTooGreat, MemberOutside, EnumSize}
use Rattle.dw_entries.specs.Entries.{Entry, entries_of, DebugUnit}
use Rattle.dw_links.specs.declared.constant.Constant.{Constant}
use Rattle.dw_links.specs.Constants.{constant_at, is_negative, is_present, natural_of}
use Rattle.dw_links.specs.declared.constant.Constant.TheVariants.{Absent, NotNumber, Unsigned, Signed}
use Rattle.dw_types.specs.declared.kind.Kind.{Kind}
use Rattle.dw_types.specs.declared.kind.Kind.TheVariants.{Declared, OwnSized, Pointer, Alias, Enumeration, Array, Subroutine, NoType}
use Rattle.dw_types.specs.Entries.{byte_size, entry_in, type_target}
use Rattle.dw_types.specs.Extents.{ends_past, is_outside}
use Rattle.dw_links.specs.Classes.{is_one_of}
use Rattle.dw_types.specs.Kinds.{container_tags, kind_by, kind_of}
use Rattle.dw_types.specs.SizeFaults.{fails_size, has_no_size, has_wrong_size, is_too_great, may_fail, wants_own}
use Rattle.dw_types.specs.SizeTables.{Size, cap_size}
use Rattle.dw_types.specs.Sizes.{constant_or, size_line, size_of_kind, size_to, times}
use Rattle.dw_types.specs.TypeFailures.{IsLeastAt}
use Rattle.dw_types.specs.StoredSizes.{ObeysCappedLines}
use Rattle.dw_types.proofs.MemberLemmas.{and-by, and-false}
use Rattle.dw_types.proofs.RoleLemmas.{untyped-enumeration, untyped-size_none}
use Rattle.dw_types.proofs.SizeRankLemmas.{untyped-line}

-- an entry that has a size reads no negative byte size, and where it has no byte size it wants none

natural-own : (constant : Constant) (n : ℕ) → natural_of constant ≡ Some n
    → (is_present constant ≡ true) × (is_negative constant ≡ false)
natural-own Absent n is = absurd cc
natural-own NotNumber n is = absurd cc
natural-own (Unsigned m) n is = (refl, refl)
natural-own (Signed (pos m)) n is = (refl, refl)
natural-own (Signed (negsuc m)) n is = absurd cc

not-negative : (constant : Constant) (other : Size) (n : ℕ) → constant_or constant other ≡ Some n
    → is_negative constant ≡ false
not-negative (Signed (negsuc m)) other n is = absurd cc
not-negative (Signed (pos m)) other n is = refl
not-negative _ other n is = refl

if-some : (test : Bool) (size : Size) (n : ℕ) → (if test then None else size) ≡ Some n → size ≡ Some n
if-some true size n is = absurd cc
if-some false size n is = is

times-some : (a b : Size) (n : ℕ) → times a b ≡ Some n → (m : ℕ) × (a ≡ Some m)
times-some None b n is = absurd cc
times-some (Some a) b n is = (a, refl)

-- what is wanted where the byte size is absent, by the tag
abbrev wants_by : (tag : ℕ) → (declared base container array : Bool) → Bool
wants_by tag declared base container array =
    (nat_eq tag DW_TAG_base_type && base) || (((is_one_of container_tags tag && not declared) && container)
    || (nat_eq tag DW_TAG_array_type && array))

none-wanted : (tag : ℕ) (declared base container array : Bool) → (kind_by tag declared ≡ OwnSized → ⊥)
    → (kind_by tag declared ≡ Array → ⊥) → wants_by tag declared base container array ≡ false
none-wanted tag declared base container array not_own not_array = search rules

array-wanted : (tag : ℕ) (declared base container array : Bool) → kind_by tag declared ≡ Array → array ≡ false
    → wants_by tag declared base container array ≡ false
array-wanted tag declared base container array is none = search rules

kind-wants : (entry : Entry) → (kind_of entry ≡ OwnSized → ⊥) → (kind_of entry ≡ Array → ⊥) → wants_own entry ≡ false
kind-wants entry own array = search (rules, none-wanted, not)

array-wants : (entry : Entry) → kind_of entry ≡ Array → is_negative (constant_at entry DW_AT_byte_stride) ≡ false
    → wants_own entry ≡ false
array-wants entry is stride = search (rules, array-wanted, not)

-- with a byte size of its own, or by other sizes where nothing is wanted
own-by : (own : Constant) (other : Size) (n : ℕ) (reads wants : Bool) → constant_or own other ≡ Some n
    → (other ≡ Some n → wants ≡ false) → ((reads && is_negative own) || (not (is_present own) && wants)) ≡ false
own-by own other n reads wants is none = search rules

own-part : (entry : Entry) (other : Size) (n : ℕ) → constant_or (byte_size entry) other ≡ Some n
    → (other ≡ Some n → wants_own entry ≡ false) → has_no_size entry ≡ false
own-part entry other n is wants = search (rules, own-by)

sized-kind : (us : List DebugUnit) (table : ℕ → Size) (node : ℕ) (kind : Kind) → kind_of (entry_in us node) ≡ kind
    → (n : ℕ) → size_of_kind kind us table node ≡ Some n
    → has_no_size (entry_in us node) ≡ false
sized-kind us table node Declared is n sized = search (rules, kind-wants)
sized-kind us table node OwnSized is n sized = search (rules, natural-own)
sized-kind us table node Pointer is n sized = search (rules, own-part, kind-wants)
sized-kind us table node Alias is n sized = search (rules, kind-wants)
sized-kind us table node Enumeration is n sized = search (rules, own-part, kind-wants)
sized-kind us table node Array is n sized =
    search (rules, own-part, if-some, times-some, array-wants, not-negative)
sized-kind us table node Subroutine is n sized = absurd cc
sized-kind us table node NoType is n sized = absurd cc

cap-some : {P : Type 0} (line found : Size) → found ≡ cap_size (2 ^ 63) line → ((n : ℕ) → line ≡ Some n → P)
    → IfSome found (λ _. P)
cap-some None found is holds = rw is tt
cap-some (Some n) found is holds = rw is (holds n refl)

-- so the capped size of an entry tells whether its byte size is not to be asked again
pub sized-line : (us : List DebugUnit) (table : ℕ → Size) (node : ℕ) (size : Size)
    → size ≡ cap_size (2 ^ 63) (size_line us table node)
    → IfSome size (λ _. has_no_size (entry_in us node) ≡ false)
sized-line us table node size is =
    cap-some (size_line us table node) size is
    (λ n sized. sized-kind us table node (kind_of (entry_in us node)) refl n sized)

-- a type is no member

member-untyped : (tag : ℕ) → nat_eq tag DW_TAG_member ≡ true → is_type_tag tag ≡ false
member-untyped tag is = search (rules, eqb-true)

type-unmember : (tag : ℕ) → is_type_tag tag ≡ true → nat_eq tag DW_TAG_member ≡ false
type-unmember tag is = search (rules, false_from_ne_true, nat_eq, false≢true, member-untyped)

-- a type violates no other rule than these three
pub type-none : (us : List DebugUnit) (table : ℕ → Size) (node : ℕ)
    → is_type_tag (entry_in us node).head.decl.tag ≡ true
    → has_no_size (entry_in us node) ≡ false → is_too_great (table node) ≡ false → has_wrong_size us table node ≡ false
    → (rule : Rule) → fails_size us table node rule ≡ true → ⊥
type-none us table node typed size great wrong NoSize fails = false≢true (sym size ∙ fails)
type-none us table node typed size great wrong SizeTooGreat fails = false≢true (sym great ∙ fails)
type-none us table node typed size great wrong MemberOutside fails = search (rules, type-unmember, false≢true)
type-none us table node typed size great wrong EnumSize fails = false≢true (sym wrong ∙ fails)
type-none us table node typed size great wrong _ fails = false≢true fails

-- the least of them
pub great-least : (us : List DebugUnit) (table : ℕ → Size) (node : ℕ) → has_no_size (entry_in us node) ≡ false
    → is_too_great (table node) ≡ true → IsLeastAt (fails_size us table) node (Some SizeTooGreat)
great-least us table node size great = search (rules, false≢true)

pub wrong-least : (us : List DebugUnit) (table : ℕ → Size) (node : ℕ)
    → is_type_tag (entry_in us node).head.decl.tag ≡ true → has_no_size (entry_in us node) ≡ false
    → is_too_great (table node) ≡ false → has_wrong_size us table node ≡ true
    → IsLeastAt (fails_size us table) node (Some EnumSize)
wrong-least us table node typed size great wrong = search (rules, false≢true, type-unmember)

-- a member that ends inside its container
pub not-outside : (us : List DebugUnit) (table : ℕ → Size) (node n : ℕ)
    → size_to table (entry_in us node).parent ≡ Some n
    → ends_past n (entry_in us node) (size_to table (type_target us node)) ≡ false → is_outside us table node ≡ false
not-outside us table node n container past = search (rules, and-by, and-false)

module _ (us : List DebugUnit) (found : ℕ → Size) (node : ℕ) where
  module _ (capped : ObeysCappedLines us found) (below : node < length (entries_of us)) where
    -- an entry that is no type violates one rule at most

    module _ (untyped : is_type_tag (entry_in us node).head.decl.tag ≡ false) where
      untyped-none : found node ≡ None
      untyped-none = search (rules, untyped-line)

      untyped-rule : (rule : Rule) → fails_size us found node rule ≡ true → rule ≡ MemberOutside
      untyped-rule NoSize breaks =
          absurd (false≢true (sym (untyped-size_none (entry_in us node) untyped) ∙ breaks))
      untyped-rule SizeTooGreat breaks = absurd (false≢true (ap is_too_great (sym untyped-none) ∙ breaks))
      untyped-rule MemberOutside breaks = refl
      untyped-rule EnumSize breaks = search (rules, untyped-enumeration, false≢true)
      untyped-rule _ breaks = absurd (false≢true breaks)

      pub untyped-breaks : fails_size us found node MemberOutside ≡ true
          → IsLeastAt (fails_size us found) node (Some MemberOutside)
      untyped-breaks breaks = search (rules, untyped-rule)

      pub untyped-passes : fails_size us found node MemberOutside ≡ false
          → IsLeastAt (fails_size us found) node None
      untyped-passes passes other fails = search (rules, untyped-rule, false≢true)

    -- where no rule on sizes may fail, none does
    pub unasked-passes : may_fail (entry_in us node) (found node) ≡ false → IsLeastAt (fails_size us found) node None
    unasked-passes unasked = go (is_type_tag (entry_in us node).head.decl.tag) refl
      where
        go : (typed : Bool) → is_type_tag (entry_in us node).head.decl.tag ≡ typed
            → IsLeastAt (fails_size us found) node None
        go true typed =
            let enumeration = nat_eq (entry_in us node).head.decl.tag DW_TAG_enumeration_type in
            let parts = or_parts (has_no_size (entry_in us node)) (is_too_great (found node) || enumeration)
            (rw typed at unasked) in
            let rest = or_parts (is_too_great (found node)) enumeration parts.1 in
            type-none us found node typed parts.0 rest.0 (rw rest.1 refl)
        go false untyped =
            let other : nat_eq (entry_in us node).head.decl.tag DW_TAG_member ≡ false = rw untyped at unasked in
            untyped-passes untyped (rw other refl)

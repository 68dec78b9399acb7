-- An entry that is no type has no kind, no steps and no size of its own.
use Rattle.std.proofs.Common.{rules, ◌≡◌, false, nat_eq, refl}
use Rattle.dw_forms.specs.Codes.{DW_TAG_base_type, DW_TAG_enumeration_type, is_type_tag}
use Rattle.dw_entries.specs.Entries.{Entry}
use Rattle.dw_types.specs.declared.kind.Kind.TheVariants.{NoType}
use Rattle.dw_types.specs.Kinds.{has_members, is_array, is_declared_type, kind_of, passes_type_on}
use Rattle.dw_types.specs.SizeFaults.{has_no_size, wants_own}

-- an entry that is no type
module _ (entry : Entry) (untyped : is_type_tag entry.head.decl.tag ≡ false) where
  pub untyped-passes : passes_type_on entry ≡ false
  untyped-passes = search rules

  pub untyped-members : has_members entry ≡ false
  untyped-members = search rules

  pub untyped-enumeration : nat_eq entry.head.decl.tag DW_TAG_enumeration_type ≡ false
  untyped-enumeration = search rules

  pub untyped-declared : is_declared_type entry ≡ false
  untyped-declared = search rules

  pub untyped-kind : kind_of entry ≡ NoType
  untyped-kind = search rules

  untyped-base : nat_eq entry.head.decl.tag DW_TAG_base_type ≡ false
  untyped-base = search rules

  untyped-array : is_array entry ≡ false
  untyped-array = search rules

  untyped-wants : wants_own entry ≡ false
  untyped-wants = rw (untyped-base, untyped-members, untyped-array) refl

  pub untyped-size_none : has_no_size entry ≡ false
  untyped-size_none = search (rules, untyped-kind, untyped-wants)

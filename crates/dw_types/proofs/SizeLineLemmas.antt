-- The size lines read a table at steps by value alone, and may take capped sizes.
use Rattle.std.proofs.Common.{rules, ◌≡◌, ℕ, ◌*◌, ◌^◌, min, Bool, true, false, if◌then◌else◌, ◌&&◌, List, Option, Some, None, arith, refl, sym, ap, ◌∙◌}
use Rattle.dw_entries.specs.Entries.{Entry, DebugUnit}
use Rattle.dw_links.specs.declared.constant.Constant.{Constant}
use Rattle.dw_links.specs.declared.constant.Constant.TheVariants.{Absent, NotNumber, Unsigned, Signed}
use Rattle.dw_types.specs.declared.kind.Kind.{Kind}
use Rattle.dw_types.specs.declared.kind.Kind.TheVariants.{Declared, OwnSized, Pointer, Alias, Enumeration, Array, Subroutine, NoType}
use Rattle.dw_types.specs.Entries.{byte_size, entry_in, signature_target, type_target}
use Rattle.dw_types.specs.Graphs.{IsStep}
use Rattle.dw_forms.specs.Codes.{DW_AT_bit_stride, DW_AT_byte_stride}
use Rattle.dw_links.specs.Constants.{constant_at, is_present}
use Rattle.dw_links.specs.Classes.{is_one_of}
use Rattle.dw_links.specs.References.{is_declared}
use Rattle.dw_types.specs.Kinds.{declarable_tags, passes_type_on, kind_by, kind_of}
use Rattle.dw_types.specs.SizeTables.{Size, cap_size}
use Rattle.dw_types.specs.Sizes.{size_of_kind, size_line, size_to, constant_or, times, element_count}
use Rattle.dw_types.specs.Steps.{by_value, by_type, by_signature}
use Rattle.dw_types.proofs.ElementCountLemmas.{cap-product, cap-twice}
use Rattle.dw_types.proofs.StepLemmas.{step-from_by_value}
use Rattle.dw_types.proofs.TableLemmas.{IsLocal, Lines, SameAtSteps}

alias-passes : (entry : Entry) (declared : Bool) → kind_by entry.head.decl.tag declared ≡ Alias
    → passes_type_on entry ≡ true
alias-passes entry declared is = grind arith

enumeration-passes : (entry : Entry) (declared : Bool) → kind_by entry.head.decl.tag declared ≡ Enumeration
    → passes_type_on entry ≡ true
enumeration-passes entry declared is = grind arith

array-passes : (entry : Entry) (declared : Bool) → kind_by entry.head.decl.tag declared ≡ Array
    → passes_type_on entry ≡ true
array-passes entry declared is = grind arith

declared-by : (tag : ℕ) (declared : Bool) → kind_by tag declared ≡ Declared
    → (is_one_of declarable_tags tag && declared) ≡ true
declared-by tag declared is = search (rules)

-- the sizes at a target are the same, where a target that there is is a step
pub to-same : (table other : ℕ → Size) (target : Option ℕ) → ((to : ℕ) → target ≡ Some to → table to ≡ other to)
    → size_to table target ≡ size_to other target
to-same table other None same = refl
to-same table other (Some to) same = same to refl

module _ (us : List DebugUnit) where
  at-step : (table other : ℕ → Size) (node to : ℕ) → SameAtSteps (by_value us) table other node
      → IsStep (by_value us) node to → table to ≡ other to
  at-step table other node to same (k, below, is) = rw is at (same k below)

  by-kind : (table other : ℕ → Size) (node : ℕ) (kind : Kind) → kind_of (entry_in us node) ≡ kind
      → SameAtSteps (by_value us) table other node
      → size_of_kind kind us table node ≡ size_of_kind kind us other node
  by-kind table other node Declared is same =
      to-same table other (signature_target us node)
      (λ to target. at-step table other node to same
      (step-from_by_value us node to
      (by_signature (declared-by (entry_in us node).head.decl.tag (is_declared (entry_in us node)) is) target)))
  by-kind table other node OwnSized is same = refl
  by-kind table other node Pointer is same = refl
  by-kind table other node Alias is same =
      to-same table other (type_target us node)
      (λ to target. at-step table other node to same
      (step-from_by_value us node to
      (by_type (alias-passes (entry_in us node) (is_declared (entry_in us node)) is) target)))
  by-kind table other node Enumeration is same =
      ap (constant_or (byte_size (entry_in us node)))
      (to-same table other (type_target us node)
      (λ to target. at-step table other node to same
      (step-from_by_value us node to
      (by_type (enumeration-passes (entry_in us node) (is_declared (entry_in us node)) is) target))))
  by-kind table other node Array is same =
      let e = to-same table other (type_target us node)
      (λ to target. at-step table other node to same
      (step-from_by_value us node to
      (by_type (array-passes (entry_in us node) (is_declared (entry_in us node)) is) target))) in
      ap (λ (size : Size). constant_or (byte_size (entry_in us node))
      (if is_present (constant_at (entry_in us node) DW_AT_bit_stride) then None else times
      (constant_or (constant_at (entry_in us node) DW_AT_byte_stride) size)
      (element_count us node))) e
  by-kind table other node Subroutine is same = refl
  by-kind table other node NoType is same = refl

  -- the size lines read a table at steps by value alone
  pub size_line-local : IsLocal (by_value us) (size_line us)
  size_line-local table other node in_graph same = by-kind table other node (kind_of (entry_in us node)) refl same

-- capped sizes

cap-to : (limit : ℕ) (table : ℕ → Size) (target : Option ℕ)
    → cap_size limit (size_to table target) ≡ cap_size limit (size_to (λ n. cap_size limit (table n)) target)
cap-to limit table None = refl
cap-to limit table (Some to) = sym (cap-twice limit (table to))

cap-constant : (limit : ℕ) (constant : Constant) (a b : Size) → cap_size limit a ≡ cap_size limit b
    → cap_size limit (constant_or constant a) ≡ cap_size limit (constant_or constant b)
cap-constant limit Absent a b same = same
cap-constant limit NotNumber a b same = refl
cap-constant limit (Unsigned n) a b same = refl
cap-constant limit (Signed n) a b same = refl

cap-factor : (limit a b p : ℕ) → min limit a ≡ min limit b → min limit (a * p) ≡ min limit (b * p)
cap-factor limit a b p same =
    cap-product limit a p ∙ (ap (λ (n : ℕ). min limit (n * p)) same ∙ sym (cap-product limit b p))

cap-times : (limit : ℕ) (a b p : Size) → cap_size limit a ≡ cap_size limit b
    → cap_size limit (times a p) ≡ cap_size limit (times b p)
cap-times limit None None p same = refl
cap-times limit None (Some b) p same = cc
cap-times limit (Some a) None p same = cc
cap-times limit (Some a) (Some b) None same = refl
cap-times limit (Some a) (Some b) (Some p) same =
    let e : min limit a ≡ min limit b = cc in ap Some (cap-factor limit a b p e)

cap-if : (limit : ℕ) (test : Bool) (a b : Size) → cap_size limit a ≡ cap_size limit b
    → cap_size limit (if test then None else a) ≡ cap_size limit (if test then None else b)
cap-if limit true a b same = refl
cap-if limit false a b same = same

cap-kind : (limit : ℕ) (us : List DebugUnit) (table : ℕ → Size) (node : ℕ) (kind : Kind)
    → cap_size limit (size_of_kind kind us table node)
    ≡ cap_size limit (size_of_kind kind us (λ n. cap_size limit (table n)) node)
cap-kind limit us table node Declared = cap-to limit table (signature_target us node)
cap-kind limit us table node OwnSized = refl
cap-kind limit us table node Pointer = refl
cap-kind limit us table node Alias = cap-to limit table (type_target us node)
cap-kind limit us table node Enumeration =
    cap-constant limit (byte_size (entry_in us node)) _ _ (cap-to limit table (type_target us node))
cap-kind limit us table node Array = search (rules, cap-constant, cap-if, cap-times, cap-to)
cap-kind limit us table node Subroutine = refl
cap-kind limit us table node NoType = refl

-- a capped line may take capped sizes
pub size_line-caps : (limit : ℕ) (us : List DebugUnit) (table : ℕ → Size) (node : ℕ)
    → cap_size limit (size_line us table node)
    ≡ cap_size limit (size_line us (λ n. cap_size limit (table n)) node)
size_line-caps limit us table node = cap-kind limit us table node (kind_of (entry_in us node))

-- the capped lines
abbrev pub capped_line : List DebugUnit → Lines
capped_line us table node = cap_size (2 ^ 63) (size_line us table node)

pub capped_line-local : (us : List DebugUnit) → IsLocal (by_value us) (capped_line us)
capped_line-local us table other node in_graph same =
    ap (cap_size (2 ^ 63)) (size_line-local us table other node in_graph same)

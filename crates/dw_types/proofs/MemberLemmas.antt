-- The steps of an entry through its members, one child after another, and the row of each entry.
use Rattle.std.proofs.Common.{rules, ◌≡◌, ℕ, ◌-◌, ◌<◌, Bool, true, false, ◌&&◌, List, [], ◌++◌, length, get_or, inl, inr, refl, arith, append-nil, length-append}
use Rattle.std.specs.List.{flat_map}
use Rattle.std.proofs.lemmas.Bool.{cases_lt}
use Rattle.std.proofs.lemmas.List.{get_or_append_left}
use Rattle.std.proofs.Math.Seq.{get_or-append_right}
use Rattle.std.proofs.lemmas.List.Elements.{All-contains, Contains-get_or}
use Rattle.dw_forms.specs.Codes.{is_type_tag}
use Rattle.dw_entries.specs.Entries.{entries_of, DebugUnit}
use Rattle.dw_types.specs.Children.{children_of, IsChildOf}
use Rattle.dw_types.specs.Entries.{entry_in, signature_target, type_target}
use Rattle.dw_types.specs.Kinds.{has_members, is_declared_type, parent_is, passes_type_on}
use Rattle.dw_types.specs.Packing.{LeadsBelow}
use Rattle.dw_types.specs.Shapes.{is_defined_member, is_plain}
use Rattle.dw_types.specs.Steps.{member_step, steps_by_value, targets_if}
use Rattle.dw_types.proofs.RoleLemmas.{untyped-declared, untyped-members, untyped-passes}
use Rattle.dw_types.proofs.SiblingLemmas.{children-all}
use Rattle.dw_types.proofs.StepLemmas.{flat_map-none, step-to_entry, steps-from}

pub and-by : (a b c : Bool) → b ≡ c → (a && b) ≡ (a && c)
and-by a b c same = rw same refl

and-true : (a : Bool) → (a && true) ≡ a
and-true true = refl
and-true false = refl

pub and-false : (a : Bool) → (a && false) ≡ false
and-false true = refl
and-false false = refl

module _ (us : List DebugUnit) (node : ℕ) where
  -- a child is in a structure if its parent is one
  in-members : (child : ℕ) → IsChildOf (entries_of us) node child
      → parent_is has_members us child ≡ has_members (entry_in us node)
  in-members child is = rw is.1 refl

  -- a member of a structure
  pub plain-in_members : has_members (entry_in us node) ≡ true → (child : ℕ) → IsChildOf (entries_of us) node child
      → is_plain us child ≡ is_defined_member (entry_in us child)
  plain-in_members members child is = search (rules, and-by, in-members, and-true)

  no-member : has_members (entry_in us node) ≡ false → (child : ℕ) → IsChildOf (entries_of us) node child
      → member_step us child ≡ []
  no-member none child is = search (rules, and-by, in-members, and-false)

  no-members : has_members (entry_in us node) ≡ false
      → flat_map (member_step us) (children_of (entries_of us) node) ≡ []
  no-members none = search (rules, flat_map-none, no-member, All-contains, children-all, Contains-get_or)

  -- the row of any other entry
  pub own-row : has_members (entry_in us node) ≡ false
      → targets_if (passes_type_on (entry_in us node)) (type_target us node)
      ++ targets_if (is_declared_type (entry_in us node)) (signature_target us node)
      ≡ steps_by_value us node
  own-row none = search (rules, no-members, append-nil)

  -- the row of an entry that is no type
  pub untyped-row : is_type_tag (entry_in us node).head.decl.tag ≡ false → [] ≡ steps_by_value us node
  untyped-row untyped = search (rules, own-row, untyped-members, untyped-passes, untyped-declared)

-- one more row leads to entries
pub leads-row : (us : List DebugUnit) (node : ℕ) (steps : List ℕ) → LeadsBelow steps (length (entries_of us))
    → LeadsBelow (steps ++ steps_by_value us node) (length (entries_of us))
leads-row us node steps leads k within =
    let row = steps_by_value us node in
    let long = length-append steps row in
    elim (cases_lt k (length steps)) [
      | inl below ↦ rw (get_or_append_left steps row 0 k below) (leads k below)
      | inr above ↦
          let inside : k - length steps < length row = omega arith in
          let there = get_or-append_right steps row k 0 above in
          rw there (step-to_entry us node (get_or row (k - length steps) 0)
          (steps-from us node (get_or row (k - length steps) 0)
          (Contains-get_or row (k - length steps) 0 inside)))
    ]

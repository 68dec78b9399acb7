-- The graph of steps by value has exactly the steps by value, and the steps of one entry.
use Rattle.std.proofs.Common.{rules, ◌≡◌, ℕ, ◌+◌, ◌<◌, ◌≤◌, Bool, true, false, List, [], ◌∷◌, ◌++◌, Option, Some, None, length, get_or, inl, inr, arith, refl, ap, ◌∙◌, suc, zero}
use Rattle.std.specs.List.{flat_map, range_with_len, Contains}
use Rattle.std.proofs.lemmas.Bool.{cases_lt}
use Rattle.std.proofs.lemmas.List.{length-map, get_or-map, get_or_past, get_or_default}
use Rattle.std.proofs.lemmas.List.Elements.{All-contains, Contains-append_left, Contains-append_right, Contains-append_cases}
use Rattle.std.proofs.lemmas.List.FromFn.{length-range_with_len, get_or-range_with_len}
use Rattle.dw_entries.specs.Entries.{entries_of, DebugUnit}
use Rattle.dw_links.proofs.TableLemmas.{target_within}
use Rattle.dw_types.specs.Children.{children_of, IsChildOf}
use Rattle.dw_types.specs.Entries.{entry_in, signature_target, type_target}
use Rattle.dw_types.specs.Graphs.{steps_of, IsStep, step_at, LeadsToNodes}
use Rattle.dw_types.specs.Kinds.{passes_type_on, is_declared_type}
use Rattle.dw_types.specs.Shapes.{is_plain}
use Rattle.dw_types.specs.Steps.{IsStepByValue, by_type, by_member, by_signature, targets_if, member_step, steps_by_value, by_value}
use Rattle.dw_types.proofs.SiblingLemmas.{child-in, children-all, parent-first}

-- the one target, where the test passes

in-targets : (test : Bool) (target : Option ℕ) (to : ℕ) → test ≡ true → target ≡ Some to
    → Contains (targets_if test target) to
in-targets test target to passes is = search rules

from-targets : (test : Bool) (target : Option ℕ) (to : ℕ) → Contains (targets_if test target) to
    → (test ≡ true) × (target ≡ Some to)
from-targets false target to (k, below, e) = absurd (omega arith)
from-targets true None to (k, below, e) = absurd (omega arith)
from-targets true (Some x) to (zero, below, e) = (refl, ap Some e)
from-targets true (Some x) to (suc k, below, e) = absurd (omega arith)

-- an element of a list that is joined of pieces is one of a piece

in-flat_map : (f : ℕ → List ℕ) (xs : List ℕ) (x y : ℕ) → Contains xs x → Contains (f x) y → Contains (flat_map f xs) y
in-flat_map f [] x y has more = absurd (let below = has.1 in omega arith)
in-flat_map f (z ∷ zs) x y (zero, below, same) more = search (rules, Contains-append_left)
in-flat_map f (z ∷ zs) x y (suc k, below, same) more =
    Contains-append_right (f z) (flat_map f zs) y (in-flat_map f zs x y (k, omega arith, same) more)

from-flat_map : (f : ℕ → List ℕ) (xs : List ℕ) (y : ℕ) → Contains (flat_map f xs) y
    → (x : ℕ) × Contains xs x × Contains (f x) y
from-flat_map f [] y has = absurd (let below = has.1 in omega arith)
from-flat_map f (x ∷ xs) y has = elim (Contains-append_cases (f x) (flat_map f xs) y has) [
  | inl here ↦ (x, (0, (omega arith), refl), here)
  | inr later ↦ let p = from-flat_map f xs y later in (p.0, Contains-append_right (x ∷ []) xs p.0 p.1, p.2)
]

-- the steps of a node in the graph

pub by_value-at : (us : List DebugUnit) (node : ℕ) → node < length (entries_of us)
    → steps_of (by_value us) node ≡ steps_by_value us node
by_value-at us node below =
    let long = length-range_with_len 0 (length (entries_of us)) in
    let at = get_or-range_with_len 0 (length (entries_of us)) node 0 below in
    let plain : 0 + node ≡ node = omega arith in
    get_or-map (steps_by_value us) (range_with_len 0 (length (entries_of us))) node 0 [] (omega arith)
    ∙ ap (steps_by_value us) (at ∙ plain)

-- as many nodes as entries
pub length-by_value : (us : List DebugUnit) → length (by_value us) ≡ length (entries_of us)
length-by_value us = search (rules, length-map, length-range_with_len)

-- a step of an entry is one of the three parts of its list
pub steps-from : (us : List DebugUnit) (from to : ℕ) → Contains (steps_by_value us from) to → IsStepByValue us from to
steps-from us from to has =
    let own = targets_if (passes_type_on (entry_in us from)) (type_target us from) in
    let children = children_of (entries_of us) from in
    let members = flat_map (member_step us) children in
    let last = targets_if (is_declared_type (entry_in us from)) (signature_target us from) in
    elim (Contains-append_cases (own ++ members) last to has) [
      | inl first ↦ elim (Contains-append_cases own members to first) [
        | inl type ↦ let p = from-targets (passes_type_on (entry_in us from)) (type_target us from) to type in
            by_type p.0 p.1
        | inr member ↦
            let (child, among, here) = from-flat_map (member_step us) children to member in
            let is = All-contains (IsChildOf (entries_of us) from) children child (children-all (entries_of us) from)
            among in
            let p = from-targets (is_plain us child) (type_target us child) to here in
            by_member child is.0 p.0 is.1 p.1
      ]
      | inr signature ↦
          let p = from-targets (is_declared_type (entry_in us from)) (signature_target us from) to signature in
          by_signature p.0 p.1
    ]

steps-to : (us : List DebugUnit) (from to : ℕ) → IsStepByValue us from to → Contains (steps_by_value us from) to
steps-to us from to (by_type passes is) = search (rules, Contains-append_left, in-targets)
steps-to us from to (by_member member below plain parent is) =
    let own = targets_if (passes_type_on (entry_in us from)) (type_target us from) in
    let children = children_of (entries_of us) from in
    let among = child-in (entries_of us) from member (below, parent) in
    let here : Contains (member_step us member) to = in-targets _ _ to plain is in
    Contains-append_left _ (targets_if (is_declared_type (entry_in us from)) (signature_target us from)) to
    (Contains-append_right own (flat_map (member_step us) children) to
    (in-flat_map (member_step us) children member to among here))
steps-to us from to (by_signature declared is) = search (rules, Contains-append_right, in-targets)

-- only an entry has a step by value
step-inside : (us : List DebugUnit) (from to : ℕ) → length (entries_of us) ≤ from → IsStepByValue us from to → ⊥
step-inside us from to above (by_type passes is) = search (rules, get_or_past)
step-inside us from to above (by_member member below plain parent is) = search (rules, parent-first)
step-inside us from to above (by_signature declared is) = search (rules, get_or_past)

-- the steps of the graph are the steps by value
pub by_value-from_step : (us : List DebugUnit) (from to : ℕ) → IsStep (by_value us) from to
    → IsStepByValue us from to
by_value-from_step us from to (k, below, is) =
    elim (cases_lt from (length (entries_of us))) [
      | inl inside ↦
          let at = by_value-at us from inside in
          let within : k < length (steps_by_value us from) = rw at at below in
          let e : get_or (steps_by_value us from) k 0 ≡ to = rw at at is in
          steps-from us from to (k, within, get_or_default (steps_by_value us from) k to 0 within ∙ e)
      | inr above ↦ search (rules, length-by_value, get_or_past)
    ]

pub step-from_by_value : (us : List DebugUnit) (from to : ℕ) → IsStepByValue us from to
    → IsStep (by_value us) from to
step-from_by_value us from to step =
    elim (cases_lt from (length (entries_of us))) [
      | inl inside ↦
          let has = steps-to us from to step in
          let at = by_value-at us from inside in
          rw at (has.0, has.1, get_or_default (steps_by_value us from) has.0 0 to has.1 ∙ has.2)
      | inr above ↦ absurd (step-inside us from to above step)
    ]

pub flat_map-none : (f : ℕ → List ℕ) (xs : List ℕ) → ((k : ℕ) → k < length xs → f (get_or xs k 0) ≡ [])
    → flat_map f xs ≡ []
flat_map-none f [] none = refl
flat_map-none f (x ∷ xs) none =
    rw (none 0 (omega arith), flat_map-none f xs (λ k below. none (suc k) (omega arith))) refl

-- a step by value leads to an entry
pub step-to_entry : (us : List DebugUnit) (from to : ℕ) → IsStepByValue us from to → to < length (entries_of us)
step-to_entry us from to (by_type passes is) = target_within _ _ _ _ to is
step-to_entry us from to (by_member member below plain parent is) = target_within _ _ _ _ to is
step-to_entry us from to (by_signature declared is) = target_within _ _ _ _ to is

pub by_value-leads : (us : List DebugUnit) → LeadsToNodes (by_value us)
by_value-leads us node k below =
    rw (length-by_value us) (step-to_entry us node (step_at (by_value us) node k)
    (by_value-from_step us node (step_at (by_value us) node k) (k, below, refl)))

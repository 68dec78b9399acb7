-- Each attribute that is kept, and those of the declarations.
use Rattle.std.proofs.Common.{rules, ◌≡◌, ℕ, zero, suc, ◌<◌, List, [], ◌∷◌, length, map, Some, sym, ap, subst, ◌∙◌, arith, All, Contains, get_or, slice_get}
use Rattle.std.proofs.lemmas.List.{length-map, get_or-map}
use Rattle.std.proofs.lemmas.List.Elements.{All-nil, All-cons}
use Rattle.std.proofs.lemmas.Option.{slice_get_read}
use Rattle.dw_forms.specs.declared.abbrev.AttributeSpec.{AttributeSpec}
use Rattle.dw_forms.specs.Abbrev.{Declaration}
use Rattle.dw_forms.specs.AttributeLists.{spec_of, specs_of, numbered_in, Node}
use Rattle.dw_forms.specs.Chains.{Numbered, items_of, item_of, AreNumbered}
use Rattle.dw_forms.specs.KeptDecls.{kept_view, decl_of, KeptDecl}
use Rattle.dw_forms.proofs.ChainLaws.{are_numbered}
use Rattle.dw_forms.proofs.SizeLaws.{some_is, never_none}

pub spec_read : (nodes : List Node) (number : ℕ) (n : Node) → number < length nodes → n ≡ get_or nodes number n
    → slice_get (map spec_of nodes) number ≡ Some (spec_of n)
spec_read nodes number n within read =
    slice_get_read (map spec_of nodes) (length nodes) number (spec_of n) (sym (length-map nodes spec_of)) within
    (ap spec_of read ∙ sym (get_or-map spec_of nodes number n (spec_of n) within))

-- ---- the attributes of a declaration are among them

abbrev Kept : List Node → AttributeSpec → Type 0
Kept nodes spec = Contains (map spec_of nodes) spec

number_kept : (nodes : List Node) (number : ℕ) (spec : AttributeSpec) → item_of (specs_of nodes) number ≡ Some spec
    → Kept nodes spec
number_kept nodes zero spec is = absurd (never_none is)
number_kept [] (suc n) spec is = absurd (never_none is)
number_kept (x ∷ nodes) (suc zero) spec is = (0, omega arith, some_is is)
number_kept (x ∷ nodes) (suc (suc n)) spec is =
    let (k, within, same) = number_kept nodes (suc n) spec is in
    (suc k, omega arith, same)

list_kept : (nodes : List Node) (list : List (Numbered AttributeSpec)) → AreNumbered (specs_of nodes) list
    → All (λ (spec : AttributeSpec). Kept nodes spec) (items_of list)
list_kept nodes [] are = search (rules, All-nil)
list_kept nodes (n ∷ list) are = search (rules, All-cons, number_kept, (list_kept nodes list are.1))

kept_of : (nodes : List Node) (kept : List KeptDecl) (number : ℕ) (d : Declaration) → decl_of nodes kept number ≡ Some d
    → (k : KeptDecl) × (kept_view nodes k ≡ d)
kept_of nodes kept zero d is = absurd (never_none is)
kept_of nodes [] (suc n) d is = absurd (never_none is)
kept_of nodes (k ∷ kept) (suc zero) d is = (k, some_is is)
kept_of nodes (k ∷ kept) (suc (suc n)) d is = kept_of nodes kept (suc n) d is

pub decl_specs : (nodes : List Node) (kept : List KeptDecl) (number : ℕ) (d : Declaration)
    → decl_of nodes kept number ≡ Some d
    → All (λ (spec : AttributeSpec). Contains (map spec_of nodes) spec) d.attributes
decl_specs nodes kept number d is =
    let (k, same) = kept_of nodes kept number d is in
    subst (λ (x : Declaration). All (λ (spec : AttributeSpec). Kept nodes spec) x.attributes) same
    (list_kept nodes (numbered_in nodes k.first) (are_numbered (specs_of nodes) k.first))

-- Laws: some bytes begin with one list of attributes at most.
use Rattle.std.proofs.Common.{◌≡◌, ℕ, List, sym, ◌∙◌, flat_map}
use mathlib.Core.HLevel.{Σ_prop_path}
use Rattle.std.proofs.Props.{props}
use Rattle.dw_entries.specs.ItemFormats.{attributes}
use Rattle.dw_entries.specs.ItemLaws.{attributes_to}
use Rattle.dw_forms.specs.WithBytes.{one_value}
use Rattle.dw_entries.specs.OneProof.{AreAttributes-prop}
use Rattle.dw_entries.specs.Values.{Begin, Left, AttributeSpec, Context, Attribute, attribute_bytes}

Begin-prop : (x : Context) (specs : List AttributeSpec) (bytes : List ℕ) (found : List Attribute × List ℕ)
    → IsProp (Begin x specs bytes found)
Begin-prop x specs bytes found = hlevel (props, AreAttributes-prop)

pair_path : {A B : Type 0} (x y : A × B) → x.0 ≡ y.0 → x.1 ≡ y.1 → x ≡ y
pair_path x y e f = λ i. (e i, f i)

-- the attributes of these specs at the front of the bytes
pub left_unique : (x : Context) (specs : List AttributeSpec) (bytes : List ℕ) → IsProp (Left x specs bytes)
left_unique x specs bytes p q =
    let same = one_value (attributes x specs) (flat_map attribute_bytes p.0.0) (flat_map attribute_bytes q.0.0)
    p.0.1 q.0.1 p.0.0 q.0.0 (attributes_to x specs p.0.0 p.1.are) (attributes_to x specs q.0.0 q.1.are)
    (sym p.1.spelled ∙ q.1.spelled) in
    let first : p.0.0 ≡ q.0.0 = same.0 in
    let second : p.0.1 ≡ q.0.1 = same.1 in
    Σ_prop_path (Begin-prop x specs bytes) (pair_path p.0 q.0 first second)

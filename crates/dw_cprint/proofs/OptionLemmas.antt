-- Values that may be absent, and tests on them.
use Rattle.std.proofs.Common.{◌≡◌, Bool, true, false, Option, Some, None, Result, refl, subst}
use Rattle.std.proofs.lemmas.Option.{same_Some}
use Rattle.std.proofs.lemmas.Result.{on_ok_weaker}
use Rattle.std.specs.Prelude.{IsSome, OnOk, option_map, option_and_then, not, if◌then◌else◌}
pub use Rattle.std.proofs.lemmas.Bool.{or_left, or_right}

pub map_inverted : {A B : Type 0} → (f : A → B) (o : Option A) (y : B) → option_map f o ≡ Some y
    → (x : A) × (o ≡ Some x) × (f x ≡ y)
map_inverted f None y h = absurd (cc)
map_inverted f (Some x) y h = (x, refl, cc)

pub then_inverted : {A B : Type 0} → (f : A → Option B) (o : Option A) (y : B) → option_and_then f o ≡ Some y
    → (x : A) × (o ≡ Some x) × (f x ≡ Some y)
then_inverted f None y h = absurd (cc)
then_inverted f (Some x) y h = (x, refl, h)

-- what holds of each value that a step can give holds of the one that it gives
pub map_holds : {A B : Type 0} → (P : B → Type 0) (f : A → B) (o : Option A) → ((x : A) → o ≡ Some x → P (f x))
    → (y : B) → option_map f o ≡ Some y → P y
map_holds P f None h y e = absurd (cc)
map_holds P f (Some x) h y e = subst P (same_Some (f x) y e) (h x refl)

pub both_hold : {A B C : Type 0} → (P : C → Type 0) (f : A → B → C) (o : Option A) (p : Option B)
    → ((x : A) → o ≡ Some x → (z : B) → p ≡ Some z → P (f x z))
    → (y : C) → option_and_then (λ x. option_map (f x) p) o ≡ Some y → P y
both_hold P f None p h y e = absurd (cc)
both_hold P f (Some x) p h y e = map_holds P (f x) p (h x refl) y e

pub unless_holds : {A : Type 0} → (P : A → Type 0) (b : Bool) (o : Option A) → (b ≡ false → (y : A) → o ≡ Some y → P y)
    → (y : A) → (if b then None else o) ≡ Some y → P y
unless_holds P true o h y e = absurd (cc)
unless_holds P false o h y e = h refl y e

pub some_value : {A : Type 0} → (o : Option A) → IsSome o → (x : A) × (o ≡ Some x)
some_value None h = absurd (cc)
some_value (Some x) h = (x, refl)

pub not_refuted : (b : Bool) → (not b ≡ true → ⊥) → b ≡ true
not_refuted true h = refl
not_refuted false h = absurd (h refl)

-- nothing, where a test passes
pub unless_inverted : {A : Type 0} → (b : Bool) (o : Option A) (y : A) → (if b then None else o) ≡ Some y
    → (b ≡ false) × (o ≡ Some y)
unless_inverted true o y h = absurd (cc)
unless_inverted false o y h = (refl, h)

-- what follows where a call succeeds
pub from_ok : {T E P Q : Type 0} (r : Result T E) → OnOk r P → (P → Q) → OnOk r Q
from_ok r h f = on_ok_weaker r f h

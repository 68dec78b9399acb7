-- Laws: if no spelling is a prefix of another, joined spellings are taken apart in one way.
use Rattle.std.proofs.Common.{◌≡◌, ℕ, ◌<◌, List, [], ◌∷◌, ◌++◌, refl, ap, length, length-append, arith, flat_map}
use Rattle.std.specs.List.{AllByRecursion}

module _ {A : Type 0} (bytes : A → List ℕ) (Is : A → Type 0) where
  -- no spelling begins another
  abbrev pub IsUnique : Type 0
  IsUnique = (i j : A) (x y : List ℕ) → Is i → Is j → bytes i ++ x ≡ bytes j ++ y → (i ≡ j) × (x ≡ y)

  -- two lists that spell the same bytes are one, if each of them has a byte
  pub one_row : IsUnique → ((i : A) → Is i → 0 < length (bytes i)) → (is js : List A) → AllByRecursion Is is
      → AllByRecursion Is js → flat_map bytes is ≡ flat_map bytes js → is ≡ js
  one_row unique some [] [] p q e = refl
  one_row unique some [] (j ∷ js) p q e =
      absurd (omega (arith, ap length e, some j q.0, length-append (bytes j) (flat_map bytes js)))
  one_row unique some (i ∷ is) [] p q e =
      absurd (omega (arith, ap length e, some i p.0, length-append (bytes i) (flat_map bytes is)))
  one_row unique some (i ∷ is) (j ∷ js) p q e =
      let u = unique i j (flat_map bytes is) (flat_map bytes js) p.0 q.0 e in
      λ k. u.0 k ∷ one_row unique some is js p.1 q.1 u.1 k

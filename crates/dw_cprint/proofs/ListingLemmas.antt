-- The named types of an image, in rising offset, and texts written one after another.
use Rattle.std.proofs.Common.{rules, ◌≡◌, ℕ, ◌+◌, ◌<◌, Bool, true, List, [], ◌∷◌, ◌++◌, refl, length, get_or, arith, append_assoc, drop, Some, None}
use Rattle.std.specs.Prelude.{◌&&◌, All, Contains, filter, flat_map, nat_lt, if◌then◌else◌}
use Rattle.std.specs.List.{range_with_len, filter_map}
use Rattle.std.proofs.lemmas.Bool.{and_parts}
use Rattle.std.proofs.lemmas.Bool.Decides.{nat_tests}
use Rattle.std.proofs.lemmas.List.{drop_more, get_or_read}
use Rattle.std.proofs.lemmas.List.Elements.{All-contains, Contains-get_or, filter_passes}
use Rattle.std.proofs.lemmas.List.Kept.{AllPairs-filter}
use Rattle.dw_image.specs.declared.image.Image.{Image}
use Rattle.dw_image.specs.Images.{entries_in}
use Rattle.dw_cprint.specs.EntryShapes.{subject_in}
use Rattle.dw_cprint.specs.Listings.{IsNamedType, AreNamedTypes, is_named_type, named_number}
use Rattle.dw_cprint.specs.Judgements.{HoldsOfEach}
use Rattle.dw_cprint.proofs.LevelLemmas.{few-entries}
use Rattle.dw_cprint.proofs.NumberLemmas.{kept-has, range-rising, range-there}
use Rattle.dw_cprint.proofs.ReachLemmas.{few-apart}

-- each named type is an entry
pub named-within : {image : Image} {named : List ℕ} → AreNamedTypes image named
    → All (λ id. id < length (entries_in image)) named
named-within {named = named} names k d w = ((names.all (get_or named k d)).0 (Contains-get_or named k d w)).0

-- so there are at most as many named types as entries
pub few-named : {image : Image} {named : List ℕ} → AreNamedTypes image named → length named < 4294967296
few-named {image = image} {named = named} names =
    let few = few-apart named (length (entries_in image))
    (λ i j d less w same. (let step = names.rising i j d less w in omega arith)) (named-within names) in
    omega (arith, few-entries image, few)

-- ---- the text

-- the line of one more
pub lines-more : {X : Type 0} (f : X → List ℕ) (out out' all : List ℕ) (xs : List X) (i : ℕ) (x : X) → out' ≡ out ++ f x
    → i < length xs → x ≡ get_or xs i x
    → out ++ flat_map f (drop i xs) ≡ all → out' ++ flat_map f (drop (i + 1) xs) ≡ all
lines-more {X = X} f out out' all xs i x written within at so_far = search (rules, drop_more, append_assoc)

-- ---- the named types of an image

kept-numbers : (p : ℕ → Bool) (xs : List ℕ) → filter_map (λ k. if p k then Some k else None) xs ≡ filter p xs
kept-numbers p [] = refl
kept-numbers p (x ∷ xs) = search (rules, (kept-numbers p xs))

pub named_done : (image : Image) (named : List ℕ)
    → named ≡ filter_map (named_number image) (range_with_len 0 (length (entries_in image))) → AreNamedTypes image named
named_done image named is = rw (is, kept-numbers p range) (record {
  all =
      λ entry. (
        λ has. passed entry (All-contains (λ x. p x ≡ true) (filter p range) entry (filter_passes p range) has),
        λ (w, t). there entry w t,
      );
  rising = AllPairs-filter (λ a b. a < b) p range (range-rising n);
})
  where
    n : ℕ
    n = length (entries_in image)

    range : List ℕ
    range = range_with_len 0 n

    p : ℕ → Bool
    p k = nat_lt k n && is_named_type (subject_in image k)

    passed : (entry : ℕ) → p entry ≡ true → IsNamedType image entry
    passed entry t =
        let (below, is) = and_parts (nat_lt entry n) (is_named_type (subject_in image entry)) t in
        (grind (arith, nat_tests), is)

    there : (entry : ℕ) → entry < n → is_named_type (subject_in image entry) ≡ true → Contains (filter p range) entry
    there entry w t =
        let below : nat_lt entry n ≡ true = grind (arith, nat_tests) in
        kept-has p range entry (range-there n entry w) (rw (below, t) refl)

-- ---- a named type by its number

pub entry-there : {image : Image} {named : List ℕ} (k id : ℕ) → AreNamedTypes image named → k < length named
    → id ≡ get_or named k id → IsNamedType image id
entry-there {named = named} k id names inside at =
    rw (get_or_read named k id inside at 0) ((names.all (get_or named k 0)).0 (Contains-get_or named k 0 inside))

-- and what is kept of it
pub kept-there : {X : Type 0} {P : ℕ → X → Type 0} {named : List ℕ} {kept : List X} (k id : ℕ) (it : X)
    → HoldsOfEach P named kept → k < length named → id ≡ get_or named k id → it ≡ get_or kept k it → P id it
kept-there {named = named} {kept = kept} k id it are inside at told =
    let there : k < length kept = omega (arith, are.long, inside) in
    rw (get_or_read named k id inside at 0, get_or_read kept k it there told it) (are.each k it there)

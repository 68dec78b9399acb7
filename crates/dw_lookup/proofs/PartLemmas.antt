-- Areas as pairs, and the addresses of the sections of code before one of them.
use Rattle.std.proofs.Common.{◌≡◌, ℕ, ◌+◌, ◌<◌, ◌≤◌, ◌↔◌, ◌⊎◌, inl, inr, List, length, map, subst, arith}
use Rattle.std.specs.Prelude.{AllPairs}
use Rattle.std.proofs.lemmas.Bool.{cases_lt}
use Rattle.std.proofs.lemmas.List.{get_or-map, length-map}
use Rattle.std.proofs.lemmas.List.Elements.{All-map}
use Rattle.dw_elf.specs.Elf.{section_count}
use Rattle.dw_addresses.specs.Addresses.{AreAreas as ArePairs}
use Rattle.dw_ranges.specs.Areas.{AreAreas, Has}
use Rattle.dw_ranges.specs.declared.range.Range.{Range}
use Rattle.dw_lookup.specs.Parts.{AreCodeAreas, IsCodeAt, pair_of}

pairs_apart : (areas : List Range) → AllPairs (λ r s. r.high < s.low) areas
    → AllPairs (λ (x y : ℕ × ℕ). x.1 < y.0) (map pair_of areas)
pairs_apart areas apart i j d lt below =
    let long = length-map areas pair_of in
    let e : Range = record { low = 0; high = 0 } in
    let first = get_or-map pair_of areas i e d (omega arith) in
    let second = get_or-map pair_of areas j e d (omega arith) in
    rw (first, second) (apart i j e lt (omega arith))

-- pairs of areas are areas
pub pairs_are : (areas : List Range) (pairs : List (ℕ × ℕ)) → pairs ≡ map pair_of areas → AreAreas areas
    → ArePairs pairs
pairs_are areas pairs is are = rw is (record {
  some = All-map (λ (x : ℕ × ℕ). x.0 < x.1) pair_of areas are.some;
  apart = pairs_apart areas are.apart;
})

-- a section of code before number n has an address
abbrev pub IsCodeBefore : List ℕ → (n a : ℕ) → Type 0
IsCodeBefore file n a = (k : ℕ) × (k < n) × IsCodeAt file a k

-- one section more
pub code_more : (file : List ℕ) (n : ℕ) (before after : List Range)
    → ((a : ℕ) → Has before a ↔ IsCodeBefore file n a)
    → ((a : ℕ) → Has after a ↔ (Has before a ⊎ IsCodeAt file a n))
    → (a : ℕ) → Has after a ↔ IsCodeBefore file (n + 1) a
code_more file n before after are more a = (there, back)
  where
    there : Has after a → IsCodeBefore file (n + 1) a
    there has = elim ((more a).0 has) [
      | inl h ↦ let k = (are a).0 h in (k.0, omega (arith, k.1), k.2)
      | inr is ↦ (n, omega arith, is)
    ]

    back : IsCodeBefore file (n + 1) a → Has after a
    back (k, below, is) = elim (cases_lt k n) [
      | inl lt ↦ (more a).1 (inl ((are a).1 (k, lt, is)))
      | inr ge ↦
          let same : k ≡ n = omega (arith, below, ge) in
          (more a).1 (inr (subst (IsCodeAt file a) same is))
    ]

-- all sections
pub code_all : (file : List ℕ) (n : ℕ) (before areas : List Range) → section_count file ≤ n
    → ((a : ℕ) → Has before a ↔ IsCodeBefore file n a) → AreAreas areas
    → ((a : ℕ) → Has areas a ↔ Has before a) → AreCodeAreas file areas
code_all file n before areas all are is same = record {
  areas_are = is;
  same = λ a. (
    λ h. let k = (are a).0 ((same a).0 h) in (k.0, k.2),
    λ k.
        let count = k.1.code.0.1 in
        (same a).1 ((are a).1 (k.0, omega (arith, count, all), k.1)),
  );
}

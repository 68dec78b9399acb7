-- State: chains of items, in which each item is kept once. Items are numbered from 1 in the order in which they are
-- kept. A chain is an item and the chain after it, and has the number of its first item; the chain 0 has no items.
use Rattle.std.specs.Prelude.{◌≡◌, ℕ, zero, suc, ◌+◌, ◌-◌, ◌<◌, ◌≤◌, List, [], ◌∷◌, ◌++◌, length, take, map, Option}
use Rattle.std.specs.Prelude.{Bool, true, None, Some, get_or, slice_get, option_map, ◌==◌, if◌then◌else◌, ◌&&◌, not}
pub use Rattle.dw_forms.specs.declared.chains.Link.{Link}
use Rattle.std.specs.Int.{bit_at}

-- the codes have the same bit at this place, counted from 0
abbrev pub same_bit : ℕ → ℕ → ℕ → Bool
same_bit code place other = bit_at code place == bit_at other place

-- the codes have the same bits below this place
unfoldable pub agrees : ℕ → ℕ → ℕ → Bool
agrees code zero other = true
agrees code (suc place) other = agrees code place other && same_bit code place other

-- the codes have the same bits below this place, but not at it
abbrev pub parts : ℕ → ℕ → ℕ → Bool
parts code place other = agrees code place other && not (same_bit code place other)

-- an item of a chain, and its number
pub record Numbered (X : Type 0) : Type 0 where
  pub number : ℕ
  pub item : X

-- the items of a chain
abbrev pub items_of : {X : Type 0} → List (Numbered X) → List X
items_of chain = map (λ n. n.item) chain

-- the chain of this number
abbrev pub chain_in : {X : Type 0} → List (List (Numbered X)) → ℕ → List (Numbered X)
chain_in chains number = get_or chains number []

-- these chains, and one more for each of the items, which come with the numbers of the chains after them
unfoldable pub chains_from : {X : Type 0} → List (List (Numbered X)) → List (X × ℕ) → List (List (Numbered X))
chains_from chains [] = chains
chains_from chains (x ∷ items) =
    chains_from (chains ++ (record { number = length chains; item = x.0 } ∷ chain_in chains x.1) ∷ []) items

-- all chains, by their numbers
abbrev pub chains_of : {X : Type 0} → List (X × ℕ) → List (List (Numbered X))
chains_of items = chains_from ([] ∷ []) items

-- the item of this number
abbrev pub item_of : {X : Type 0} → List (X × ℕ) → ℕ → Option X
item_of items zero = None
item_of {X} items (suc k) = option_map (λ (x : X × ℕ). x.0) (slice_get items k)

-- the number of the chain's first item that passes the test, or 0
unfoldable pub number_where : {X : Type 0} → (X → Bool) → List (Numbered X) → ℕ
number_where test [] = 0
number_where test (n ∷ chain) = if test n.item then n.number else number_where test chain

-- each item of the chain is the one of its number
abbrev pub AreNumbered : {X : Type 0} → List (X × ℕ) → List (Numbered X) → Type 0
AreNumbered items [] = Unit {0}
AreNumbered items (n ∷ chain) = (item_of items n.number ≡ Some n.item) × AreNumbered items chain

-- ---- codes

-- the codes of links, each with the number of the chain after it
abbrev pub codes_of : List Link → List (ℕ × ℕ)
codes_of links = map (λ (l : Link). (l.code, l.rest)) links

-- the chain of codes of this number
abbrev pub codes_in : List Link → ℕ → List (Numbered ℕ)
codes_in links number = chain_in (chains_of (codes_of links)) number

-- the number of the chain's link with this code, or 0
abbrev pub number_in : List (Numbered ℕ) → ℕ → ℕ
number_in chain code = number_where (λ c. c == code) chain

-- so many codes, which count up from this one while their numbers count down from this one
abbrev pub run_from : ℕ → ℕ → ℕ → List (Numbered ℕ)
run_from zero code number = []
run_from (suc run) code number = record { number = number; item = code } ∷ run_from run (suc code) (number - 1)

-- the chain begins with them
abbrev pub IsRun : List (Numbered ℕ) → ℕ → ℕ → ℕ → Type 0
IsRun chain run code number = take run chain ≡ run_from run code number

-- for each place, the branch is the chain's first link whose code has the same bits as this one below the place, but
-- not at it. There is none at the places that are left out
pub record AreBranches (branches : List ℕ) (from count code : ℕ) (chain : List (Numbered ℕ)) : Type 0 where
  pub within : from + count ≤ length branches
  pub each : (place : ℕ) → place < count → get_or branches (from + place) 0 ≡ number_where (parts code place) chain
  pub others : (place : ℕ) → count ≤ place → place < 64 → number_where (parts code place) chain ≡ 0

-- the branches have numbers below this one
abbrev pub AreBelow : List ℕ → ℕ → ℕ → ℕ → Type 0
AreBelow branches from count number = (place : ℕ) → place < count → get_or branches (from + place) 0 < number

-- the branches begin with those that were there before
pub record AreMore (old new : List ℕ) : Type 0 where
  pub long : length old ≤ length new
  pub same : (i : ℕ) → i < length old → get_or new i 0 ≡ get_or old i 0

-- the link of this number says how codes are found in its chain
pub record IsFoundBy (branches : List ℕ) (links : List Link) (number : ℕ) (l : Link) : Type 0 where
  pub first : (test : ℕ → Bool) → test l.code ≡ true → number_where test (codes_in links number) ≡ number
  pub short : l.run ≤ number
  pub run : IsRun (codes_in links number) l.run l.code number
  pub below : AreBelow branches l.branches l.places number
  pub codes : AreBranches branches l.branches l.places l.code (codes_in links number)

-- codes are found in the chains of these links
abbrev pub AreFound : List ℕ → List Link → Type 0
AreFound branches links =
    (k : ℕ) (l : Link) → k < length links → l ≡ get_or links k l → IsFoundBy branches links (suc k) l

-- the code and the chain of this number are a new chain, unless the chain has the code
abbrev pub IsAddedChain : ℕ → ℕ → List Link → List Link → Option ℕ → Type 0
IsAddedChain code rest old new (Some number) =
    (number_in (codes_in old rest) code ≡ 0) × (number ≡ suc (length old))
    × (codes_of new ≡ codes_of old ++ (code, rest) ∷ [])
IsAddedChain code rest old new None = (number_in (codes_in old rest) code ≡ 0 → ⊥) × (new ≡ old)

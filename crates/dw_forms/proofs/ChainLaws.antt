-- Chains of items that are kept, as one more is kept.
use Rattle.std.proofs.Common.{rules, ◌≡◌, ℕ, zero, suc, ◌+◌, ◌-◌, ◌<◌, ◌≤◌, Bool, true, false, cond, List, [], ◌∷◌, ◌++◌, length, map, Some, refl, sym, ap, ◌∙◌, inl, inr, append_assoc, append-nil, arith, ◌⊎◌, ◌||◌, get_or, length-append}
use Rattle.std.proofs.lemmas.Grind.{common_steps}
use Rattle.std.specs.List.{list_any}
use Rattle.std.proofs.lemmas.List.{length-map, map-append, get_or_append_left, get_or_at}
use Rattle.std.proofs.Math.ListN.{get_or-eq_default}
use Rattle.std.proofs.lemmas.Option.{slice_get_past, slice_get-get_or}
use Rattle.dw_forms.specs.Chains.{Numbered, items_of, chain_in, chains_from, chains_of, item_of, number_where, AreNumbered}

abbrev pub numbered : {X : Type 0} → ℕ → (X × ℕ) → Numbered X
numbered number k = record { number = number; item = k.0 }

more_from : {X : Type 0} → (chains : List (List (Numbered X))) (items : List (X × ℕ)) (k : X × ℕ)
    → chains_from chains (items ++ k ∷ [])
    ≡ chains_from chains items ++ (numbered (length (chains_from chains items)) k
    ∷ chain_in (chains_from chains items) k.1) ∷ []
unfolding chains_from
more_from chains [] k = refl
more_from chains (j ∷ items) k = more_from (chains ++ (numbered (length chains) j ∷ chain_in chains j.1) ∷ []) items k

long_from : {X : Type 0} → (chains : List (List (Numbered X))) (items : List (X × ℕ))
    → length (chains_from chains items) ≡ length chains + length items
unfolding chains_from
long_from chains [] = omega arith
long_from chains (j ∷ items) =
    let t = (numbered (length chains) j ∷ chain_in chains j.1) ∷ [] in
    omega (arith, long_from (chains ++ t) items, length-append chains t)

first_from : {X : Type 0} → (chains : List (List (Numbered X))) (items : List (X × ℕ)) (n : ℕ) → n < length chains
    → chain_in (chains_from chains items) n ≡ chain_in chains n
unfolding chains_from
first_from chains [] n within = refl
first_from chains (j ∷ items) n within =
    let t = (numbered (length chains) j ∷ chain_in chains j.1) ∷ [] in
    first_from (chains ++ t) items n (omega (arith, length-append chains t))
    ∙ get_or_append_left chains t [] n within

pub chains_long : {X : Type 0} → (items : List (X × ℕ)) → length (chains_of items) ≡ suc (length items)
chains_long items = search (rules, long_from)

pub chain_none : {X : Type 0} → (items : List (X × ℕ)) → chain_in (chains_of items) 0 ≡ []
chain_none items = search (rules, first_from)

module _ {X : Type 0} (items : List (X × ℕ)) (k : X × ℕ) where
  pub chains_more : chains_of (items ++ k ∷ [])
      ≡ chains_of items ++ (numbered (length (chains_of items)) k ∷ chain_in (chains_of items) k.1) ∷ []
  chains_more = more_from ([] ∷ []) items k

  -- the old chains stay
  pub old_chain : (n : ℕ) → n ≤ length items → chain_in (chains_of (items ++ k ∷ [])) n ≡ chain_in (chains_of items) n
  old_chain n within = search (rules, chains_more, get_or_append_left, chains_long)

  -- the new one is the item and the chain after it
  pub new_chain : chain_in (chains_of (items ++ k ∷ [])) (suc (length items))
      ≡ numbered (suc (length items)) k ∷ chain_in (chains_of items) k.1
  new_chain = search (rules, chains_more, get_or_at, chains_long)

-- ---- one item more

item_more : {X : Type 0} → (items : List (X × ℕ)) (k : X × ℕ) (n : ℕ) (d : X) → item_of items n ≡ Some d
    → item_of (items ++ k ∷ []) n ≡ Some d
item_more items k zero d is = is
item_more {X} [] k (suc n) d is = grind (arith, common_steps, slice_get_past)
item_more (x ∷ items) k (suc zero) d is = is
item_more (x ∷ items) k (suc (suc n)) d is = item_more items k (suc n) d is

item_last : {X : Type 0} → (items : List (X × ℕ)) (k : X × ℕ)
    → item_of (items ++ k ∷ []) (suc (length items)) ≡ Some (k.0)
item_last [] k = refl
item_last (x ∷ items) k = item_last items k

numbered_more : {X : Type 0} → (items : List (X × ℕ)) (k : X × ℕ) (chain : List (Numbered X)) → AreNumbered items chain
    → AreNumbered (items ++ k ∷ []) chain
numbered_more items k [] are = tt
numbered_more items k (n ∷ chain) are = search (rules, item_more, (numbered_more items k chain are.1))

three_ways : (i j : ℕ) → ((i < j) ⊎ (i ≡ j)) ⊎ (j < i)
three_ways i j = grind arith

-- the items of chains have their numbers, if those of the first chains have
numbered_from : {X : Type 0} → (front items : List (X × ℕ)) (chains : List (List (Numbered X)))
    → length chains ≡ suc (length front) → ((n : ℕ) → AreNumbered front (chain_in chains n)) → (n : ℕ)
    → AreNumbered (front ++ items) (chain_in (chains_from chains items) n)
unfolding chains_from
numbered_from front [] chains long are n = rw (append-nil front) (are n)
numbered_from front (k ∷ items) chains long are n =
    let new = numbered (length chains) k ∷ chain_in chains k.1 in
    rw (← append_assoc front (k ∷ []) items)
    (numbered_from (front ++ k ∷ []) items (chains ++ new ∷ [])
    (omega (arith, length-append chains (new ∷ []), length-append front (k ∷ [])))
    (λ m. elim (three_ways m (length chains)) [
      | inl (inl less) ↦ rw (get_or_append_left chains (new ∷ []) [] m less)
          (numbered_more front k _ (are m))
      | inl (inr same) ↦ rw (get_or_at chains new [] [] m (sym same)) (
        ap (item_of (front ++ k ∷ [])) long
            ∙ item_last front k,
        numbered_more front k _ (are k.1),
      )
      | inr past ↦ rw (get_or-eq_default (chains ++ new ∷ []) [] {n = m}
          (omega (arith, length-append chains (new ∷ [])))) tt
    ]) n)

no_chain : (X : Type 0) (n : ℕ) → chain_in {X = X} ([] ∷ []) n ≡ []
no_chain X zero = refl
no_chain X (suc n) = refl

-- the items of a chain have their numbers
pub are_numbered : {X : Type 0} → (items : List (X × ℕ)) (n : ℕ) → AreNumbered items (chain_in (chains_of items) n)
are_numbered {X} items n = numbered_from [] items ([] ∷ []) refl (λ m. rw (no_chain X m) tt) n

-- tests that pass the same codes pass the same item
same_here : (number more others : ℕ) (b c : Bool) → b ≡ c → more ≡ others → cond b number more ≡ cond c number others
same_here number more others b c same rest = rw (same, rest) refl

pub where_same : {X : Type 0} → (p q : X → Bool) → ((c : X) → p c ≡ q c) → (chain : List (Numbered X))
    → number_where p chain ≡ number_where q chain
unfolding number_where
where_same p q same [] = refl
where_same p q same (n ∷ chain) = same_here n.number _ _ (p n.item) (q n.item) (same n.item) (where_same p q same chain)

-- the same for tests that pass the same items of a chain
pub where_alike : {X : Type 0} → (items : List (X × ℕ)) (p q : X → Bool)
    → ((number : ℕ) (x : X) → item_of items number ≡ Some x → p x ≡ q x) → (chain : List (Numbered X))
    → AreNumbered items chain → number_where p chain ≡ number_where q chain
unfolding number_where
where_alike items p q same [] are = refl
where_alike items p q same (n ∷ chain) are = search (rules, same_here, same, (where_alike items p q same chain are.1))

-- the first item passes the test, or is passed over
pub where_first : {X : Type 0} → (p : X → Bool) (n : Numbered X) (chain : List (Numbered X)) → p n.item ≡ true
    → number_where p (n ∷ chain) ≡ n.number
unfolding number_where
where_first p n chain is = rw is refl

pub where_later : {X : Type 0} → (p : X → Bool) (n : Numbered X) (chain : List (Numbered X)) → p n.item ≡ false
    → number_where p (n ∷ chain) ≡ number_where p chain
unfolding number_where
where_later p n chain is = rw is refl

passes_here : {X : Type 0} → (items : List (X × ℕ)) (n : Numbered X) (more : ℕ) (p : X → Bool) (b : Bool) → p n.item ≡ b
    → item_of items n.number ≡ Some n.item
    → (0 < more → (d : X) × (item_of items more ≡ Some d) × (p d ≡ true)) → 0 < cond b n.number more
    → (d : X) × (item_of items (cond b n.number more) ≡ Some d) × (p d ≡ true)
passes_here items n more p true is own rest some = (n.item, own, is)
passes_here items n more p false is own rest some = rest some

-- the item of the number passes the test
pub where_passes : {X : Type 0} → (items : List (X × ℕ)) (p : X → Bool) (chain : List (Numbered X))
    → AreNumbered items chain → 0 < number_where p chain
    → (d : X) × (item_of items (number_where p chain) ≡ Some d) × (p d ≡ true)
unfolding number_where
where_passes items p [] are some = absurd (omega arith)
where_passes items p (n ∷ chain) are some = search (rules, passes_here, (where_passes items p chain are.1))

-- the item that passes the narrower test is in the chain that begins with the one that passes the wider test
module _ {X : Type 0} (p q : X → Bool) (narrower : (c : X) → p c ≡ true → q c ≡ true) where
  not_narrower : (c : X) → q c ≡ false → (b : Bool) → (b ≡ true → q c ≡ true) → b ≡ false
  not_narrower c other true is = sym (is refl) ∙ other
  not_narrower c other false is = refl

  record Narrows (chains : List (List (Numbered X))) (n : ℕ) : Type 0 where
    within : number_where q (chain_in chains n) < length chains
    same : number_where p (chain_in chains n) ≡ number_where p (chain_in chains (number_where q (chain_in chains n)))

  none_narrows : (chains : List (List (Numbered X))) (n : ℕ) → 0 < length chains → chain_in chains 0 ≡ []
      → chain_in chains n ≡ [] → Narrows chains n
  unfolding number_where
  none_narrows chains n some none is = search rules

  longer_narrows : (chains : List (List (Numbered X))) (new : List (Numbered X)) (n : ℕ) → n < length chains
      → Narrows chains n → Narrows (chains ++ new ∷ []) n
  longer_narrows chains new n less is = search (rules, get_or_append_left, length-append)

  new_narrows : (chains : List (List (Numbered X))) (first : Numbered X) (rest : ℕ) (b : Bool) → q first.item ≡ b
      → first.number ≡ length chains → Narrows chains rest
      → Narrows (chains ++ (first ∷ chain_in chains rest) ∷ []) (length chains)
  new_narrows chains first rest true is number before = search (rules, get_or_at, where_first, length-append)
  new_narrows chains first rest false is number before =
      search (rules, get_or_at, where_later, not_narrower, length-append, get_or_append_left)

  narrows_from : (chains : List (List (Numbered X))) (items : List (X × ℕ)) → 0 < length chains → chain_in chains 0 ≡ []
      → ((n : ℕ) → Narrows chains n) → (n : ℕ) → Narrows (chains_from chains items) n
  unfolding chains_from
  narrows_from chains [] some none are n = are n
  narrows_from chains (k ∷ items) some none are n =
      let first = numbered (length chains) k in
      let new = first ∷ chain_in chains k.1 in
      let more : length (chains ++ new ∷ []) ≡ length chains + 1 = omega (arith, length-append chains (new ∷ [])) in
      let still_none : chain_in (chains ++ new ∷ []) 0 ≡ [] = search (rules, get_or_append_left) in
      narrows_from (chains ++ new ∷ []) items (omega arith) still_none
      (λ m. elim (three_ways m (length chains)) [
        | inl (inl less) ↦ longer_narrows chains new m less (are m)
        | inl (inr same) ↦ rw same (new_narrows chains first k.1 (q first.item) refl refl (are k.1))
        | inr past ↦ none_narrows (chains ++ new ∷ []) m (omega arith) still_none
            (get_or-eq_default (chains ++ new ∷ []) [] {n = m} (omega arith))
      ]) n

  pub narrowed : (items : List (X × ℕ)) (n : ℕ)
      → number_where p (chain_in (chains_of items) n)
      ≡ number_where p (chain_in (chains_of items) (number_where q (chain_in (chains_of items) n)))
  narrowed items n =
      (narrows_from ([] ∷ []) items (omega arith) refl (λ m. none_narrows ([] ∷ []) m (omega arith) refl (no_chain X m))
      n).same

-- ---- what is found

pub item_within : {X : Type 0} → (items : List (X × ℕ)) (number : ℕ) (d : X) → item_of items number ≡ Some d
    → number ≤ length items
item_within items zero d is = omega arith
item_within {X} [] (suc n) d is = search (rules, slice_get_past)
item_within (x ∷ items) (suc zero) d is = omega arith
item_within (x ∷ items) (suc (suc n)) d is = search (rules, (item_within items (suc n) d is))

-- the item that is read at the place before a number
pub item_read : {X : Type 0} → (items : List (X × ℕ)) (number : ℕ) (x : X × ℕ) → 0 < number → number ≤ length items
    → x ≡ get_or items (number - 1) x → item_of items number ≡ Some (x.0)
item_read items zero x some within read = absurd (omega arith)
item_read {X} items (suc n) x some within read = search (rules, slice_get-get_or)

-- ---- chains of what is made of the items

abbrev pub mapped : {X Y : Type 0} → (X → Y) → Numbered X → Numbered Y
mapped f n = record { number = n.number; item = f n.item }

at_map : {A B : Type 0} → (g : A → B) (xs : List A) (n : ℕ) (d : A) → get_or (map g xs) n (g d) ≡ g (get_or xs n d)
at_map g [] n d = refl
at_map g (x ∷ xs) zero d = refl
at_map g (x ∷ xs) (suc n) d = at_map g xs n d

map_from : {X Y : Type 0} → (f : X → Y) (chains : List (List (Numbered X))) (items : List (X × ℕ)) (n : ℕ)
    → chain_in (chains_from (map (map (mapped f)) chains) (map (λ (x : X × ℕ). (f x.0, x.1)) items)) n
    ≡ map (mapped f) (chain_in (chains_from chains items) n)
unfolding chains_from
map_from f chains [] n = at_map _ chains n []
map_from {X} {Y} f chains (x ∷ items) n =
    let new = numbered (length chains) x ∷ chain_in chains x.1 in
    let number : length (map (map (mapped f)) chains) ≡ length chains = length-map chains (map (mapped f)) in
    let more : map (map (mapped f)) (chains ++ new ∷ [])
    ≡ map (map (mapped f)) chains ++ map (mapped f) new ∷ [] = search (rules, map-append) in
    let same : (map (map (mapped f)) chains
    ++ (numbered (length (map (map (mapped f)) chains)) (f x.0, x.1) ∷ chain_in (map (map (mapped f)) chains) x.1)
    ∷ []) ≡ map (map (mapped f)) (chains ++ new ∷ []) =
    (λ i. map (map (mapped f)) chains ++ (numbered (number i) (f x.0, x.1) ∷ chain_in (map (map (mapped f)) chains) x.1)
    ∷ [])
    ∙ (λ i. map (map (mapped f)) chains
    ++ (numbered (length chains) (f x.0, x.1) ∷ at_map (map (mapped f)) chains x.1 [] i) ∷ [])
    ∙ sym more in
    (λ i. chain_in (chains_from (same i) (map (λ (y : X × ℕ). (f y.0, y.1)) items)) n)
    ∙ map_from f (chains ++ new ∷ []) items n

pub chain_map : {X Y : Type 0} → (f : X → Y) (items : List (X × ℕ)) (n : ℕ)
    → chain_in (chains_of (map (λ (x : X × ℕ). (f x.0, x.1)) items)) n ≡ map (mapped f) (chain_in (chains_of items) n)
chain_map f items n = map_from f ([] ∷ []) items n

pub where_map : {X Y : Type 0} → (test : Y → Bool) (f : X → Y) (chain : List (Numbered X))
    → number_where test (map (mapped f) chain) ≡ number_where (λ x. test (f x)) chain
unfolding number_where
where_map test f [] = refl
where_map test f (n ∷ chain) = (λ i. cond (test (f n.item)) n.number (where_map test f chain i))

-- ---- whether an item passes a test

-- a number that is some item's is above 0
pub item_some : {X : Type 0} → (items : List (X × ℕ)) (number : ℕ) (x : X) → item_of items number ≡ Some x → 0 < number
item_some {X} items zero x is = search rules
item_some items (suc number) x is = omega arith

none_here : (number more : ℕ) (has b : Bool) → (number ≡ 0 → ⊥) → (more ≡ 0 → has ≡ false) → cond b number more ≡ 0
    → (b || has) ≡ false
none_here number more has true some rest e = absurd (some e)
none_here number more has false some rest e = rest e

pub none_has : {X : Type 0} → (test : X → Bool) (items : List (X × ℕ)) (chain : List (Numbered X))
    → AreNumbered items chain → number_where test chain ≡ 0 → list_any test (items_of chain) ≡ false
unfolding number_where
none_has test items [] are none = refl
none_has test items (n ∷ chain) are none = search (rules, none_here, item_some, (none_has test items chain are.1))

some_here : (number more : ℕ) (has b : Bool) → ((more ≡ 0 → ⊥) → has ≡ true) → (cond b number more ≡ 0 → ⊥)
    → (b || has) ≡ true
some_here number more has true rest some = refl
some_here number more has false rest some = rest some

pub some_has : {X : Type 0} → (test : X → Bool) (chain : List (Numbered X)) → (number_where test chain ≡ 0 → ⊥)
    → list_any test (items_of chain) ≡ true
unfolding number_where
some_has test [] some = absurd (some refl)
some_has test (n ∷ chain) some = search (rules, some_here, (some_has test chain))

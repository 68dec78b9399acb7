-- The numbers of the named types, sorted by level: lists that are sorted, filtered and picked from.
use Rattle.std.proofs.Common.{◌≡◌, ℕ, zero, suc, ◌+◌, ◌<◌, Bool, true, false, not, List, [], ◌∷◌, ◌++◌, refl, sym, ◌∙◌, ap, inl, inr, length, get_or, arith, drop, take, Option, Some, None, set}
use Rattle.std.specs.Prelude.{◌&&◌, ◌⊎◌, All, Contains, AllPairs, IsPermutation, cond, filter, ◌↔◌}
use Rattle.std.specs.List.Sorted.{IsNonDecreasingBy, IsStableByKey, ties}
use Rattle.std.specs.Ordering.{nat_cmp, is_lt}
use Rattle.std.specs.List.{cons_option, range_with_len, filter_map}
use Rattle.std.specs.Option.{option_map_or}
use Rattle.std.proofs.lemmas.Bool.{cases_lt, cases_eq}
use Rattle.std.proofs.lemmas.Bool.Decides.{nat_tests}
use Rattle.std.proofs.lemmas.List.{get_or_append_left, get_or_default, get_or-take, drop_more, get_or_push, length-append, length-take-le, length_push, take-append-drop, get_or-set_same, get_or-set_other}
use Rattle.std.proofs.lemmas.Option.{slice_get-get_or}
use Rattle.std.proofs.Math.Seq.{get_or-append_seam}
use Rattle.std.proofs.lemmas.List.Elements.{Contains-append_right, Contains-get_or, filter-append, Contains-append_left, Contains-push, Contains-push_cases}
use Rattle.std.proofs.lemmas.List.Kept.{AllPairs-cons, AllPairs-filter}
use Rattle.std.proofs.lemmas.List.Sorted.{IsPermutation-sym, Contains-permutation}
use Rattle.std.proofs.lemmas.List.FromFn.{get_or-range_with_len, length-range_with_len}
use Rattle.dw_cprint.specs.Judgements.{level_of}
use Rattle.dw_cprint.specs.Listings.{StandsBefore}

-- ---- sorting

-- those that pass a test, by one of them
kept-split : {X : Type 0} (p : X → Bool) (ys : List X) (k : ℕ) (d : X) → k < length ys → p (get_or ys k d) ≡ true
    → filter p ys ≡ filter p (take k ys) ++ get_or ys k d ∷ filter p (drop (k + 1) ys)
kept-split {X = X} p ys k d w is =
    let rest : filter p (drop k ys) ≡ get_or ys k d ∷ filter p (drop (k + 1) ys) = rw (drop_more ys k d w, is) refl in
    ap (filter p) (sym (take-append-drop k ys)) ∙ filter-append p (take k ys) (drop k ys)
    ∙ ap (λ (zs : List X). filter p (take k ys) ++ zs) rest

-- an element that passes a test is one of those that do
pub kept-has : {X : Type 0} (p : X → Bool) (ys : List X) (x : X) → Contains ys x → p x ≡ true → Contains (filter p ys) x
kept-has p [] x (k, w, e) is = absurd (omega arith)
kept-has p (y ∷ ys) x (zero, w, e) is = rw (ap p e ∙ is) (0, omega arith, e)
kept-has p (y ∷ ys) x (suc k, w, e) is = by (p y) (kept-has p ys x (k, omega arith, e) is)
  where
    by : (b : Bool) → Contains (filter p ys) x → Contains (cond b (y ∷ filter p ys) (filter p ys)) x
    by true has = Contains-append_right (y ∷ []) (filter p ys) x has
    by false has = has

-- what holds of each two of those that pass a test
pairs-kept : {X : Type 0} (R : X → X → Type 0) (p : X → Bool) (ys : List X) → AllPairs R (filter p ys)
    → (i j : ℕ) (d : X) → i < j → j < length ys
    → p (get_or ys i d) ≡ true → p (get_or ys j d) ≡ true → R (get_or ys i d) (get_or ys j d)
pairs-kept {X = X} R p ys all i j d less w a b =
    let front = filter p (take j ys) in
    let rest = get_or ys j d ∷ filter p (drop (j + 1) ys) in
    let x = get_or ys i d in
    let there : Contains (take j ys) x = (
      i,
      omega (arith, length-take-le j ys (omega arith)),
      get_or-take j ys i x less
          ∙ get_or_default ys i x d (omega arith),
    ) in
    let (k, v, e) = kept-has p (take j ys) x there a in
    let here = get_or_append_left front rest d k v ∙ get_or_default front k d x v ∙ e in
    let last = get_or-append_seam front (get_or ys j d) (filter p (drop (j + 1) ys)) d in
    let whole : AllPairs R (front ++ rest) = rw (kept-split p ys j d w b) at all in
    let pair = whole k (length front) d v (omega (arith, length-append front rest)) in
    rw (here, last) at pair

tie-same : (a b : ℕ) → a ≡ b → (not (is_lt (nat_cmp a b)) && not (is_lt (nat_cmp b a))) ≡ true
tie-same a b same = grind (arith, nat_tests)

-- a stable sort keeps what holds of each two of the same key
still-pairs : {X : Type 0} (key : X → ℕ) (R : X → X → Type 0) (xs ys : List X) → AllPairs R xs
    → IsStableByKey key nat_cmp xs ys → (i j : ℕ) (d : X) → i < j → j < length ys
    → key (get_or ys i d) ≡ key (get_or ys j d) → R (get_or ys i d) (get_or ys j d)
still-pairs {X = X} key R xs ys all stable i j d less w same =
    let x = get_or ys i d in
    let tied : X → Bool = ties (λ a b. is_lt (nat_cmp (key a) (key b))) x in
    pairs-kept R tied ys (rw (stable x) (AllPairs-filter R tied xs all)) i j d less w (tie-same (key x) (key x) refl)
    (tie-same (key x) (key (get_or ys j d)) same)

-- entries in rising offset, sorted by level
pub by-level : (level : ℕ → ℕ) (named sorted : List ℕ) → AllPairs (λ a b. a < b) named → IsNonDecreasingBy level sorted
    → IsStableByKey level nat_cmp named sorted → AllPairs (λ a b. StandsBefore level a b) sorted
by-level level named sorted rising rises stable i j d less w =
    let low = rises i j d (omega arith) w in
    elim (cases_lt (level (get_or sorted i d)) (level (get_or sorted j d))) [
      | inl below ↦ inl below
      | inr above ↦
          let same : level (get_or sorted i d) ≡ level (get_or sorted j d) = omega arith in
          inr (same, still-pairs level (λ a b. a < b) named sorted rising stable i j d less w same)
    ]

-- ---- lists

-- what holds of each element and its place, if one is added
pub each-more : {X : Type 0} (P : ℕ → X → Type 0) (xs : List X) (x d : X)
    → ((k : ℕ) → k < length xs → P k (get_or xs k d)) → P (length xs) x → (k : ℕ) → k < length (xs ++ x ∷ [])
    → P k (get_or (xs ++ x ∷ []) k d)
each-more P xs x d all last k w = elim (cases_lt k (length xs)) [
  | inl before ↦ rw (get_or_append_left xs (x ∷ []) d k before) (all k before)
  | inr after ↦
      let e : length xs ≡ k = omega (arith, length_push xs x) in
      rw (get_or_push xs x d k e) (rw (← e) last)
]

-- exactly these places have a property, and one more after an element that has it is set there
pub marked-more : {X : Type 0} (P : X → Type 0) (xs : List X) (y d : X) (marked : List ℕ) (new : ℕ) → P y
    → new < length xs → ((k : ℕ) → Contains marked k ↔ P (get_or xs k d)) → (k : ℕ)
    → Contains (marked ++ new ∷ []) k ↔ P (get_or (set xs new y) k d)
marked-more P xs y d marked new has w are k = elim (cases_eq k new) [
  | inl same ↦ rw (same, get_or-set_same xs new y d w) (λ there. has, λ p. Contains-push marked new)
  | inr other ↦ rw (get_or-set_other xs new k y d other) (
    λ there. (are k).0 (elim (Contains-push_cases marked new k there)
        [ inl before ↦ before | inr last ↦ absurd (other (sym last)) ]),
    λ p. Contains-append_left marked (new ∷ []) k ((are k).1 p),
  )
]

-- an element that is put in front, or one of the others
first-or : {Y : Type 0} (o : Option Y) (ys : List Y) (y : Y) → Contains (cons_option o ys) y
    → (o ≡ Some y) ⊎ Contains ys y
first-or None ys y has = inr has
first-or (Some v) ys y (zero, w, e) = inl (ap Some e)
first-or (Some v) ys y (suc k, w, e) = inr (k, omega arith, e)

-- what is picked is picked of one
pub picked-of : {X Y : Type 0} (f : X → Option Y) (xs : List X) (y : Y) → Contains (filter_map f xs) y
    → (x : X) × Contains xs x × (f x ≡ Some y)
picked-of f [] y (k, w, e) = absurd (omega arith)
picked-of f (x ∷ xs) y has = elim (first-or (f x) (filter_map f xs) y has) [
  | inl is ↦ (x, (0, omega arith, refl), is)
  | inr later ↦ (let (z, c, e) = picked-of f xs y later in (z, Contains-append_right (x ∷ []) xs z c, e))
]

behind : {Y : Type 0} (o : Option Y) (ys : List Y) (y : Y) → Contains ys y → Contains (cons_option o ys) y
behind None ys y has = has
behind (Some v) ys y has = Contains-append_right (v ∷ []) ys y has

-- and each is picked
pub picked-there : {X Y : Type 0} (f : X → Option Y) (xs : List X) (x : X) (y : Y) → Contains xs x → f x ≡ Some y
    → Contains (filter_map f xs) y
picked-there f [] x y (k, w, e) is = absurd (omega arith)
picked-there f (z ∷ xs) x y (zero, w, e) is = rw (ap f e ∙ is) (0, omega arith, refl)
picked-there f (z ∷ xs) x y (suc k, w, e) is =
    behind (f z) (filter_map f xs) y (picked-there f xs x y (k, omega arith, e) is)

pairs-more : {Y : Type 0} (S : Y → Y → Type 0) (o : Option Y) (ys : List Y) → ((v : Y) → o ≡ Some v → All (S v) ys)
    → AllPairs S ys → AllPairs S (cons_option o ys)
pairs-more S None ys first rest = rest
pairs-more S (Some v) ys first rest = AllPairs-cons S v ys (first v refl) rest

-- what holds of each two of some holds of each two that are picked
pub picked-pairs : {X Y : Type 0} (R : X → X → Type 0) (S : Y → Y → Type 0) (f : X → Option Y) (xs : List X)
    → ((a b : X) (y z : Y) → R a b → f a ≡ Some y → f b ≡ Some z → S y z) → AllPairs R xs → AllPairs S (filter_map f xs)
picked-pairs R S f [] says all = λ i j d less w. absurd (omega arith)
picked-pairs {X = X} {Y = Y} R S f (x ∷ xs) says all =
    pairs-more S (f x) (filter_map f xs)
    (λ v is k d w.
    let y = get_or (filter_map f xs) k d in
    let (b, (n, u, same), e) = picked-of f xs y (Contains-get_or (filter_map f xs) k d w) in
    let pair : R x (get_or xs n b) = all 0 (suc n) b (omega arith) (omega arith) in
    says x b v y (rw same at pair) is e)
    (picked-pairs R S f xs says (λ i j d less w. all (suc i) (suc j) d (omega arith) (omega arith)))

pub range-rising : (n : ℕ) → AllPairs (λ a b. a < b) (range_with_len 0 n)
range-rising n i j d less w =
    (let long = length-range_with_len 0 n in
    omega (arith, get_or-range_with_len 0 n i d (omega arith), get_or-range_with_len 0 n j d (omega arith)))

pub range-below : (n k : ℕ) → Contains (range_with_len 0 n) k → k < n
range-below n k (i, w, e) =
    (let long = length-range_with_len 0 n in omega (arith, get_or-range_with_len 0 n i k (omega arith), e))

pub range-there : (n k : ℕ) → k < n → Contains (range_with_len 0 n) k
range-there n k w = (
  k,
  (let long = length-range_with_len 0 n in omega arith),
  (let at = get_or-range_with_len 0 n k k w in omega arith),
)

-- each number is that of a named type
pub numbers-within : (n : ℕ) (numbers : List ℕ) → IsPermutation (range_with_len 0 n) numbers → (i d : ℕ)
    → i < length numbers → get_or numbers i d < n
numbers-within n numbers permuted i d w =
    range-below n (get_or numbers i d)
    (Contains-permutation numbers (range_with_len 0 n) (get_or numbers i d)
    (IsPermutation-sym (range_with_len 0 n) numbers permuted) (Contains-get_or numbers i d w))

-- numbers sorted by level
pub numbers-by-level : (level : ℕ → ℕ) (n : ℕ) (numbers : List ℕ) → IsNonDecreasingBy level numbers
    → IsStableByKey level nat_cmp (range_with_len 0 n) numbers
    → AllPairs (λ j k. StandsBefore level j k) numbers
numbers-by-level level n numbers rises stable =
    by-level level (range_with_len 0 n) numbers (range-rising n) rises stable

-- named types in rising offset, by their numbers that are sorted by level
pub numbers-ranked : (levels named numbers : List ℕ) → AllPairs (λ a b. a < b) named
    → IsPermutation (range_with_len 0 (length named)) numbers
    → AllPairs (λ j k. StandsBefore (level_of levels named) j k) numbers
    → AllPairs (λ j k. StandsBefore (λ id. get_or levels id 0) (get_or named j 0) (get_or named k 0)) numbers
numbers-ranked levels named numbers rising all sorted i j d less w =
    let inside = numbers-within (length named) numbers all j d w in
    let first = same (get_or numbers i d) (numbers-within (length named) numbers all i d (omega arith)) in
    let second = same (get_or numbers j d) inside in
    elim (sorted i j d less w) [
      | inl below ↦ inl (rw (← first, ← second) below)
      | inr (level_same, before) ↦ inr
          (sym first ∙ level_same ∙ second, rising (get_or numbers i d) (get_or numbers j d) 0 before inside)
    ]
  where
    same : (k : ℕ) → k < length named → level_of levels named k ≡ get_or levels (get_or named k 0) 0
    same k w =
        ap (λ (o : Option ℕ). option_map_or (λ (id : ℕ). get_or levels id 0) o 0) (slice_get-get_or named k 0 w)

-- Spans: which agree, and which is the one that has an address.
use Rattle.std.proofs.Common.{◌≡◌, ℕ, zero, suc, ◌+◌, ◌-◌, ◌<◌, ◌≤◌, List, length, get_or}
use Rattle.std.proofs.Common.{refl, sym, subst, ap, ◌∙◌, arith, inl, inr, ◌⊎◌, Bool, true, false, ltb, leb, eqb, ◌&&◌}
use Rattle.std.specs.Prelude.{All, AllPairs, IsPermutation, swap, Option, Some, None, IfNone, IfSome, is_some, not}
use Rattle.std.specs.List.{AllAdjacentBelow}
use Rattle.std.specs.List.Sorted.{IsPartitionPoint, IsPartitionedBy}
use Rattle.std.proofs.lemmas.Bool.{cases_lt, cases_order, cases_eq, and_from, and_parts, or_cases, or_left, or_right}
use Rattle.std.specs.Ordering.{MatchOrdering, is_lt, nat_cmp, ordering_then}
use Rattle.std.specs.declared.cmp.Ordering.{Ordering}
use Rattle.std.specs.declared.cmp.Ordering.TheVariants.{Less, Equal, Greater}
use Rattle.std.proofs.lemmas.Cmp.{ranked}
use Rattle.std.proofs.lemmas.Bool.{true≢false, not-true, not-false, both_ways, eq-eqb, eqb-true, le-leb, leb-true}
use Rattle.std.proofs.lemmas.Bool.{lt-ltb, ltb-true}
use Rattle.std.proofs.lemmas.List.{get_or_default}
use Rattle.std.proofs.lemmas.List.Edits.{Swapped, length-swap, swapped_from_swap}
use Rattle.std.proofs.lemmas.List.Sorted.{IsPermutation-keeps, IsPermutation-sym}
use Rattle.dw_ranges.specs.Spans.{Agree, AreBefore, AreOrdered, IsBefore, IsFirstMeeting, IsOf, IsSpan, IsUpTo}
use Rattle.dw_ranges.specs.Spans.{starts_up_to}
use Rattle.dw_ranges.specs.declared.spans.Span.{Span}

-- ---- two and three spans

abbrev Apart : Span → Span → Type 0
Apart s t = (s.high ≤ t.low) ⊎ ((s.group ≡ 0) × (s.low ≡ t.low) × (s.high ≡ t.high) × (s.function ≤ t.function))

apart_trans : (s t u : Span) → t.low < t.high → s.group ≡ t.group → Apart s t → Apart t u → Apart s u
apart_trans s t u some group (inl p) (inl q) = inl (omega arith)
apart_trans s t u some group (inl p) (inr q) = inl (omega (arith, q.1))
apart_trans s t u some group (inr p) (inl q) = inl (omega (arith, p.2))
apart_trans s t u some group (inr p) (inr q) =
    inr (p.0, p.1 ∙ q.1, p.2 ∙ q.2, omega (arith, p.3, q.3))

-- what is before what is before a third is before that
before_trans : (s t u : Span) → t.low < t.high → IsBefore s t → IsBefore t u → IsBefore s u
before_trans s t u some (inl a) (inl b) = inl (omega arith)
before_trans s t u some (inl a) (inr b) = inl (omega (arith, b.0))
before_trans s t u some (inr a) (inl b) = inl (omega (arith, a.0))
before_trans s t u some (inr a) (inr b) = inr (a.0 ∙ b.0, apart_trans s t u some a.0 a.1 b.1)

-- what is before a span agrees with it
pub before_agrees : (s t : Span) → IsBefore s t → Agree s t
before_agrees s t (inl a) same x p q = absurd (omega (arith, same, a))
before_agrees s t (inr a) same x p q = elim a.1 [
  | inl apart ↦ absurd (omega (arith, apart, p.1, q.0))
  | inr equal ↦ (equal.0, equal.1, equal.2)
]

agree_sym : (s t : Span) → Agree s t → Agree t s
agree_sym s t agree same x p q =
    let e = agree (sym same) x q p in (same ∙ e.0, sym e.1, sym e.2)

-- the order of keys
pub up_to : (a b c d : Ordering) (s t : Span)
    → MatchOrdering a (t.group < s.group) (t.group ≡ s.group) (s.group < t.group)
    → MatchOrdering b (t.low < s.low) (t.low ≡ s.low) (s.low < t.low)
    → MatchOrdering c (t.function < s.function) (t.function ≡ s.function) (s.function < t.function)
    → MatchOrdering d (t.high < s.high) (t.high ≡ s.high) (s.high < t.high)
    → is_lt (ordering_then (ordering_then (ordering_then a b) c) d) ≡ false → IsUpTo s t
up_to Less b c d s t p q r h e = absurd (true≢false e)
up_to Greater b c d s t p q r h e = inl p
up_to Equal Less c d s t p q r h e = absurd (true≢false e)
up_to Equal Greater c d s t p q r h e = inr (sym p, inl q)
up_to Equal Equal Less d s t p q r h e = absurd (true≢false e)
up_to Equal Equal Greater d s t p q r h e = inr (sym p, inr (sym q, inl r))
up_to Equal Equal Equal Less s t p q r h e = absurd (true≢false e)
up_to Equal Equal Equal Equal s t p q r h e = inr (sym p, inr (sym q, inr (sym r, omega (arith, h))))
up_to Equal Equal Equal Greater s t p q r h e = inr (sym p, inr (sym q, inr (sym r, omega (arith, h))))

pub key_up_to : (s t : Span)
    → is_lt (ordering_then (ordering_then (ordering_then (nat_cmp t.group s.group) (nat_cmp t.low s.low))
    (nat_cmp t.function s.function)) (nat_cmp t.high s.high))
    ≡ false → IsUpTo s t
key_up_to s t e =
    up_to (nat_cmp t.group s.group) (nat_cmp t.low s.low) (nat_cmp t.function s.function) (nat_cmp t.high s.high) s t
    (ranked t.group s.group (nat_cmp t.group s.group) refl) (ranked t.low s.low (nat_cmp t.low s.low) refl)
    (ranked t.function s.function (nat_cmp t.function s.function) refl)
    (ranked t.high s.high (nat_cmp t.high s.high) refl) e

-- the order goes on from one to the next
abbrev IsLast : Span → Span → Type 0
IsLast s t = (s.function < t.function) ⊎ ((s.function ≡ t.function) × (s.high ≤ t.high))

last_trans : (s t u : Span) → IsLast s t → IsLast t u → IsLast s u
last_trans s t u (inl p) (inl q) = inl (omega arith)
last_trans s t u (inl p) (inr q) = inl (omega (arith, q.0))
last_trans s t u (inr p) (inl q) = inl (omega (arith, p.0))
last_trans s t u (inr p) (inr q) = inr (p.0 ∙ q.0, omega (arith, p.1, q.1))

abbrev IsLow : Span → Span → Type 0
IsLow s t = (s.low < t.low) ⊎ ((s.low ≡ t.low) × IsLast s t)

low_trans : (s t u : Span) → IsLow s t → IsLow t u → IsLow s u
low_trans s t u (inl p) (inl q) = inl (omega arith)
low_trans s t u (inl p) (inr q) = inl (omega (arith, q.0))
low_trans s t u (inr p) (inl q) = inl (omega (arith, p.0))
low_trans s t u (inr p) (inr q) = inr (p.0 ∙ q.0, last_trans s t u p.1 q.1)

up_to_trans : (s t u : Span) → IsUpTo s t → IsUpTo t u → IsUpTo s u
up_to_trans s t u (inl p) (inl q) = inl (omega arith)
up_to_trans s t u (inl p) (inr q) = inl (omega (arith, q.0))
up_to_trans s t u (inr p) (inl q) = inl (omega (arith, p.0))
up_to_trans s t u (inr p) (inr q) = inr (p.0 ∙ q.0, low_trans s t u p.1 q.1)

pub pairs_up_to : (xs : List Span) → AllAdjacentBelow IsUpTo xs (length xs) → AllPairs IsUpTo xs
pairs_up_to xs next i zero d lt in' = absurd (omega (arith, lt))
pairs_up_to xs next i (suc j) d lt in' = elim (cases_lt i j) [
  | inl less ↦
      up_to_trans (get_or xs i d) (get_or xs j d) (get_or xs (suc j) d)
      (pairs_up_to xs next i j d less (omega arith)) here
  | inr more ↦
      let same : j ≡ i = omega arith in
      subst (λ (n : ℕ). IsUpTo (get_or xs n d) (get_or xs (suc j) d)) same here
]
  where
    here : IsUpTo (get_or xs j d) (get_or xs (suc j) d)
    here =
        let e : j + 1 ≡ suc j = omega arith in
        subst (λ (n : ℕ). IsUpTo (get_or xs j d) (get_or xs n d)) e (next j d (omega arith))

-- ---- spans in order

-- one more span, after one that is before it
pub before_more : (xs : List Span) (k : ℕ) → All IsSpan xs → 1 ≤ k → k < length xs → AreBefore xs k
    → ((d : Span) → IsBefore (get_or xs (k - 1) d) (get_or xs k d)) → AreBefore xs (k + 1)
before_more xs k each pos in' below before i j d lt up = elim (cases_lt j k) [
  | inl less ↦ below i j d lt less
  | inr ge ↦
      let at_k : k ≡ j = omega arith in
      subst (λ n. IsBefore (get_or xs i d) (get_or xs n d)) at_k
      (elim (cases_lt i (k - 1)) [
        | inl far ↦ before_trans (get_or xs i d) (get_or xs (k - 1) d) (get_or xs k d)
            (each (k - 1) d (omega arith)).some
            (below i (k - 1) d far (omega arith)) (before d)
        | inr near ↦
            let same : k - 1 ≡ i = omega arith in
            subst (λ n. IsBefore (get_or xs n d) (get_or xs k d)) same (before d)
      ])
]

-- what a look-up found or did not
pub none_then : {A : Type 0} (r : Option A) {P Q : Type 0} → IfNone r P → (P → Q) → IfNone r Q
none_then None p then = then p
none_then (Some x) p then = tt

-- a test for nothing found decides what holds then
pub none_decides : (r : Option ℕ) (b : Bool) {P Q : Type 0} → is_some r ≡ not b → IfNone r P → IfSome r (λ _. ¬ P)
    → (P → Q) → (Q → P) → (b ≡ true → Q) × (Q → b ≡ true)
none_decides None b is p none to from = (λ e. to p, λ q. not-false b (sym is))
none_decides (Some x) b is p none to from =
    (λ e. absurd (both_ways b (not-true b (sym is)) e), λ q. absurd (none (from q)))

-- ---- spans in another order

abbrev AllAgree : List Span → Type 0
AllAgree xs = (i j : ℕ) (d : Span) → i < length xs → j < length xs → (i ≡ j → ⊥) → Agree (get_or xs i d) (get_or xs j d)

all_agree : (xs : List Span) → ((i j : ℕ) (d : Span) → i < j → j < length xs → Agree (get_or xs i d) (get_or xs j d))
    → AllAgree xs
all_agree xs pairs i j d in_i in_j differ = elim (cases_order i j) [
  | inl same ↦ absurd (differ same)
  | inr other ↦ elim other [
    | inl lt ↦ pairs i j d lt in_j
    | inr gt ↦ agree_sym (get_or xs j d) (get_or xs i d) (pairs j i d gt in_i)
  ]
]

-- where an element was before two places were exchanged
abbrev Came : ℕ → ℕ → ℕ → ℕ → Type 0
Came a b i s = ((i ≡ a) × (s ≡ b)) ⊎ (((i ≡ b) × (s ≡ a)) ⊎ ((i ≡ a → ⊥) × (i ≡ b → ⊥) × (s ≡ i)))

came : (f g : ℕ → Span) (a b n i : ℕ) → Swapped f g a b → a < n → b < n → i < n
    → (s : ℕ) × (s < n) × (f s ≡ g i) × Came a b i s
came f g a b n i swapped in_a in_b in_i = elim (cases_eq i a) [
  | inl e ↦ (b, in_b, sym (ap g e ∙ swapped.0), inl (e, refl))
  | inr no_a ↦ elim (cases_eq i b) [
    | inl e ↦ (a, in_a, sym (ap g e ∙ swapped.1), inr (inl (e, refl)))
    | inr no_b ↦ (i, in_i, sym (swapped.2 i no_a no_b), inr (inr (no_a, no_b, refl)))
  ]
]

came_apart : (a b i j s t : ℕ) → Came a b i s → Came a b j t → (i ≡ j → ⊥) → s ≡ t → ⊥
came_apart a b i j s t p q differ same = grind arith

agree_swapped : (xs : List Span) (a b : ℕ) → a < length xs → b < length xs → AllAgree xs → AllAgree (swap xs a b)
agree_swapped xs a b in_a in_b all i j d in_i in_j differ =
    let long = length-swap xs a b in
    let swapped = swapped_from_swap xs (swap xs a b) a b d in_a in_b refl in
    let f : ℕ → Span = λ k. get_or xs k d in
    let g : ℕ → Span = λ k. get_or (swap xs a b) k d in
    let (s, in_s, is_s, came_s) = came f g a b (length xs) i swapped in_a in_b (omega arith) in
    let (t, in_t, is_t, came_t) = came f g a b (length xs) j swapped in_a in_b (omega arith) in
    subst (λ x. Agree x (get_or (swap xs a b) j d)) is_s
    (subst (Agree (get_or xs s d)) is_t (all s t d in_s in_t (came_apart a b i j s t came_s came_t differ)))

agree_permuted : (xs ys : List Span) → IsPermutation xs ys → AllPairs Agree xs → AllPairs Agree ys
agree_permuted xs ys moved pairs i j d lt in' =
    IsPermutation-keeps xs AllAgree (all_agree xs pairs) agree_swapped ys moved i j d (omega arith) in'
    (λ same. omega arith)

-- spans that are in order after a sort agreed before it
pub ordered_agree : (xs ys : List Span) → IsPermutation xs ys → AreOrdered ys → AllPairs Agree xs
ordered_agree xs ys moved ordered =
    agree_permuted ys xs (IsPermutation-sym xs ys moved)
    (λ i j d lt in'. before_agrees (get_or ys i d) (get_or ys j d) (ordered.before i j d lt in'))

abbrev pub no_span : Span
no_span = record { group = 0; low = 0; high = 0; function = 0 }

-- if two next to each other do not agree after a sort, some did not before it
pub meeting_disagrees : (xs ys : List Span) (k : ℕ) → IsPermutation xs ys → IsFirstMeeting ys k → AllPairs Agree xs → ⊥
meeting_disagrees xs ys k moved first pairs =
    let after = first.after in
    first.meets no_span (agree_permuted xs ys moved pairs (k - 1) k no_span (omega arith) first.within)

-- ---- the span that has an address

module _ (xs : List Span) (ordered : AreOrdered xs) (group a : ℕ) where
  up_from : (s : Span) → IsOf group a s → starts_up_to group a s ≡ true
  up_from s of =
      or_right (ltb s.group group) (eqb s.group group && leb s.low a)
      (and_from (eqb s.group group) (leb s.low a) (eq-eqb s.group group of.0) (le-leb s.low a of.1.0))

  up_says : (s : Span) → starts_up_to group a s ≡ true → (s.group < group) ⊎ ((s.group ≡ group) × (s.low ≤ a))
  up_says s up = elim (or_cases (ltb s.group group) (eqb s.group group && leb s.low a) up) [
    | inl lt ↦ inl (ltb-true s.group group lt)
    | inr both ↦
        let (same, le) = and_parts (eqb s.group group) (leb s.low a) both in
        inr (eqb-true s.group group same, leb-true s.low a le)
  ]

  up_back : (s : Span) → (s.group < group) ⊎ ((s.group ≡ group) × (s.low ≤ a)) → starts_up_to group a s ≡ true
  up_back s (inl lt) = or_left (ltb s.group group) (eqb s.group group && leb s.low a) (lt-ltb s.group group lt)
  up_back s (inr both) =
      or_right (ltb s.group group) (eqb s.group group && leb s.low a)
      (and_from (eqb s.group group) (leb s.low a) (eq-eqb s.group group both.0) (le-leb s.low a both.1))

  up_stays : (s t : Span) → s.low < s.high → IsBefore s t → (t.group < group) ⊎ ((t.group ≡ group) × (t.low ≤ a))
      → (s.group < group) ⊎ ((s.group ≡ group) × (s.low ≤ a))
  up_stays s t some (inl less) (inl up) = inl (omega arith)
  up_stays s t some (inl less) (inr up) = inl (omega (arith, up.0))
  up_stays s t some (inr same) (inl up) = inl (omega (arith, same.0))
  up_stays s t some (inr same) (inr up) = inr (
    same.0 ∙ up.0,
    elim same.1 [
      | inl apart ↦ omega (arith, up.1)
      | inr equal ↦ omega (arith, up.1, equal.1)
    ],
  )

  -- those that start up to an address come first
  pub up_parted : IsPartitionedBy (starts_up_to group a) xs
  up_parted i j d le in' up = elim (cases_order i j) [
    | inl same ↦ subst (λ k. starts_up_to group a (get_or xs k d) ≡ true) (sym same) up
    | inr other ↦ elim other [
      | inl lt ↦
          up_back (get_or xs i d) (up_stays (get_or xs i d) (get_or xs j d) (ordered.each i d (omega arith)).some
          (ordered.before i j d lt in') (up_says (get_or xs j d) up))
      | inr gt ↦ absurd (omega arith)
    ]
  ]

  abbrev IsPoint : ℕ → Type 0
  IsPoint n =
      IsPartitionPoint (λ s. starts_up_to group a s ≡ true) (λ s. starts_up_to group a s ≡ false) xs n

  -- the last span that starts up to the address
  module _ (m : ℕ) (d : Span) (in' : m < length xs) (point : IsPoint (m + 1)) where
    -- a span of the group that has the address is not after it
    not_after : (k : ℕ) → k < length xs → IsOf group a (get_or xs k d) → k ≤ m
    not_after k in_k of = elim (cases_lt m k) [
      | inl far ↦ absurd (both_ways (starts_up_to group a (get_or xs k d)) (point.1 k d (omega arith) in_k)
          (up_from (get_or xs k d) of))
      | inr near ↦ near
    ]

    last_says : ((get_or xs m d).group < group) ⊎ (((get_or xs m d).group ≡ group) × ((get_or xs m d).low ≤ a))
    last_says = up_says (get_or xs m d) (point.0 m d (omega arith) (omega arith))

    -- one of the group that has the address has the range of the last one, and its function is no later
    same_last : (s t : Span) → IsBefore s t → IsOf group a s → (t.group < group) ⊎ ((t.group ≡ group) × (t.low ≤ a))
        → (s.group ≡ t.group) × (s.high ≡ t.high) × (s.function ≤ t.function)
    same_last s t (inl less) of (inl up) = absurd (omega (arith, of.0))
    same_last s t (inl less) of (inr up) = absurd (omega (arith, of.0, up.0))
    same_last s t (inr same) of (inl up) = absurd (omega (arith, of.0, same.0))
    same_last s t (inr same) of (inr up) = elim same.1 [
      | inl apart ↦ absurd (omega (arith, apart, of.1.1, up.1))
      | inr equal ↦ (same.0, equal.2, equal.3)
    ]

    last_alike : (k : ℕ) → k < length xs → IsOf group a (get_or xs k d)
        → ((get_or xs m d).group ≡ group) × (a < (get_or xs m d).high)
        × ((get_or xs k d).function ≤ (get_or xs m d).function)
    last_alike k in_k of = elim (cases_order k m) [
      | inl same ↦
          let P : ℕ → Type 0 = λ n. (IsOf group a (get_or xs n d))
          × ((get_or xs k d).function ≤ (get_or xs n d).function) in
          let here = subst P same (of, omega arith) in (here.0.0, here.0.1.1, here.1)
      | inr other ↦ elim other [
        | inl lt ↦
            let alike = same_last (get_or xs k d) (get_or xs m d) (ordered.before k m d lt in') of last_says in
            (sym alike.0 ∙ of.0, omega (arith, alike.1, of.1.1), alike.2)
        | inr gt ↦ absurd (omega (arith, not_after k in_k of))
      ]
    ]

    -- if the last one has it, it is the last function that does
    pub is_last : All (λ s. IsOf group a s → s.function ≤ (get_or xs m d).function) xs
    is_last k e in_k of =
        let same = get_or_default xs k e d in_k in
        subst (λ (s : Span). s.function ≤ (get_or xs m d).function) (sym same)
        (last_alike k in_k (subst (IsOf group a) same of)).2

    -- if the last one does not have it, none of the group does
    pub none_has : ((get_or xs m d).group ≡ group → ⊥) ⊎ ((get_or xs m d).high ≤ a) → All (λ s. ¬ (IsOf group a s)) xs
    none_has misses k e in_k of =
        let alike = last_alike k in_k (subst (IsOf group a) (get_or_default xs k e d in_k) of) in
        elim misses [ inl other ↦ other alike.0 | inr ends ↦ omega (arith, alike.1) ]

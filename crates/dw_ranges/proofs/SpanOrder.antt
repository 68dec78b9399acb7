-- Spans have one order.
use Rattle.std.proofs.Common.{◌≡◌, ℕ, zero, suc, ◌-◌, ◌<◌, ◌≤◌, List, [], ◌∷◌, length, get_or, Bool, true, false, cond}
use Rattle.std.proofs.Common.{refl, sym, ap, ◌∙◌, subst, arith, inl, inr, ◌⊎◌, eqb, ◌&&◌, eq-eqb, eqb-true}
use Rattle.std.specs.Prelude.{AllPairs, Any, Contains, IsPermutation}
use Rattle.std.specs.List.{sum_by}
use Rattle.std.proofs.lemmas.Bool.{and_from, and_parts, cases_lt, cases_order}
use Rattle.std.proofs.lemmas.List.Sorted.{sum_by-IsPermutation}
use Rattle.std.proofs.lemmas.List.Sums.{sum_by-cons}
use Rattle.dw_ranges.specs.Spans.{AreOrdered, IsBefore, IsFirstMeeting, IsUpTo}
use Rattle.dw_ranges.specs.declared.spans.Span.{Span}
use Rattle.dw_ranges.proofs.SpanLemmas.{before_agrees, no_span}

-- whether two spans are the same, as a number
is_one : Bool → ℕ
is_one b = cond b 1 0

same_test : Span → Span → Bool
same_test s t = eqb s.group t.group && (eqb s.low t.low && (eqb s.high t.high && eqb s.function t.function))

same_parts : (s t : Span) → same_test s t ≡ true → s ≡ t
unfolding same_test
same_parts s t e =
    let p = and_parts (eqb s.group t.group) (eqb s.low t.low && (eqb s.high t.high && eqb s.function t.function)) e in
    let q = and_parts (eqb s.low t.low) (eqb s.high t.high && eqb s.function t.function) p.1 in
    let r = and_parts (eqb s.high t.high) (eqb s.function t.function) q.1 in
    let group = eqb-true s.group t.group p.0 in
    let low = eqb-true s.low t.low q.0 in
    let high = eqb-true s.high t.high r.0 in
    let function = eqb-true s.function t.function r.1 in
    λ i. record { group = group i; low = low i; high = high i; function = function i }

same_self : (s : Span) → same_test s s ≡ true
unfolding same_test
same_self s =
    and_from (eqb s.group s.group) _ (eq-eqb s.group s.group refl)
    (and_from (eqb s.low s.low) _ (eq-eqb s.low s.low refl)
    (and_from (eqb s.high s.high) _ (eq-eqb s.high s.high refl) (eq-eqb s.function s.function refl)))

one_true : (b : Bool) → 1 ≤ is_one b → b ≡ true
unfolding is_one
one_true true le = refl
one_true false le = absurd (omega (arith, le))

one_of_true : (b : Bool) → b ≡ true → is_one b ≡ 1
unfolding is_one
one_of_true true e = refl
one_of_true false e = absurd cc

-- the same sums, as lists have that are permutations of one another
abbrev HaveSums : List Span → List Span → Type 0
HaveSums xs ys = (f : Span → ℕ) → sum_by f xs ≡ sum_by f ys

sum_some : (f : Span → ℕ) (ys : List Span) → 1 ≤ sum_by f ys → Any (λ y. 1 ≤ f y) ys
sum_some f [] le = absurd (omega (arith, le))
sum_some f (y ∷ ys) le = elim (cases_lt 0 (f y)) [
  | inl some ↦ (0, y, omega arith, refl, omega (arith, some))
  | inr none ↦
      let h = sum_some f ys (omega (arith, le, none, sum_by-cons f y ys)) in
      (suc h.0, h.1, omega (arith, h.2), h.3, h.4)
]

head_there : (x : Span) (xs ys : List Span) → HaveSums (x ∷ xs) ys → Contains ys x
head_there x xs ys sums =
    let f : Span → ℕ = λ y. is_one (same_test x y) in
    let one : f x ≡ 1 = one_of_true (same_test x x) (same_self x) in
    let h = sum_some f ys (omega (arith, sums f, one, sum_by-cons f x xs)) in
    (h.0, h.2, subst (λ (y : Span). get_or ys h.0 y ≡ y) (sym (same_parts x h.1 (one_true (same_test x h.1) h.4))) h.3)

abbrev Pairs : (Span → Span → Type 0) → List Span → Type 0
Pairs R xs = (i j : ℕ) (d : Span) → i < j → j < length xs → R (get_or xs i d) (get_or xs j d)

module _ (R : Span → Span → Type 0) (anti : (s t : Span) → R s t → R t s → s ≡ t) where
  -- the first one is the other first one, or comes after it
  after_head : (y x : Span) (ys : List Span) → Pairs R (y ∷ ys) → Contains (y ∷ ys) x → (y ≡ x) ⊎ R y x
  after_head y x ys pairs (zero, lt, is) = inl is
  after_head y x ys pairs (suc j, lt, is) =
      inr (subst (R y) is (pairs 0 (suc j) x (omega arith) lt))

  heads : (x y : Span) (xs ys : List Span) → Pairs R (x ∷ xs) → Pairs R (y ∷ ys) → HaveSums (x ∷ xs) (y ∷ ys) → x ≡ y
  heads x y xs ys p q sums = elim (after_head y x ys q (head_there x xs (y ∷ ys) sums)) [
    | inl same ↦ sym same
    | inr after ↦ elim (after_head x y xs p (head_there y ys (x ∷ xs) (λ f. sym (sums f)))) [
      | inl same ↦ same
      | inr before ↦ anti x y before after
    ]
  ]

  pub one_order : (xs ys : List Span) → Pairs R xs → Pairs R ys → HaveSums xs ys → xs ≡ ys
  one_order [] [] p q sums = refl
  one_order [] (y ∷ ys) p q sums = absurd (omega (arith, sums (λ s. 1), sum_by-cons (λ (s : Span). 1) y ys))
  one_order (x ∷ xs) [] p q sums = absurd (omega (arith, sums (λ s. 1), sum_by-cons (λ (s : Span). 1) x xs))
  one_order (x ∷ xs) (y ∷ ys) p q sums =
      let same = heads x y xs ys p q sums in
      let rest = one_order xs ys (λ i j d lt in'. p (suc i) (suc j) d (omega arith) (omega arith))
      (λ i j d lt in'. q (suc i) (suc j) d (omega arith) (omega arith))
      (λ f. omega (arith, sums f, ap f same, sum_by-cons f x xs, sum_by-cons f y ys)) in
      λ i. same i ∷ rest i

-- ---- spans in order

abbrev Comes : Span → Span → Type 0
Comes s t = (s.low < s.high) × (t.low < t.high) × IsBefore s t

comes_anti : (s t : Span) → Comes s t → Comes t s → s ≡ t
comes_anti s t (a, b, inl p) (c, d, inl q) = absurd (omega arith)
comes_anti s t (a, b, inl p) (c, d, inr q) = absurd (omega (arith, p, q.0))
comes_anti s t (a, b, inr p) (c, d, inl q) = absurd (omega (arith, q, p.0))
comes_anti s t (a, b, inr (group, inl p)) (c, d, inr (group2, inl q)) = absurd (omega arith)
comes_anti s t (a, b, inr (group, inl p)) (c, d, inr (group2, inr q)) = absurd (omega (arith, p, q.1))
comes_anti s t (a, b, inr (group, inr p)) (c, d, inr (group2, inl q)) = absurd (omega (arith, q, p.1))
comes_anti s t (a, b, inr (group, inr p)) (c, d, inr (group2, inr q)) =
    let function : s.function ≡ t.function = omega (arith, p.3, q.3) in
    λ i. record { group = group i; low = p.1 i; high = p.2 i; function = function i }

comes : (xs : List Span) → AreOrdered xs → Pairs Comes xs
comes xs ordered i j d lt in' =
    ((ordered.each i d (omega arith)).some, (ordered.each j d in').some, ordered.before i j d lt in')

pub ordered_same : (spans xs ys : List Span) → IsPermutation spans xs → IsPermutation spans ys → AreOrdered xs
    → AreOrdered ys → xs ≡ ys
ordered_same spans xs ys to_xs to_ys p q =
    one_order Comes comes_anti xs ys (comes xs p) (comes ys q)
    (λ f. sum_by-IsPermutation f spans xs to_xs ∙ sym (sum_by-IsPermutation f spans ys to_ys))

last_anti : (s t : Span) → (s.function < t.function) ⊎ ((s.function ≡ t.function) × (s.high ≤ t.high))
    → (t.function < s.function) ⊎ ((t.function ≡ s.function) × (t.high ≤ s.high))
    → (s.function ≡ t.function) × (s.high ≡ t.high)
last_anti s t (inl p) (inl q) = absurd (omega arith)
last_anti s t (inl p) (inr q) = absurd (omega (arith, p, q.0))
last_anti s t (inr p) (inl q) = absurd (omega (arith, q, p.0))
last_anti s t (inr p) (inr q) = (p.0, omega (arith, p.1, q.1))

up_to_anti : (s t : Span) → IsUpTo s t → IsUpTo t s → s ≡ t
up_to_anti s t (inl p) (inl q) = absurd (omega arith)
up_to_anti s t (inl p) (inr q) = absurd (omega (arith, p, q.0))
up_to_anti s t (inr p) (inl q) = absurd (omega (arith, q, p.0))
up_to_anti s t (inr (group, inl p)) (inr (group2, inl q)) = absurd (omega arith)
up_to_anti s t (inr (group, inl p)) (inr (group2, inr q)) = absurd (omega (arith, p, q.0))
up_to_anti s t (inr (group, inr p)) (inr (group2, inl q)) = absurd (omega (arith, q, p.0))
up_to_anti s t (inr (group, inr p)) (inr (group2, inr q)) =
    let (function, high) = last_anti s t p.1 q.1 in
    λ i. record { group = group i; low = p.0 i; high = high i; function = function i }

pub sorted_same : (spans xs ys : List Span) → IsPermutation spans xs → IsPermutation spans ys → AllPairs IsUpTo xs
    → AllPairs IsUpTo ys → xs ≡ ys
sorted_same spans xs ys to_xs to_ys p q =
    one_order IsUpTo up_to_anti xs ys p q
    (λ f. sum_by-IsPermutation f spans xs to_xs ∙ sym (sum_by-IsPermutation f spans ys to_ys))

-- there is one first span that does not agree with the one before it
not_later : (xs : List Span) (j k : ℕ) → IsFirstMeeting xs j → IsFirstMeeting xs k → j < k → ⊥
not_later xs j k p q lt =
    let after = p.after in
    p.meets no_span
    (before_agrees (get_or xs (j - 1) no_span) (get_or xs j no_span) (q.before (j - 1) j no_span (omega arith) lt))

pub first_same : (xs : List Span) (j k : ℕ) → IsFirstMeeting xs j → IsFirstMeeting xs k → j ≡ k
first_same xs j k p q = elim (cases_order j k) [
  | inl same ↦ same
  | inr other ↦ elim other [
    | inl lt ↦ absurd (not_later xs j k p q lt)
    | inr gt ↦ absurd (not_later xs k j q p gt)
  ]
]

-- The functions that have an address are one chain.
use Rattle.std.proofs.Common.{◌≡◌, ℕ, zero, suc, ◌+◌, ◌<◌, ◌≤◌, List, [], ◌∷◌, length, get_or}
use Rattle.std.proofs.Common.{refl, sym, ap, ◌∙◌, subst, arith, inl, inr, ◌⊎◌}
use Rattle.std.specs.Prelude.{Any, Contains}
use Rattle.std.proofs.lemmas.Bool.{cases_eq, cases_order}
use Rattle.std.proofs.lemmas.List.{get_or_default}
use Rattle.std.proofs.lemmas.List.Elements.{All-contains}
use Rattle.dw_ranges.specs.Spans.{AreNested, AreOrdered, HasOne, IsBefore, IsChain, IsInSpan, IsOf, IsSpan}
use Rattle.dw_ranges.specs.declared.spans.Span.{Span}
use Rattle.dw_ranges.proofs.SpanLemmas.{before_agrees}

-- a number is in a list
abbrev IsOn : ℕ → List ℕ → Type 0
IsOn f [] = ⊥
IsOn f (x ∷ xs) = (x ≡ f) ⊎ IsOn f xs

on_contains : (fs : List ℕ) (f : ℕ) → IsOn f fs → Contains fs f
on_contains [] f on = absurd on
on_contains (x ∷ xs) f (inl same) = (0, omega arith, same)
on_contains (x ∷ xs) f (inr on) = let there = on_contains xs f on in (suc there.0, omega (arith, there.1), there.2)

contains_on : (fs : List ℕ) (f : ℕ) → Contains fs f → IsOn f fs
contains_on [] f (k, lt, is) = absurd (omega (arith, lt))
contains_on (x ∷ xs) f (zero, lt, is) = inl is
contains_on (x ∷ xs) f (suc k, lt, is) = inr (contains_on xs f (k, omega (arith, lt), is))

-- each function of a chain has the address
has_on : (spans : List Span) (a g : ℕ) (fs : List ℕ) → IsChain spans g a fs → (f : ℕ) → IsOn f fs
    → Any (λ s. (s.function ≡ f) × IsInSpan a s) spans
has_on spans a g [] chain f on = absurd on
has_on spans a g (x ∷ xs) chain f (inl same) =
    let u = chain.0 in (u.0, u.1, u.2, u.3, (u.4.1 ∙ same, u.4.0.1))
has_on spans a g (x ∷ xs) chain f (inr on) = has_on spans a (x + 1) xs chain.1 f on

pub only_these : (spans : List Span) (a : ℕ) (fs : List ℕ) → IsChain spans 0 a fs → (f : ℕ) → Contains fs f
    → Any (λ s. (s.function ≡ f) × IsInSpan a s) spans
only_these spans a fs chain f there = has_on spans a 0 fs chain f (contains_on fs f there)

-- what comes after a function of a chain is the chain of what is inlined in it
after_on : (spans : List Span) (a g : ℕ) (fs : List ℕ) (f : ℕ) → IsChain spans g a fs → IsOn f fs
    → (rest : List ℕ) × IsChain spans (f + 1) a rest × ((h : ℕ) → IsOn h rest → IsOn h fs)
after_on spans a g [] f chain on = absurd on
after_on spans a g (x ∷ xs) f chain (inl same) =
    (xs, subst (λ n. IsChain spans (n + 1) a xs) same chain.1, λ h on. inr on)
after_on spans a g (x ∷ xs) f chain (inr on) =
    let there = after_on spans a (x + 1) xs f chain.1 on in (there.0, there.1, λ h on. inr (there.2 h on))

module _ (spans : List Span) (a : ℕ) (ordered : AreOrdered spans) (one : HasOne spans a) where
  -- of two spans at different places of one group that have the address, none is inlined
  not_inlined : (i j : ℕ) (s t : Span) → i < j → j < length spans → get_or spans i s ≡ s → get_or spans j t ≡ t
      → s.group ≡ t.group → IsInSpan a s → IsInSpan a t → s.group ≡ 0
  not_inlined i j s t lt in_j is_i is_j same in_s in_t =
      let b = ordered.before i j s lt in_j in
      let c = subst (λ x. IsBefore x (get_or spans j s)) is_i b in
      let d = subst (IsBefore s) (get_or_default spans j s t in_j ∙ is_j) c in
      (before_agrees s t d same a in_s in_t).0

  -- one function of a group has the address
  one_of : (g : ℕ) (s t : Span) → Contains spans s → Contains spans t → IsOf g a s → IsOf g a t
      → s.function ≡ t.function
  one_of zero s t s_there t_there of_s of_t = one s t s_there t_there of_s of_t
  one_of (suc g) s t (i, in_i, is_i) (j, in_j, is_j) of_s of_t = elim (cases_order i j) [
    | inl same ↦
        let there : get_or spans i s ≡ get_or spans j t =
        get_or_default spans i s t in_i ∙ ap (λ n. get_or spans n t) same in
        ap (λ (x : Span). x.function) (sym is_i ∙ there ∙ is_j)
    | inr other ↦ elim other [
      | inl lt ↦
          let none = not_inlined i j s t lt in_j is_i is_j (of_s.0 ∙ sym of_t.0) of_s.1 of_t.1 in
          absurd (omega (arith, none, of_s.0))
      | inr gt ↦
          let none = not_inlined j i t s gt in_i is_j is_i (of_t.0 ∙ sym of_s.0) of_t.1 of_s.1 in
          absurd (omega (arith, none, of_t.0))
    ]
  ]

  -- a chain begins with the function of its group that has the address
  first_on : (g : ℕ) (fs : List ℕ) → IsChain spans g a fs → (s : Span) → Contains spans s → IsOf g a s
      → IsOn s.function fs
  first_on g [] chain s there of = absurd (All-contains (λ x. ¬ (IsOf g a x)) spans s chain there of)
  first_on g (f ∷ fs) chain s there of =
      let u = chain.0 in
      inl (sym u.4.1 ∙ one_of g u.1 s (u.0, u.2, u.3) there u.4.0 of)

  -- a group has one chain
  one_chain : (g : ℕ) (fs gs : List ℕ) → IsChain spans g a fs → IsChain spans g a gs → fs ≡ gs
  one_chain g [] [] p q = refl
  one_chain g [] (h ∷ gs) p q =
      let t = q.0 in absurd (All-contains (λ x. ¬ (IsOf g a x)) spans t.1 p (t.0, t.2, t.3) t.4.0)
  one_chain g (f ∷ fs) [] p q =
      let s = p.0 in absurd (All-contains (λ x. ¬ (IsOf g a x)) spans s.1 q (s.0, s.2, s.3) s.4.0)
  one_chain g (f ∷ fs) (h ∷ gs) p q =
      let s = p.0 in
      let t = q.0 in
      let same : f ≡ h =
      sym s.4.1 ∙ one_of g s.1 t.1 (s.0, s.2, s.3) (t.0, t.2, t.3) s.4.0 t.4.0 ∙ t.4.1 in
      let rest = one_chain (h + 1) fs gs (subst (λ n. IsChain spans (n + 1) a fs) same p.1) q.1 in
      λ i. same i ∷ rest i

  pub one_at : (fs gs : List ℕ) → IsChain spans 0 a fs → IsChain spans 0 a gs → fs ≡ gs
  one_at fs gs p q = one_chain 0 fs gs p q

  all_on : AreNested spans → (n : ℕ) (fs : List ℕ) → IsChain spans 0 a fs → (s : Span) → Contains spans s → IsInSpan a s
      → s.group ≤ n → IsOn s.function fs
  all_on nested zero fs chain s there has le = first_on 0 fs chain s there (omega arith, has)
  all_on nested (suc n) fs chain s there has le = elim (cases_eq s.group 0) [
    | inl none ↦ first_on 0 fs chain s there (none, has)
    | inr some ↦
        let t = nested s a there has (omega arith) in
        let t_there : Contains spans t.1 = (t.0, t.2, t.3) in
        let below = (All-contains IsSpan spans t.1 ordered.each t_there).after in
        let on = all_on nested n fs chain t.1 t_there t.4.1 (omega (arith, t.4.0, below)) in
        let (rest, inner, sub) = after_on spans a 0 fs t.1.function chain on in
        sub s.function (first_on (t.1.function + 1) rest inner s there (sym t.4.0, has))
  ]

  pub all_these : AreNested spans → (fs : List ℕ) → IsChain spans 0 a fs → (s : Span) → Contains spans s → IsInSpan a s
      → Contains fs s.function
  all_these nested fs chain s there has =
      on_contains fs s.function (all_on nested s.group fs chain s there has (omega arith))

-- What is found of types, of an entry and of the declared entry, by what is found of those that they lead to.
use Rattle.std.proofs.Common.{◌≡◌, ℕ, false, List, [], ◌∷◌, Some, refl, sym, subst, ◌∙◌, ◌⊎◌, inl, inr, arith, zero, suc, ◌++◌, ◌+◌, ◌≤◌, min, max}
use Rattle.std.proofs.lemmas.Bool.{cases_lt}
use Rattle.std.specs.Prelude.{IsTrue, All, ◌↔◌, Contains}
use Rattle.std.proofs.lemmas.List.Elements.{Contains-append_left, Contains-append_right, Contains-append_cases}
use Rattle.dw_cprint.specs.Shapes.{TypeAt, ShapeOf, SubjectOf}
use Rattle.dw_cprint.specs.Steps.{types_declared, types_reached, entries_among, steps_reached, IsReachedFrom, root, further, HasPathFrom}
use Rattle.dw_cprint.specs.Summaries.{IsSummary, KnowsType, is_own_unspeakable, is_unspeakable, kind_known, Findings, Summary, ReachesOne, IsForeign, AreFindings, AreFindingsOf, IsDepth, IsEither, IsOwn}
use Rattle.dw_cprint.specs.declared.survey.Survey.{Survey}
use Rattle.dw_cprint.specs.Wrong.{has_bad_name, has_own_bad_name, IsUnspeakable, HasBadName, is_foreign, is_own_foreign}
use Rattle.dw_cprint.specs.Refusals.{own_name, name_reached, own_child, foreign_reached, own_shape, shape_reached, deep}
use Rattle.dw_cprint.proofs.ReachLemmas.{entries-append}
use Rattle.dw_cprint.proofs.FaultLemmas.{either, test-itself, test-same, names-known, own-names-known, unspeakable-known, own-unspeakable-known}

-- ---- what is wrong with an entry that is reached: with itself, or with those that it leads to

reached-cases : {shapes : ℕ → ShapeOf} (us bs : List ℕ) {entry : ℕ} → IsReachedFrom shapes (us ++ bs) entry
    → IsReachedFrom shapes us entry ⊎ IsReachedFrom shapes bs entry
reached-cases us bs (root {to} c) =
    elim (Contains-append_cases us bs to c) [ inl x ↦ inl (root x) | inr y ↦ inr (root y) ]
reached-cases us bs (further r c) =
    elim (reached-cases us bs r) [ inl x ↦ inl (further x c) | inr y ↦ inr (further y c) ]

pub reached-wider : {shapes : ℕ → ShapeOf} {us bs : List ℕ} {entry : ℕ} → ((x : ℕ) → Contains us x → Contains bs x)
    → IsReachedFrom shapes us entry → IsReachedFrom shapes bs entry
reached-wider among (root {to} c) = root (among to c)
reached-wider among (further r c) = further (reached-wider among r) c

reached-none : {shapes : ℕ → ShapeOf} {entry : ℕ} → IsReachedFrom shapes [] entry → ⊥
reached-none (root c) = omega (arith, c.1)
reached-none (further r c) = reached-none r

-- one step on
reached-later : {shapes : ℕ → ShapeOf} (first : ℕ) {entry : ℕ} → IsReachedFrom shapes (steps_reached shapes first) entry
    → IsReachedFrom shapes (first ∷ []) entry
reached-later first (root c) = further (root (0, omega arith, refl)) c
reached-later first (further r c) = further (reached-later first r) c

reached-first : {shapes : ℕ → ShapeOf} (first : ℕ) {entry : ℕ} → IsReachedFrom shapes (first ∷ []) entry
    → (first ≡ entry) ⊎ IsReachedFrom shapes (steps_reached shapes first) entry
reached-first first (root (zero, w, is)) = inl is
reached-first first (root (suc k, w, is)) = absurd (omega arith)
reached-first {shapes = shapes} first (further {from} {to} r c) = go (reached-first first r)
  where
    go : (first ≡ from) ⊎ IsReachedFrom shapes (steps_reached shapes first) from
        → (first ≡ to) ⊎ IsReachedFrom shapes (steps_reached shapes first) to
    go (inl same) = let P : ℕ → Type 0 = λ x. Contains (steps_reached shapes x) to in inr (root (subst P (sym same) c))
    go (inr later) = inr (further later c)

module _ (P : ShapeOf → Type 0) (shapes : ℕ → ShapeOf) where
  pub one-none : IsTrue false ↔ ReachesOne P shapes []
  one-none = (λ h. absurd (cc), λ (entry, r, p). absurd (reached-none r))

  pub one-join : (us bs : List TypeAt)
      → (ReachesOne P shapes us ⊎ ReachesOne P shapes bs) ↔ ReachesOne P shapes (us ++ bs)
  one-join us bs = (forth, back)
    where
      R : ℕ → List ℕ → Type 0
      R entry es = IsReachedFrom shapes es entry

      forth : ReachesOne P shapes us ⊎ ReachesOne P shapes bs → ReachesOne P shapes (us ++ bs)
      forth (inl (entry, r, p)) = (
        entry,
        subst (R entry) (sym (entries-append us bs))
            (reached-wider (Contains-append_left (entries_among us) (entries_among bs)) r),
        p,
      )
      forth (inr (entry, r, p)) = (
        entry,
        subst (R entry) (sym (entries-append us bs))
            (reached-wider (Contains-append_right (entries_among us) (entries_among bs)) r),
        p,
      )

      back : ReachesOne P shapes (us ++ bs) → ReachesOne P shapes us ⊎ ReachesOne P shapes bs
      back (entry, r, p) =
          elim (reached-cases (entries_among us) (entries_among bs) (subst (R entry) (entries-append us bs) r))
          [ inl x ↦ inl (entry, x, p) | inr y ↦ inr (entry, y, p) ]

  pub one-entry : (first : ℕ)
      → (P (shapes first) ⊎ ReachesOne P shapes (types_reached (shapes first))) ↔ ReachesOne P shapes (Some first ∷ [])
  one-entry first = (forth, back)
    where
      forth : P (shapes first) ⊎ ReachesOne P shapes (types_reached (shapes first))
          → ReachesOne P shapes (Some first ∷ [])
      forth (inl p) = (first, root (0, omega arith, refl), p)
      forth (inr (entry, r, p)) = (entry, reached-later first r, p)

      back : ReachesOne P shapes (Some first ∷ [])
          → P (shapes first) ⊎ ReachesOne P shapes (types_reached (shapes first))
      back (entry, r, p) = elim (reached-first first r) [
        | inl same ↦ (let Q : ℕ → Type 0 = λ x. P (shapes x) in inl (subst Q (sym same) p))
        | inr later ↦ inr (entry, later, p)
      ]

-- ---- how long the longest path is

module _ (shapes : ℕ → ShapeOf) where
  depth-none : IsDepth shapes [] 0
  depth-none zero few = (λ _. omega arith, λ _. tt)
  depth-none (suc k) few = (λ path. absurd (let c = path.2 in omega (arith, c.1)), λ more. absurd (omega arith))

  depth-join : (us bs : List ℕ) (m n : ℕ) → IsDepth shapes us m → IsDepth shapes bs n
      → IsDepth shapes (us ++ bs) (max m n)
  depth-join us bs m n one two zero few = (λ _. omega arith, λ _. tt)
  depth-join us bs m n one two (suc k) few = (forth, back)
    where
      forth : HasPathFrom shapes (us ++ bs) (suc k) → suc k ≤ max m n
      forth (next, to, c, led) = elim (Contains-append_cases us bs next c) [
        | inl here ↦ (let fits = (one (suc k) few).0 (next, to, here, led) in omega arith)
        | inr here ↦ (let fits = (two (suc k) few).0 (next, to, here, led) in omega arith)
      ]

      back : suc k ≤ max m n → HasPathFrom shapes (us ++ bs) (suc k)
      back most = elim (cases_lt k m) [
        | inl fits ↦ (let (next, to, c, led) = (one (suc k) few).1 (omega arith) in
            (next, to, Contains-append_left us bs next c, led))
        | inr over ↦ (let (next, to, c, led) = (two (suc k) few).1 (omega arith) in
            (next, to, Contains-append_right us bs next c, led))
      ]

  -- a path to an entry goes on to those that it leads to
  depth-entry : (first m n : ℕ) → n ≡ min (m + 1) 255 → IsDepth shapes (steps_reached shapes first) m
      → IsDepth shapes (first ∷ []) n
  depth-entry first m n is under zero few = (λ _. omega arith, λ _. tt)
  depth-entry first m n is under (suc k) few =
      let there = under k (omega arith) in (
        λ path. (let fits = there.0 (forth k path) in omega arith),
        λ most. back k (there.1 (omega arith)),
      )
    where
      forth : (k : ℕ) → HasPathFrom shapes (first ∷ []) (suc k) → HasPathFrom shapes (steps_reached shapes first) k
      forth zero path = tt
      forth (suc k) (next, to, (zero, w, is), (second, step, led)) =
          let P : ℕ → Type 0 = λ x. Contains (steps_reached shapes x) second in
          (second, to, subst P (sym is) step, led)
      forth (suc k) (next, to, (suc j, w, is), led) = absurd (omega arith)

      back : (k : ℕ) → HasPathFrom shapes (steps_reached shapes first) k → HasPathFrom shapes (first ∷ []) (suc k)
      back zero path = (first, first, (0, omega arith, refl), refl)
      back (suc k) (next, to, step, led) = (first, to, (0, omega arith, refl), (next, step, led))

-- ---- what is found of types, of an entry, and of the declared entry

module _ (shapes : ℕ → ShapeOf) where
  pub found-none : (f : Findings) → f.bad_name ≡ false → f.foreign ≡ false → f.unspeakable ≡ false → f.depth ≡ 0
      → AreFindings shapes [] f
  found-none f a b c d = record {
    bad_name = test-same a (one-none (HasBadName shapes) shapes);
    foreign_type = test-same b (one-none IsForeign shapes);
    unspeakable = test-same c (one-none (IsUnspeakable shapes) shapes);
    deep = subst (IsDepth shapes []) (sym d) (depth-none shapes);
  }

  pub found-join : (us bs : List TypeAt) (f g all : Findings) → AreFindings shapes us f → AreFindings shapes bs g
      → IsEither f g all → all.depth ≡ max f.depth g.depth → AreFindings shapes (us ++ bs) all
  found-join us bs f g all one two is depth = record {
    bad_name = either one.bad_name two.bad_name is.bad_name (one-join (HasBadName shapes) shapes us bs);
    foreign_type = either one.foreign_type two.foreign_type is.foreign_type (one-join IsForeign shapes us bs);
    unspeakable = either one.unspeakable two.unspeakable is.unspeakable (one-join (IsUnspeakable shapes) shapes us bs);
    deep =
        let joined = depth-join shapes (entries_among us) (entries_among bs) f.depth g.depth one.deep two.deep in
        rw (depth, entries-append us bs) joined;
  }

  -- of an entry, by its own shape and by what is known of the types that it names
  pub found-shape : (known : Survey) (first : ℕ) (own under all : Findings)
      → All (KnowsType shapes known) (types_reached (shapes first))
      → IsOwn (has_bad_name (kind_known known) (shapes first)) (is_foreign (shapes first))
      (is_unspeakable known (shapes first)) own
      → AreFindings shapes (types_reached (shapes first)) under → IsEither own under all
      → all.depth ≡ min (under.depth + 1) 255
      → AreFindings shapes (Some first ∷ []) all
  found-shape known first own under all knows mine rest both depth = record {
    bad_name =
        either (test-itself (mine.bad_name ∙ names-known shapes known (shapes first) knows)) rest.bad_name both.bad_name
        (one-entry (HasBadName shapes) shapes first);
    foreign_type =
        either (test-itself mine.foreign_type) rest.foreign_type both.foreign_type (one-entry IsForeign shapes first);
    unspeakable =
        either (test-same mine.unspeakable (unspeakable-known shapes known (shapes first) knows)) rest.unspeakable
        both.unspeakable (one-entry (IsUnspeakable shapes) shapes first);
    deep = depth-entry shapes first under.depth all.depth depth rest.deep;
  }

  pub found-subject : (known : Survey) (subject : SubjectOf) (own under all : Findings)
      → All (KnowsType shapes known) (types_declared subject)
      → IsOwn (has_own_bad_name (kind_known known) subject) (is_own_foreign subject) (is_own_unspeakable known subject)
      own
      → AreFindings shapes (types_declared subject) under → IsEither own under all → all.depth ≡ under.depth
      → AreFindingsOf shapes subject all
  found-subject known subject own under all knows mine rest is depth = record {
    bad_name =
        either (test-itself (mine.bad_name ∙ own-names-known shapes known subject knows)) rest.bad_name
        is.bad_name (
          λ s. elim s [ inl h ↦ own_name h | inr h ↦ name_reached h.0 h.1 h.2 ],
          λ h. elim h
              [ own_name x ↦ inl x | name_reached e r x ↦ inr (e, r, x) ],
        );
    foreign_type =
        either (test-itself mine.foreign_type) rest.foreign_type is.foreign_type (
          λ s. elim s [ inl h ↦ own_child h | inr h ↦ foreign_reached h.0 h.1 h.2 ],
          λ h. elim h
              [ own_child x ↦ inl x | foreign_reached e r x ↦ inr (e, r, x) ],
        );
    unspeakable =
        either (test-same mine.unspeakable (own-unspeakable-known shapes known subject knows)) rest.unspeakable
        is.unspeakable (
          λ s. elim s [ inl h ↦ own_shape h | inr h ↦ shape_reached h.0 h.1 h.2 ],
          λ h. elim h
              [ own_shape x ↦ inl x | shape_reached e r x ↦ inr (e, r, x) ],
        );
    deep =
        let few : 65 ≤ 65 = omega arith in
        let far = rest.deep 65 few in (
          λ over. deep (far.1 (omega (arith, depth, over))),
          λ h. elim h
              [ deep path ↦ omega (arith, depth, far.0 path) ],
        );
  }

pub same-summary : {shapes : ℕ → ShapeOf} {at : TypeAt} {s known : Summary} → s ≡ known → IsSummary shapes at known
    → IsSummary shapes at s
same-summary {shapes = shapes} {at = at} same is = let P : Summary → Type 0 = λ x. IsSummary shapes at x in
    subst P (sym same) is

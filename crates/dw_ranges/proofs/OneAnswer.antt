-- The entries of a unit have one list of functions, or one first fault.
use Rattle.std.proofs.Common.{◌≡◌, ℕ, ◌+◌, List, [], ◌∷◌, length, Option, Some, None}
use Rattle.std.proofs.Common.{sym, ap, ◌∙◌, subst, arith, inl, inr, Result, Ok, Err}
use Rattle.std.specs.Prelude.{IfSome, IsSome, count_by}
use Rattle.std.proofs.lemmas.Bool.{true≢false}
use Rattle.dw_entries.specs.ByNumber.{entry_of, Entry}
use Rattle.dw_ranges.specs.Areas.{Has}
use Rattle.dw_ranges.specs.EntryRanges.{entry_ranges}
use Rattle.dw_ranges.specs.Functions.{AreFunctions, ArePart, IsBroken, Known, Reads, Refuses, Starts, Takes, group_at, home}
use Rattle.dw_ranges.specs.Functions.{known_with, outer}
use Rattle.dw_ranges.specs.Live.{AreApart, AreCodeOf, CodeFails, is_dead, live_ranges}
use Rattle.dw_ranges.specs.Totals.{counted}
use Rattle.dw_ranges.specs.declared.addresses.UnitAddresses.{UnitAddresses}
use Rattle.dw_ranges.specs.declared.bounds.RangeSections.{RangeSections}
use Rattle.dw_ranges.specs.declared.fault.RangeFault.{RangeFault}
use Rattle.dw_ranges.specs.declared.range.Range.{Range}
use Rattle.dw_ranges.specs.declared.totals.RangeCounts.{RangeCounts}
use Rattle.dw_ranges.specs.declared.totals.Totals.{Totals}
use Rattle.dw_ranges.proofs.AreaLaws.{areas_unique}

pub ok_is : {A E : Type 0} (a b : A) → ◌≡◌ {A = Result A E} (Ok a) (Ok b) → a ≡ b
ok_is a b e = cc

pub err_is : {A E : Type 0} (a b : E) → ◌≡◌ {A = Result A E} (Err a) (Err b) → a ≡ b
err_is a b e = cc

ok_err : {A E : Type 0} (a : A) (b : E) → ◌≡◌ {A = Result A E} (Ok a) (Err b) → ⊥
ok_err a b e = absurd cc

if_some_is : (r : Option ℕ) (P : Type 0) → IsSome r → IfSome r (λ _. P) → P
if_some_is None P some p = absurd (true≢false (sym some))
if_some_is (Some x) P some p = p

-- ---- the code of an entry

module _ (sections : RangeSections) (u v : UnitAddresses) (code : List Range)
    (same : (e : Entry) → entry_ranges sections u e ≡ entry_ranges sections v e) where
  pair_same : (e : Entry) (ranges ranges2 : List Range) (bytes bytes2 : ℕ)
      → entry_ranges sections u e ≡ Ok (ranges, bytes) → entry_ranges sections v e ≡ Ok (ranges2, bytes2)
      → (ranges ≡ ranges2) × (bytes ≡ bytes2)
  pair_same e ranges ranges2 bytes bytes2 p q =
      let both = ok_is {E = RangeFault} (ranges, bytes) (ranges2, bytes2) (sym p ∙ same e ∙ q) in
      (ap (λ (x : List Range × ℕ). x.0) both, ap (λ (x : List Range × ℕ). x.1) both)

  pub code_same : (e : Entry) (budget : ℕ) (areas areas2 : List Range) (left left2 : ℕ) (counts counts2 : RangeCounts)
      → AreCodeOf sections u code e budget areas left counts → AreCodeOf sections v code e budget areas2 left2 counts2
      → (areas ≡ areas2) × (left ≡ left2) × (counts ≡ counts2)
  code_same e budget areas areas2 left left2 counts counts2 p q =
      let (ranges, bytes) = pair_same e p.ranges q.ranges p.bytes q.bytes p.are q.are in (
        areas_unique areas areas2 p.are_areas q.are_areas (λ a. (
          λ h. (q.same a).1 (subst (λ (l : List Range). Has (live_ranges code l) a) ranges ((p.same a).0 h)),
          λ h. (p.same a).1 (subst (λ (l : List Range). Has (live_ranges code l) a) (sym ranges) ((q.same a).0 h)),
        )),
        omega (arith, p.budgeted, q.budgeted, bytes),
        p.count ∙ (λ t. record { ranges = length (ranges t); dead = count_by (is_dead code) (ranges t) }) ∙ sym q.count,
      )

  pub code_or_fault : (e : Entry) (budget : ℕ) (areas : List Range) (left : ℕ) (counts : RangeCounts) (f : RangeFault)
      → AreCodeOf sections u code e budget areas left counts → CodeFails sections v code e budget f → ⊥
  code_or_fault e budget areas left counts f p (inl q) =
      ok_err {E = RangeFault} (p.ranges, p.bytes) f (sym p.are ∙ same e ∙ q)
  code_or_fault e budget areas left counts f p (inr (inl q)) =
      let (ranges, bytes) = pair_same e p.ranges q.ranges p.bytes q.bytes p.are q.are in
      omega (arith, p.budgeted, q.over, bytes)
  code_or_fault e budget areas left counts f p (inr (inr q)) =
      let (ranges, bytes) = pair_same e p.ranges q.ranges p.bytes q.bytes p.are q.are in
      q.meet (subst (λ (l : List Range). AreApart (live_ranges code l)) ranges p.apart)

  pub fault_same : (e : Entry) (budget : ℕ) (f g : RangeFault) → CodeFails sections u code e budget f
      → CodeFails sections v code e budget g → f ≡ g
  fault_same e budget f g (inl p) (inl q) = err_is {A = List Range × ℕ} f g (sym p ∙ same e ∙ q)
  fault_same e budget f g (inl p) (inr (inl q)) =
      absurd (ok_err {E = RangeFault} (q.ranges, q.bytes) f (sym q.are ∙ sym (same e) ∙ p))
  fault_same e budget f g (inl p) (inr (inr q)) =
      absurd (ok_err {E = RangeFault} (q.ranges, q.bytes) f (sym q.are ∙ sym (same e) ∙ p))
  fault_same e budget f g (inr (inl p)) (inl q) =
      absurd (ok_err {E = RangeFault} (p.ranges, p.bytes) g (sym p.are ∙ same e ∙ q))
  fault_same e budget f g (inr (inl p)) (inr (inl q)) = p.is ∙ sym q.is
  fault_same e budget f g (inr (inl p)) (inr (inr q)) =
      let (ranges, bytes) = pair_same e p.ranges q.ranges p.bytes q.bytes p.are q.are in
      absurd (omega (arith, p.over, q.within, bytes))
  fault_same e budget f g (inr (inr p)) (inl q) =
      absurd (ok_err {E = RangeFault} (p.ranges, p.bytes) g (sym p.are ∙ same e ∙ q))
  fault_same e budget f g (inr (inr p)) (inr (inl q)) =
      let (ranges, bytes) = pair_same e p.ranges q.ranges p.bytes q.bytes p.are q.are in
      absurd (omega (arith, p.within, q.over, bytes))
  fault_same e budget f g (inr (inr p)) (inr (inr q)) = p.is ∙ sym q.is

  starts_same : (e : Entry) (before : Totals) (s s2 : Known) → Starts sections u code e before s
      → Starts sections v code e before s2 → s ≡ s2
  starts_same e before s s2 p q =
      let (areas, left, counts) =
      code_same e before.left p.areas q.areas p.left q.left p.counts q.counts p.are q.are in
      p.is ∙ (λ t. record {
        scopes = record { group = 0; areas = areas t } ∷ [];
        spans = [];
        totals = counted before (left t) (counts t) None;
      }) ∙ sym q.is

  module _ (first : ℕ) where
    takes_same : (k : Known) (n : ℕ) (e : Entry) (after after2 : Known) → Takes sections u code first k n e after
        → Takes sections v code first k n e after2 → after ≡ after2
    takes_same k n e after after2 p q =
        let (areas, left, counts) =
        code_same e k.totals.left p.areas q.areas p.left q.left p.counts q.counts p.are q.are in
        p.is ∙ (λ t. known_with k n (outer sections u code first k e) (areas t)
        (counted k.totals (left t) (counts t) (group_at sections u code first k e (areas t)))
        (group_at sections u code first k e (areas t))) ∙ sym q.is

    takes_or_refuses : (k : Known) (n : ℕ) (e : Entry) (after : Known) (f : RangeFault)
        → Takes sections u code first k n e after → Refuses sections v code first k e f → ⊥
    takes_or_refuses k n e after f p (inl q) = code_or_fault e k.totals.left p.areas p.left p.counts f p.are q
    takes_or_refuses k n e after f p (inr q) =
        let (areas, left, counts) =
        code_same e k.totals.left p.areas q.areas p.left q.left p.counts q.counts p.are q.are in
        let part = subst (λ (l : List Range). IfSome (group_at sections u code first k e l)
        (λ _. ArePart l (home sections u code first k e))) areas p.part in
        q.not_part
        (if_some_is (group_at sections u code first k e q.areas) (ArePart q.areas (home sections u code first k e))
        q.some part)

-- ---- the entries of a unit

module _ (sections : RangeSections) (u v : UnitAddresses) (code : List Range)
    (same : (e : Entry) → entry_ranges sections u e ≡ entry_ranges sections v e) (first : ℕ) where
  back : (e : Entry) → entry_ranges sections v e ≡ entry_ranges sections u e
  back e = sym (same e)

  refuses_same : (k : Known) (e : Entry) (f g : RangeFault) → Refuses sections u code first k e f
      → Refuses sections v code first k e g → f ≡ g
  refuses_same k e f g (inl p) (inl q) = fault_same sections u v code same e k.totals.left f g p q
  refuses_same k e f g (inl p) (inr q) =
      absurd (code_or_fault sections v u code back e k.totals.left q.areas q.left q.counts f q.are p)
  refuses_same k e f g (inr p) (inl q) =
      absurd (code_or_fault sections u v code same e k.totals.left p.areas p.left p.counts g p.are q)
  refuses_same k e f g (inr p) (inr q) = p.is ∙ sym q.is

  reads_same : (es : List Entry) (k : Known) (n : ℕ) (r r2 : Result Known RangeFault)
      → Reads sections u code first k n es r → Reads sections v code first k n es r2 → r ≡ r2
  reads_same [] k n r r2 p q = p ∙ sym q
  reads_same (e ∷ es) k n r r2 (inl (f, p, is)) (inl (g, q, is2)) =
      is ∙ ap (λ (x : RangeFault). (let y : Result Known RangeFault = Err x in y)) (refuses_same k e f g p q) ∙ sym is2
  reads_same (e ∷ es) k n r r2 (inl (f, p, is)) (inr (mid, q, reads)) =
      absurd (takes_or_refuses sections v u code back first k n e mid f q p)
  reads_same (e ∷ es) k n r r2 (inr (mid, p, reads)) (inl (g, q, is2)) =
      absurd (takes_or_refuses sections u v code same first k n e mid g p q)
  reads_same (e ∷ es) k n r r2 (inr (mid, p, reads)) (inr (mid2, q, reads2)) =
      let one = takes_same sections u v code same first k n e mid mid2 p q in
      reads_same es mid (n + 1) r r2 reads
      (subst (λ (m : Known). Reads sections v code first m (n + 1) es r2) (sym one) reads2)

  module _ (entries : List Entry) (end : ℕ) (before : Totals) where
    pub functions_same : (k k2 : Known) → AreFunctions sections u code first entries end before k
        → AreFunctions sections v code first entries end before k2 → k ≡ k2
    functions_same k k2 p q =
        let start = starts_same sections u v code same (entry_of entries first) before p.start q.start p.starts q.starts
        in
        ok_is {E = RangeFault} k k2
        (reads_same _ p.start (first + 1) (Ok k) (Ok k2) p.reads
        (subst (λ (m : Known). Reads sections v code first m (first + 1) _ (Ok k2)) (sym start) q.reads))

    pub functions_or_broken : (k : Known) (f : RangeFault) → AreFunctions sections u code first entries end before k
        → IsBroken sections v code first entries end before f → ⊥
    functions_or_broken k f p q =
        let start = starts_same sections u v code same (entry_of entries first) before p.start q.start p.starts q.starts
        in
        ok_err {E = RangeFault} k f
        (reads_same _ p.start (first + 1) (Ok k) (Err f) p.reads
        (subst (λ (m : Known). Reads sections v code first m (first + 1) _ (Err f)) (sym start) q.reads))

    pub broken_same : (f g : RangeFault) → IsBroken sections u code first entries end before f
        → IsBroken sections v code first entries end before g → f ≡ g
    broken_same f g p q =
        let start = starts_same sections u v code same (entry_of entries first) before p.start q.start p.starts q.starts
        in
        err_is {A = Known} f g
        (reads_same _ p.start (first + 1) (Err f) (Err g) p.reads
        (subst (λ (m : Known). Reads sections v code first m (first + 1) _ (Err g)) (sym start) q.reads))

    pub started_or_fails : (s : Known) (f : RangeFault) → Starts sections u code (entry_of entries first) before s
        → CodeFails sections v code (entry_of entries first) before.left f → ⊥
    started_or_fails s f p q =
        code_or_fault sections u v code same (entry_of entries first) before.left p.areas p.left p.counts f p.are q

-- The spans of a unit's functions: each has an address, and is of an entry after the one that it is inlined in.
use Rattle.std.proofs.Common.{◌≡◌, ℕ, ◌+◌, ◌-◌, ◌^◌, ◌<◌, ◌≤◌, List, [], ◌∷◌, length, Bool, true, false, Option, Some, None}
use Rattle.std.proofs.Common.{cond}
use Rattle.std.proofs.Common.{refl, sym, subst, arith, inl, inr, Ok, not, ◌&&◌, eqb}
use Rattle.std.specs.Prelude.{All, slice_range}
use Rattle.std.proofs.lemmas.Bool.{cases_lt}
use Rattle.std.proofs.lemmas.List.{get_or_past}
use Rattle.std.proofs.lemmas.List.Edits.{length-between}
use Rattle.std.proofs.lemmas.List.Elements.{All-append, All-map, All-nil, All-push, All-weaker}
use Rattle.std.proofs.lemmas.Option.{none-some, same_Some}
use Rattle.dw_entries.specs.Entries.{Entry}
use Rattle.dw_ranges.specs.Functions.{AreFunctions, Known, Reads, Scope, Starts, Takes, group_at, group_with}
use Rattle.dw_ranges.specs.Functions.{known_with}
use Rattle.dw_ranges.specs.Functions.{no_scope, outer, outer_of, span_in}
use Rattle.dw_ranges.specs.Live.{AreCodeOf}
use Rattle.dw_ranges.specs.Spans.{IsSpan}
use Rattle.dw_ranges.specs.declared.addresses.UnitAddresses.{UnitAddresses}
use Rattle.dw_ranges.specs.declared.bounds.RangeSections.{RangeSections}
use Rattle.dw_ranges.specs.declared.range.Range.{Range}
use Rattle.dw_ranges.specs.declared.spans.Span.{Span}
use Rattle.dw_ranges.specs.declared.totals.RangeCounts.{RangeCounts}
use Rattle.dw_ranges.specs.declared.totals.Totals.{Totals}

abbrev IsGroup : ℕ → Scope → Type 0
IsGroup n s = s.group ≤ n

abbrev IsSpanBelow : ℕ → Span → Type 0
IsSpanBelow n s = IsSpan s × (s.function < n)

-- all are of entries before the one of a number
record AreKnown (k : Known) (n : ℕ) : Type 0 where
  scopes : All (IsGroup n) k.scopes
  spans : All (IsSpanBelow n) k.spans

chosen : (b c : Bool) (m g : ℕ) → cond b (Some 0) (cond c (Some m) None) ≡ Some g → g ≤ m
chosen true c m g e = omega (arith, same_Some 0 g e)
chosen false true m g e = omega (arith, same_Some m g e)
chosen false false m g e = absurd (none-some g e)

-- a function is in a group of the scope that it is in, or in group 0
group_le : (tag : ℕ) (o : Scope) (areas : List Range) (g : ℕ) → group_with tag o areas ≡ Some g → g ≤ o.group
group_le tag o [] g e = absurd (none-some g e)
group_le tag o (r ∷ rs) g e = chosen (eqb tag 0x2e) (eqb tag 0x1d && not (eqb o.group 0)) o.group g e

outer_le : (k : Known) (n first : ℕ) (parent : Option ℕ) → AreKnown k n → (outer_of k.scopes first parent).group ≤ n
outer_le k n first None known = omega arith
outer_le k n first (Some p) known = elim (cases_lt (p - first) (length k.scopes)) [
  | inl lt ↦ known.scopes (p - first) no_scope lt
  | inr ge ↦ subst (IsGroup n) (sym (get_or_past k.scopes (p - first) no_scope ge)) (omega arith)
]

module _ (sections : RangeSections) (unit : UnitAddresses) (code : List Range) (first : ℕ) where
  known_more : (k : Known) (n : ℕ) (e : Entry) (areas : List Range) (left : ℕ) (counts : RangeCounts) → AreKnown k n
      → AreCodeOf sections unit code e k.totals.left areas left counts → (totals : Totals) (g : Option ℕ)
      → group_at sections unit code first k e areas ≡ g
      → AreKnown (known_with k n (outer sections unit code first k e) areas totals g) (n + 1)
  known_more k n e areas left counts known are totals None same = record {
    scopes = All-push (IsGroup (n + 1)) k.scopes (outer sections unit code first k e)
        (All-weaker (IsGroup n) (IsGroup (n + 1)) (λ s le. omega arith) k.scopes known.scopes)
        (omega (arith, outer_le k n first e.parent known));
    spans = All-weaker (IsSpanBelow n) (IsSpanBelow (n + 1)) (λ s p. (p.0, omega (arith, p.1))) k.spans known.spans;
  }
  known_more k n e areas left counts known are totals (Some g) same =
      let le = group_le e.head.decl.tag (outer sections unit code first k e) areas g same in
      let up = outer_le k n first e.parent known in
      record {
        scopes = All-push (IsGroup (n + 1)) k.scopes (record { group = n + 1; areas = areas })
            (All-weaker (IsGroup n) (IsGroup (n + 1)) (λ s low. omega arith) k.scopes known.scopes) (omega arith);
        spans = All-append (IsSpanBelow (n + 1)) k.spans _
            (All-weaker (IsSpanBelow n) (IsSpanBelow (n + 1)) (λ s p. (p.0, omega (arith, p.1))) k.spans known.spans)
            (All-map (IsSpanBelow (n + 1)) (span_in g n) areas (λ i d in'.
            (record { some = are.are_areas.some i d in'; after = omega (arith, le, up) }, omega arith)));
      }

  takes_known : (k : Known) (n : ℕ) (e : Entry) (after : Known) → AreKnown k n
      → Takes sections unit code first k n e after
      → AreKnown after (n + 1)
  takes_known k n e after known takes =
      subst (λ (x : Known). AreKnown x (n + 1)) (sym takes.is)
      (known_more k n e takes.areas takes.left takes.counts known takes.are _ _ refl)

  reads_known : (es : List Entry) (k : Known) (n : ℕ) (after : Known) → AreKnown k n
      → Reads sections unit code first k n es (Ok after) → AreKnown after (n + length es)
  reads_known [] k n after known reads =
      let same : k ≡ after = cc in
      let e : n ≡ n + 0 = omega arith in
      subst (AreKnown after) e (subst (λ (x : Known). AreKnown x n) same known)
  reads_known (e ∷ es) k n after known (inl (f, refuses, same)) = absurd (cc)
  reads_known (e ∷ es) k n after known (inr (mid, takes, reads)) =
      let all = reads_known es mid (n + 1) after (takes_known k n e mid known takes) reads in
      let same : (n + 1) + length es ≡ n + length (e ∷ es) = omega arith in
      subst (AreKnown after) same all

  start_known : (e : Entry) (before : Totals) (start : Known) → Starts sections unit code e before start
      → AreKnown start (first + 1)
  start_known e before start starts =
      subst (λ (x : Known). AreKnown x (first + 1)) (sym starts.is) (record {
        scopes = All-push (IsGroup (first + 1)) [] (record { group = 0; areas = starts.areas })
            (All-nil (IsGroup (first + 1))) (omega arith);
        spans = All-nil (IsSpanBelow (first + 1));
      })

  module _ (entries : List Entry) (end : ℕ) (before : Totals) (known : Known) (some : first < end)
      (within : end ≤ length entries)
      (are : AreFunctions sections unit code first entries end before known) where
    all_known : AreKnown known end
    all_known =
        let long = length-between entries (first + 1) end within in
        let e : (first + 1) + length (slice_range entries (first + 1) end) ≡ end = omega (arith, long) in
        subst (AreKnown known) e
        (reads_known (slice_range entries (first + 1) end) are.start (first + 1) known
        (start_known _ before are.start are.starts) are.reads)

    pub spans_each : All IsSpan known.spans
    spans_each = All-weaker (IsSpanBelow end) IsSpan (λ s p. p.0) known.spans all_known.spans

    pub spans_few : end < 2 ^ 64 → All (λ s. s.function < 2 ^ 64 - 1) known.spans
    spans_few le =
        All-weaker (IsSpanBelow end) (λ (s : Span). s.function < 2 ^ 64 - 1) (λ s p. omega (arith, le, p.1)) known.spans
        all_known.spans

    pub spans_within : All (λ s. s.function < length entries) known.spans
    spans_within =
        All-weaker (IsSpanBelow end) (λ (s : Span). s.function < length entries) (λ s p. omega (arith, p.1)) known.spans
        all_known.spans

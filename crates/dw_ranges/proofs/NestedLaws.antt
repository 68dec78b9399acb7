-- The addresses of an inlined function are addresses of the function that it is inlined in, among the spans of a unit.
use Rattle.std.proofs.Common.{◌≡◌, ℕ, ◌+◌, ◌-◌, ◌<◌, ◌≤◌, List, [], ◌∷◌, ◌++◌, length, get_or, map, Bool, true, false}
use Rattle.std.proofs.Common.{cond, refl, sym, ap, ◌∙◌, subst, arith, inl, inr, Ok, Option, Some, None, not, ◌&&◌, eqb}
use Rattle.std.specs.Prelude.{All, Any, Contains, IfSome, IsPermutation}
use Rattle.std.proofs.lemmas.Bool.{cases_lt}
use Rattle.std.proofs.lemmas.List.{get_or_append_left, get_or-append_right, get_or_default, get_or_past, get_or-map}
use Rattle.std.proofs.lemmas.List.{length-append, length-map}
use Rattle.std.proofs.lemmas.List.Elements.{All-nil, All-push, All-weaker}
use Rattle.std.proofs.lemmas.List.Sorted.{Contains-permutation, IsPermutation-sym}
use Rattle.std.proofs.lemmas.Option.{none-some, same_Some}
use Rattle.dw_entries.specs.Entries.{Entry}
use Rattle.dw_entries.specs.declared.entries.Entries.{Entries}
use Rattle.dw_ranges.specs.Areas.{Has}
use Rattle.dw_ranges.specs.Functions.{ArePart, HasFunctions, Known, Reads, Scope, Starts, group_at, group_with, home}
use Rattle.dw_ranges.specs.Functions.{home_of, known_with, no_scope, outer, outer_of, scope_at, span_in}
use Rattle.dw_ranges.specs.Spans.{AreNested, IsInSpan}
use Rattle.dw_ranges.specs.declared.addresses.UnitAddresses.{UnitAddresses}
use Rattle.dw_ranges.specs.declared.bounds.RangeSections.{RangeSections}
use Rattle.dw_ranges.specs.declared.range.Range.{Range}
use Rattle.dw_ranges.specs.declared.spans.Span.{Span}
use Rattle.dw_ranges.specs.declared.totals.Totals.{Totals}

-- ---- spans of a function

abbrev IsOne : ℕ → ℕ → Span → Type 0
IsOne group a t = (t.function + 1 ≡ group) × IsInSpan a t

any_left : (P : Span → Type 0) (xs ys : List Span) → Any P xs → Any P (xs ++ ys)
any_left P xs ys h =
    (h.0, h.1, omega (arith, h.2, length-append xs ys), get_or_append_left xs ys h.1 h.0 h.2 ∙ h.3, h.4)

any_right : (P : Span → Type 0) (xs ys : List Span) → Any P ys → Any P (xs ++ ys)
any_right P xs ys h =
    let at : length xs + h.0 - length xs ≡ h.0 = omega arith in (
      length xs + h.0,
      h.1,
      omega (arith, h.2, length-append xs ys),
      get_or-append_right xs ys (length xs) (length xs + h.0) h.1 refl (omega arith)
          ∙ ap (λ (n : ℕ). get_or ys n h.1) at
          ∙ h.3,
      h.4,
    )

-- each address of a scope that is a function is in a span of the function
abbrev IsFilled : List Span → Scope → Type 0
IsFilled spans scope = (a : ℕ) → 1 ≤ scope.group → Has scope.areas a → Any (IsOne scope.group a) spans

filled_more : (xs ys : List Span) (scope : Scope) → IsFilled xs scope → IsFilled (xs ++ ys) scope
filled_more xs ys scope filled a some has = any_left (IsOne scope.group a) xs ys (filled a some has)

record AreFilled (k : Known) : Type 0 where
  scopes : All (IsFilled k.spans) k.scopes
  nested : AreNested k.spans

-- the spans of the areas of a function
of_areas : (g n a : ℕ) (areas : List Range) → Has areas a → Any (IsOne (n + 1) a) (map (span_in g n) areas)
of_areas g n a areas h = (
  h.0,
  span_in g n h.1,
  omega (arith, h.2, length-map areas (span_in g n)),
  get_or-map (span_in g n) areas h.0 h.1 (span_in g n h.1) h.2 ∙ ap (span_in g n) h.3,
  (refl, (h.4.0, h.4.1)),
)

area_of : (g n a : ℕ) (areas : List Range) (s : Span) → Contains (map (span_in g n) areas) s → IsInSpan a s
    → (g ≡ s.group) × Has areas a
area_of g n a areas s there p =
    let d : Range = record { low = 0; high = 0 } in
    let in' : there.0 < length areas = omega (arith, there.1, length-map areas (span_in g n)) in
    let r = get_or areas there.0 d in
    let is : span_in g n r ≡ s = sym (get_or-map (span_in g n) areas there.0 d s in') ∙ there.2 in (
      ap (λ (x : Span). x.group) is,
      (
        there.0,
        r,
        in',
        get_or_default areas there.0 r d in',
        subst (IsInSpan a) (sym is) p,
      ),
    )

-- ---- the group of an inlined function

chosen_inner : (b c : Bool) (m g : ℕ) → cond b (Some 0) (cond c (Some m) None) ≡ Some g → 1 ≤ g
    → (b ≡ false) × (g ≡ m)
chosen_inner true c m g e some = absurd (omega (arith, same_Some 0 g e, some))
chosen_inner false true m g e some = (refl, sym (same_Some m g e))
chosen_inner false false m g e some = absurd (none-some g e)

inner_group : (tag : ℕ) (o : Scope) (areas : List Range) (g : ℕ) → group_with tag o areas ≡ Some g → 1 ≤ g
    → (eqb tag 0x2e ≡ false) × (g ≡ o.group)
inner_group tag o [] g e some = absurd (none-some g e)
inner_group tag o (r ∷ rs) g e some = chosen_inner (eqb tag 0x2e) (eqb tag 0x1d && not (eqb o.group 0)) o.group g e some

inner_home : (tag : ℕ) (unit o : Scope) → eqb tag 0x2e ≡ false → home_of tag unit o ≡ o
inner_home tag unit o inlined = ap (λ (b : Bool). cond b unit o) inlined

at_filled : (k : Known) (n : ℕ) → AreFilled k → IsFilled k.spans (scope_at k.scopes n)
at_filled k n filled = elim (cases_lt n (length k.scopes)) [
  | inl lt ↦ filled.scopes n no_scope lt
  | inr ge ↦
      subst (IsFilled k.spans) (sym (get_or_past k.scopes n no_scope ge)) (λ a some has. absurd (omega (arith, some)))
]

outer_filled : (k : Known) (first : ℕ) (parent : Option ℕ) → AreFilled k
    → IsFilled k.spans (outer_of k.scopes first parent)
outer_filled k first None filled = λ a some has. absurd (omega (arith, some))
outer_filled k first (Some p) filled = at_filled k (p - first) filled

-- ---- one entry after another

module _ (sections : RangeSections) (unit : UnitAddresses) (code : List Range) (first : ℕ) where
  filled_with : (k : Known) (n : ℕ) (e : Entry) (areas : List Range) (totals : Totals) → AreFilled k → (g : Option ℕ)
      → group_at sections unit code first k e areas ≡ g
      → IfSome g (λ _. ArePart areas (home sections unit code first k e))
      → AreFilled (known_with k n (outer sections unit code first k e) areas totals g)
  filled_with k n e areas totals filled None same part = record {
    scopes = All-push (IsFilled k.spans) k.scopes (outer sections unit code first k e) filled.scopes
        (outer_filled k first e.parent filled);
    nested = filled.nested;
  }
  filled_with k n e areas totals filled (Some g) same part =
      let o = outer sections unit code first k e in
      let more = map (span_in g n) areas in
      record {
        scopes = All-push (IsFilled (k.spans ++ more)) k.scopes (record { group = n + 1; areas = areas })
            (All-weaker (IsFilled k.spans) (IsFilled (k.spans ++ more)) (λ s f. filled_more k.spans more s f) k.scopes
            filled.scopes)
            (λ a some has. any_right (IsOne (n + 1) a) k.spans more (of_areas g n a areas has));
        nested = λ s a there p some. elim (cases_lt there.0 (length k.spans)) [
          | inl lt ↦
              any_left (IsOne s.group a) k.spans more
              (filled.nested s a (there.0, lt, sym (get_or_append_left k.spans more s there.0 lt) ∙ there.2) p some)
          | inr ge ↦
              let right : get_or more (there.0 - length k.spans) s ≡ s =
              sym (get_or-append_right k.spans more (length k.spans) there.0 s refl ge) ∙ there.2 in
              let in' : there.0 - length k.spans < length more =
              omega (arith, there.1, ge, length-append k.spans more) in
              let (same_group, has) = area_of g n a areas s (there.0 - length k.spans, in', right) p in
              let (inlined, own) = inner_group e.head.decl.tag o areas g same (omega (arith, same_group, some)) in
              let at_home : Has (home sections unit code first k e).areas a = part a has in
              let at_outer : Has o.areas a =
              subst (λ (h : Scope). Has h.areas a) (inner_home e.head.decl.tag (scope_at k.scopes 0) o inlined) at_home
              in
              let group : o.group ≡ s.group = sym own ∙ same_group in
              any_left (IsOne s.group a) k.spans more
              (subst (λ (m : ℕ). Any (IsOne m a) k.spans) group
              (outer_filled k first e.parent filled a (omega (arith, group, some)) at_outer))
        ];
      }

  reads_filled : (es : List Entry) (k : Known) (n : ℕ) (after : Known) → AreFilled k
      → Reads sections unit code first k n es (Ok after) → AreFilled after
  reads_filled [] k n after filled reads = let same : k ≡ after = cc in subst AreFilled same filled
  reads_filled (e ∷ es) k n after filled (inl (f, refuses, same)) = absurd (cc)
  reads_filled (e ∷ es) k n after filled (inr (mid, takes, reads)) =
      let mid_filled : AreFilled mid =
      subst AreFilled (sym takes.is) (filled_with k n e takes.areas _ filled _ refl takes.part) in
      reads_filled es mid (n + 1) after mid_filled reads

  start_filled : (e : Entry) (before : Totals) (start : Known) → Starts sections unit code e before start
      → AreFilled start
  start_filled e before start starts =
      subst AreFilled (sym starts.is) (record {
        scopes = All-push (IsFilled []) [] (record { group = 0; areas = starts.areas }) (All-nil (IsFilled []))
            (λ a some has. absurd (omega (arith, some)));
        nested = λ s a there p some. absurd (omega (arith, there.1));
      })

nested_permuted : (xs ys : List Span) → IsPermutation xs ys → AreNested xs → AreNested ys
nested_permuted xs ys moved nested s a there p some =
    let h = nested s a (Contains-permutation ys xs s (IsPermutation-sym xs ys moved) there) p some in
    let at = Contains-permutation xs ys h.1 moved (h.0, h.2, h.3) in (at.0, h.1, at.1, at.2, h.4)

pub functions_nested : (sections : RangeSections) (code : List Range) (entries : Entries) (number : ℕ) (before : Totals)
    (known : Known) → HasFunctions sections code entries number before known → AreNested known.spans
functions_nested sections code entries number before known has =
    let are = has.are.are in
    nested_permuted has.are.spans known.spans has.are.same
    (reads_filled sections has.unit code _ _ are.start _ _
    (start_filled sections has.unit code 0 _ before are.start are.starts)
    are.reads).nested

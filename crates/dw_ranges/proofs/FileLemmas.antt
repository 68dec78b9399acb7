-- The functions of a file by address.
use Rattle.std.proofs.Common.{◌≡◌, ℕ, zero, suc, ◌+◌, ◌-◌, ◌^◌, ◌<◌, ◌≤◌, ◌↔◌, List, [], ◌∷◌, ◌++◌, length, get_or}
use Rattle.std.proofs.Common.{take, drop, map, refl, sym, ap, ◌∙◌, subst, arith, inl, inr, ◌⊎◌}
use Rattle.std.specs.Prelude.{All, slice_range}
use Rattle.std.proofs.lemmas.Bool.{cases_lt}
use Rattle.std.proofs.lemmas.List.{drop_at, get_or_append_left, get_or_default, get_or_push, get_or-append_right}
use Rattle.std.proofs.lemmas.List.{get_or-map, length_push, length-append, length-map, take-append-le, take_all}
use Rattle.std.proofs.lemmas.Slice.{between_is}
use Rattle.dw_entries.specs.declared.entries.Entries.{Entries}
use Rattle.dw_entries.specs.Views.{units_of}
use Rattle.dw_ranges.specs.Areas.{Has, IsIn}
use Rattle.dw_ranges.specs.Files.{AreParts, AreRead, FileViolates, HasAt, HasFile, IsPart, IsUnitAt, known_at, no_known}
use Rattle.dw_ranges.specs.Files.{no_part, totals_before, unit_areas}
use Rattle.dw_ranges.specs.Totals.{no_totals}
use Rattle.dw_ranges.specs.Functions.{HasFunctions, Known, Violates}
use Rattle.dw_ranges.specs.Spans.{AreOrdered}
use Rattle.dw_ranges.specs.UnitRanges.{AreUnitRanges, IsFirstUnit, IsInUnit, UnitHas, range_of}
use Rattle.dw_ranges.specs.declared.bounds.RangeSections.{RangeSections}
use Rattle.dw_ranges.specs.declared.fault.RangeFault.{RangeFault}
use Rattle.dw_ranges.specs.declared.file.FileFunctions.{FileFunctions}
use Rattle.dw_ranges.specs.declared.file.UnitSpans.{UnitSpans}
use Rattle.dw_ranges.specs.declared.totals.Totals.{Totals}
use Rattle.dw_ranges.specs.declared.range.Range.{Range}
use Rattle.dw_ranges.specs.declared.spans.Span.{Span}
use Rattle.dw_ranges.specs.declared.unit_ranges.UnitRange.{UnitRange}

-- ---- the first unit that has an address

in_or_not : (r : Range) (a : ℕ) → IsIn a r ⊎ (IsIn a r → ⊥)
in_or_not r a = elim (cases_lt a r.low) [
  | inl below ↦ inr (λ p. omega (arith, p.0, below))
  | inr low ↦ elim (cases_lt a r.high) [
    | inl high ↦ inl (low, high)
    | inr above ↦ inr (λ p. omega (arith, p.1, above))
  ]
]

has_below : (areas : List Range) (a n : ℕ) → n ≤ length areas
    → Has areas a ⊎ ((k : ℕ) (d : Range) → k < n → IsIn a (get_or areas k d) → ⊥)
has_below areas a zero le = inr (λ k d lt p. omega (arith, lt))
has_below areas a (suc n) le =
    let d : Range = record { low = 0; high = 0 } in
    let r = get_or areas n d in
    let in' : n < length areas = omega arith in
    elim (has_below areas a n (omega arith)) [
      | inl has ↦ inl has
      | inr none ↦ elim (in_or_not r a) [
        | inl p ↦ inl (n, r, in', get_or_default areas n r d in', p)
        | inr out ↦ inr (λ k e lt p. elim (cases_lt k n) [
          | inl less ↦ none k e less p
          | inr more ↦
              let same : k ≡ n = omega arith in
              out
              (subst (IsIn a) (get_or_default areas n e d in')
              (subst (λ (m : ℕ). IsIn a (get_or areas m e)) same p))
        ])
      ]
    ]

has_or_not : (areas : List Range) (a : ℕ) → Has areas a ⊎ (Has areas a → ⊥)
has_or_not areas a = elim (has_below areas a (length areas) (omega arith)) [
  | inl has ↦ inl has
  | inr none ↦ inr (λ h. none h.0 h.1 h.2 (subst (IsIn a) (sym h.3) h.4))
]

at_or_not : (units : List Known) (a n : ℕ) → HasAt units a n ⊎ (HasAt units a n → ⊥)
at_or_not units a n = elim (cases_lt n (length units)) [
  | inl lt ↦ elim (has_or_not (unit_areas (known_at units n)) a) [
    | inl has ↦ inl (lt, has)
    | inr none ↦ inr (λ h. none h.1)
  ]
  | inr ge ↦ inr (λ h. omega (arith, h.0, ge))
]

least_below : (units : List Known) (a n : ℕ)
    → ((u : ℕ) × IsUnitAt units a u) ⊎ ((u : ℕ) → u < n → HasAt units a u → ⊥)
least_below units a zero = inr (λ u lt h. omega (arith, lt))
least_below units a (suc n) = elim (least_below units a n) [
  | inl found ↦ inl found
  | inr none ↦ elim (at_or_not units a n) [
    | inl has ↦ inl (
      n,
      (
        has,
        λ other h. elim (cases_lt other n) [
          | inl less ↦ absurd (none other less h)
          | inr more ↦ more
        ],
      ),
    )
    | inr out ↦ inr (λ u lt h. elim (cases_lt u n) [
      | inl less ↦ none u less h
      | inr more ↦ let same : u ≡ n = omega arith in out (subst (HasAt units a) same h)
    ])
  ]
]

-- an address that a unit has is one of a first unit
pub some_unit : (units : List Known) (a n : ℕ) → HasAt units a n → (u : ℕ) × IsUnitAt units a u
some_unit units a n has = elim (least_below units a (suc n)) [
  | inl found ↦ found
  | inr none ↦ absurd (none n (omega arith) has)
]

-- ---- one more unit

module _ (units : List Known) (k : Known) where
  pub known_before : (n : ℕ) → n < length units → known_at (units ++ k ∷ []) n ≡ known_at units n
  known_before n lt = get_or_append_left units (k ∷ []) no_known n lt

  pub known_last : known_at (units ++ k ∷ []) (length units) ≡ k
  known_last = get_or_push units k no_known (length units) refl

  pub at_pushed : (a n : ℕ)
      → HasAt (units ++ k ∷ []) a n ↔ (HasAt units a n ⊎ ((n ≡ length units) × Has (unit_areas k) a))
  at_pushed a n =
      let long = length_push units k in (
        λ h. elim (cases_lt n (length units)) [
          | inl lt ↦
              inl (lt, subst (λ (u : Known). Has (unit_areas u) a) (known_before n lt) h.1)
          | inr ge ↦
              let same : n ≡ length units = omega (arith, h.0, long, ge) in
              inr (
                same,
                subst (λ (u : Known). Has (unit_areas u) a)
                    (ap (known_at (units ++ k ∷ [])) same ∙ known_last) h.1,
              )
        ],
        λ s. elim s [
          | inl h ↦ (
            omega (arith, h.0, long),
            subst (λ (u : Known). Has (unit_areas u) a) (sym (known_before n h.0)) h.1,
          )
          | inr p ↦ (
            omega (arith, p.0, long),
            subst (λ (u : Known). Has (unit_areas u) a) (sym (ap (known_at (units ++ k ∷ [])) p.0 ∙ known_last)) p.1,
          )
        ],
      )

-- the areas of one more unit
has_mapped : (areas : List Range) (unit a u : ℕ) → UnitHas (map (range_of unit) areas) a u ↔ ((u ≡ unit) × Has areas a)
has_mapped areas unit a u =
    let long = length-map areas (range_of unit) in (
      λ h.
          let d : Range = record { low = 0; high = 0 } in
          let in' : h.0 < length areas = omega (arith, h.2, long) in
          let r = get_or areas h.0 d in
          let is : range_of unit r ≡ h.1 = sym (get_or-map (range_of unit) areas h.0 d h.1 in') ∙ h.3 in
          let p : IsInUnit a u (range_of unit r) = subst (IsInUnit a u) (sym is) h.4 in
          (sym p.0, (h.0, r, in', get_or_default areas h.0 r d in', (p.1, p.2))),
      λ p. (
        p.1.0,
        range_of unit p.1.1,
        omega (arith, p.1.2, long),
        get_or-map (range_of unit) areas p.1.0 p.1.1 (range_of unit p.1.1) p.1.2 ∙ ap (range_of unit) p.1.3,
        (sym p.0, p.1.4.0, p.1.4.1),
      ),
    )

has_both : (xs ys : List UnitRange) (a u : ℕ) → UnitHas (xs ++ ys) a u ↔ (UnitHas xs a u ⊎ UnitHas ys a u)
has_both xs ys a u =
    let long = length-append xs ys in (
      λ h. elim (cases_lt h.0 (length xs)) [
        | inl lt ↦ inl (h.0, h.1, lt, sym (get_or_append_left xs ys h.1 h.0 lt) ∙ h.3, h.4)
        | inr ge ↦
            inr (
              h.0 - length xs,
              h.1,
              omega (arith, h.2, long, ge),
              sym (get_or-append_right xs ys (length xs) h.0 h.1 refl ge) ∙ h.3,
              h.4,
            )
      ],
      λ s. elim s [
        | inl h ↦ (h.0, h.1, omega (arith, h.2, long), get_or_append_left xs ys h.1 h.0 h.2 ∙ h.3, h.4)
        | inr h ↦
            let at : length xs + h.0 - length xs ≡ h.0 = omega arith in (
              length xs + h.0,
              h.1,
              omega (arith, h.2, long),
              get_or-append_right xs ys (length xs) (length xs + h.0) h.1 refl (omega arith)
                  ∙ ap (λ (n : ℕ). get_or ys n h.1) at ∙ h.3,
              h.4,
            )
      ],
    )

-- all ranges of units, with those of one more
pub all_pushed : (units : List Known) (k : Known) (all : List UnitRange)
    → ((a u : ℕ) → UnitHas all a u ↔ HasAt units a u) → (a u : ℕ)
    → UnitHas (all ++ map (range_of (length units)) (unit_areas k)) a u ↔ HasAt (units ++ k ∷ []) a u
all_pushed units k all same a u =
    let both = has_both all (map (range_of (length units)) (unit_areas k)) a u in
    let more = has_mapped (unit_areas k) (length units) a u in
    let pushed = at_pushed units k a u in (
      λ h. pushed.1 (elim (both.0 h) [ inl old ↦ inl ((same a u).0 old) | inr new ↦ inr (more.0 new) ]),
      λ h. both.1 (elim (pushed.0 h) [ inl old ↦ inl ((same a u).1 old) | inr new ↦ inr (more.1 new) ]),
    )

-- ---- the spans of units

spans_more : (xs ys : List Span) (a b : ℕ) → b ≤ length xs → slice_range (xs ++ ys) a b ≡ slice_range xs a b
spans_more xs ys a b within =
    between_is (xs ++ ys) a b ∙ ap (drop a) (take-append-le b xs ys within) ∙ sym (between_is xs a b)

spans_end : (xs ys : List Span) → slice_range (xs ++ ys) (length xs) (length (xs ++ ys)) ≡ ys
spans_end xs ys =
    ap (take (length (xs ++ ys) - length xs)) (drop_at xs ys (length xs) refl)
    ∙ take_all (length (xs ++ ys) - length xs) ys (omega (arith, length-append xs ys))

pub parts_pushed : (units : List Known) (k : Known) (spans : List Span) (parts : List UnitSpans)
    → AreParts units spans parts → AreOrdered k.spans → All (λ s. s.function < 2 ^ 64 - 1) k.spans
    → AreParts (units ++ k ∷ []) (spans ++ k.spans)
    (parts ++ record { first = length spans; end = length (spans ++ k.spans) } ∷ [])
parts_pushed units k spans parts are ordered few =
    let part : UnitSpans = record { first = length spans; end = length (spans ++ k.spans) } in
    let long = length-append spans k.spans in
    record {
      count = omega (arith, length_push units k, length_push parts part, are.count);
      each = λ n lt. elim (cases_lt n (length units)) [
        | inl less ↦
            let old = are.each n less in
            let unit = known_before units k n less in
            let at = get_or_append_left parts (part ∷ []) no_part n (omega (arith, less, are.count)) in
            let here : IsPart (spans ++ k.spans) (known_at units n) (get_or parts n no_part) = record {
              rises = old.rises;
              within = omega (arith, old.within, long);
              are = spans_more spans k.spans _ _ old.within ∙ old.are;
              ordered = old.ordered;
              few = old.few;
            } in
            subst (λ (u : Known). IsPart (spans ++ k.spans) u (get_or (parts ++ part ∷ []) n no_part)) (sym unit)
            (subst (IsPart (spans ++ k.spans) (known_at units n)) (sym at) here)
        | inr more ↦
            let same : n ≡ length units = omega (arith, lt, more, length_push units k) in
            let unit = ap (known_at (units ++ k ∷ [])) same ∙ known_last units k in
            let at_k : n ≡ length parts = omega (arith, same, are.count) in
            let at = ap (λ (m : ℕ). get_or (parts ++ part ∷ []) m no_part) at_k
            ∙ get_or_push parts part no_part (length parts) refl in
            let here : IsPart (spans ++ k.spans) k part = record {
              rises = omega (arith, long);
              within = omega arith;
              are = spans_end spans k.spans;
              ordered = ordered;
              few = few;
            } in
            subst (λ (u : Known). IsPart (spans ++ k.spans) u (get_or (parts ++ part ∷ []) n no_part)) (sym unit)
            (subst (IsPart (spans ++ k.spans) k) (sym at) here)
      ];
    }

-- ---- reading units

module _ (sections : RangeSections) (code : List Range) (entries : Entries) (budget : ℕ) where
  before_pushed : (units : List Known) (k : Known) (n : ℕ) → n ≤ length units
      → totals_before sections code entries budget (units ++ k ∷ []) n
      ≡ totals_before sections code entries budget units n
  before_pushed units k zero le = refl
  before_pushed units k (suc n) le = ap (λ (u : Known). u.totals) (known_before units k n (omega arith))

  pub read_none : (all : List UnitRange) (spans : List Span) (parts : List UnitSpans) → all ≡ [] → parts ≡ []
      → AreRead sections code entries budget 0 (no_totals budget) all spans parts
  read_none all spans parts none empty = record {
    units = [];
    count = refl;
    each = λ n lt. absurd (omega (arith, lt));
    totals_are = refl;
    all_are = λ a unit. (
      λ h.
          let in' : h.0 < length all = h.2 in
          absurd (omega (arith, in', ap length none)),
      λ h. absurd (omega (arith, h.0)),
    );
    parts_are = record { count = ap length empty; each = λ k lt. absurd (omega (arith, lt)) };
  }

  pub read_more : (number : ℕ) (totals : Totals) (all : List UnitRange) (spans : List Span) (parts : List UnitSpans)
      (k : Known) (all2 : List UnitRange) (spans2 : List Span) (parts2 : List UnitSpans)
      → AreRead sections code entries budget number totals all spans parts
      → HasFunctions sections code entries number totals k → All (λ s. s.function < 2 ^ 64 - 1) k.spans
      → all2 ≡ all ++ map (range_of number) (unit_areas k) → spans2 ≡ spans ++ k.spans
      → parts2 ≡ parts ++ record { first = length spans; end = length (spans ++ k.spans) } ∷ []
      → AreRead sections code entries budget (number + 1) k.totals all2 spans2 parts2
  read_more number totals all spans parts k all2 spans2 parts2 r has few is_all is_spans is_parts =
      let units = r.units in
      let T : List Known → ℕ → Totals = totals_before sections code entries budget in
      let same_all : all2 ≡ all ++ map (range_of (length units)) (unit_areas k) =
      is_all ∙ ap (λ (n : ℕ). all ++ map (range_of n) (unit_areas k)) (sym r.count) in
      record {
        units = units ++ k ∷ [];
        count = omega (arith, length_push units k, r.count);
        each = λ n lt. elim (cases_lt n (length units)) [
          | inl less ↦
              subst (λ (t : Totals). HasFunctions sections code entries n t (known_at (units ++ k ∷ []) n))
              (sym (before_pushed units k n (omega arith)))
              (subst (HasFunctions sections code entries n (T units n)) (sym (known_before units k n less))
              (r.each n less))
          | inr more ↦
              let last : number ≡ n = omega (arith, lt, more, r.count, length_push units k) in
              let at_n : k ≡ known_at (units ++ k ∷ []) n =
              sym (ap (known_at (units ++ k ∷ [])) (sym last ∙ sym r.count) ∙ known_last units k) in
              let before : totals ≡ T (units ++ k ∷ []) n =
              r.totals_are ∙ ap (T units) last ∙ sym (before_pushed units k n (omega (arith, last, r.count))) in
              subst (λ (t : Totals). HasFunctions sections code entries n t (known_at (units ++ k ∷ []) n)) before
              (subst (HasFunctions sections code entries n totals) at_n
              (subst (λ (m : ℕ). HasFunctions sections code entries m totals k) last has))
        ];
        totals_are =
            ap (λ (u : Known). u.totals) (sym (known_last units k)) ∙ ap (T (units ++ k ∷ []))
            (let e : suc (length units) ≡ number + 1 = omega (arith, r.count) in e);
        all_are = λ a unit.
            subst (λ (l : List UnitRange). UnitHas l a unit ↔ HasAt (units ++ k ∷ []) a unit) (sym same_all)
            (all_pushed units k all r.all_are a unit);
        parts_are =
            subst (λ (l : List Span). AreParts (units ++ k ∷ []) l parts2) (sym is_spans)
            (subst (AreParts (units ++ k ∷ []) (spans ++ k.spans)) (sym is_parts)
            (parts_pushed units k spans parts r.parts_are has.are.ordered few));
      }

  pub read_fails : (number : ℕ) (totals : Totals) (all : List UnitRange) (spans : List Span) (parts : List UnitSpans)
      (fault : RangeFault) → AreRead sections code entries budget number totals all spans parts
      → number < length (units_of entries) → Violates sections code entries number totals fault
      → FileViolates sections code entries budget fault
  read_fails number totals all spans parts fault r lt v =
      let T : List Known → ℕ → Totals = totals_before sections code entries budget in
      record {
        units = r.units;
        some = omega (arith, lt, r.count);
        each = r.each;
        is = subst (λ (n : ℕ). Violates sections code entries n (T r.units n) fault) (sym r.count)
            (subst (λ (t : Totals). Violates sections code entries number t fault) r.totals_are v);
      }

  pub file_read : (file : FileFunctions) (all : List UnitRange)
      → AreRead sections code entries budget (length (units_of entries)) file.totals all file.spans.items
      file.parts.items
      → AreUnitRanges file.units.items
      → ((a unit : ℕ) → UnitHas file.units.items a unit ↔ IsFirstUnit all a unit)
      → HasFile sections code entries budget file
  file_read file all r ranges found = record {
    units = r.units;
    all = r.count;
    each = r.each;
    totals = r.totals_are ∙ ap (totals_before sections code entries budget r.units) (sym r.count);
    index = record {
      ranges = ranges;
      first = λ a unit. (
        λ h.
            let f = (found a unit).0 h in
            ((r.all_are a unit).0 f.0, λ other g. f.1 other ((r.all_are a other).1 g)),
        λ h. (found a unit).1 ((r.all_are a unit).1 h.0, λ other g. h.1 other ((r.all_are a other).0 g)),
      );
      parts = r.parts_are;
    };
  }

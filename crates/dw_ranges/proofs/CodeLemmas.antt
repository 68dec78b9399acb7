-- The code of an entry: its ranges as spans, and ranges within areas.
use Rattle.std.proofs.Common.{◌≡◌, ℕ, ◌<◌, List, [], ◌++◌, length, get_or, map, true, Result, Ok, Err}
use Rattle.std.proofs.Common.{refl, sym, subst, arith, ltb-true}
use Rattle.std.specs.Prelude.{All, AllPairs}
use Rattle.std.proofs.lemmas.Bool.{and_parts}
use Rattle.std.proofs.lemmas.List.{get_or-map, length-map}
use Rattle.std.proofs.lemmas.List.Elements.{All-map, All-weaker, filter_passes}
use Rattle.dw_ranges.specs.Areas.{Has, IsCovered, IsIn}
use Rattle.dw_ranges.specs.Bounds.{after}
use Rattle.dw_ranges.specs.Live.{AreApart, has_some, is_live, is_within, live_ranges}
use Rattle.dw_ranges.specs.Spans.{Agree, IsSpan}
use Rattle.dw_ranges.specs.declared.fault.RangeFault.{RangeFault}
use Rattle.dw_ranges.specs.declared.range.Range.{Range}
use Rattle.dw_ranges.specs.declared.spans.Span.{Span}

-- a range as that of a function that is not inlined
abbrev pub span_of : Range → Span
span_of r = record { group = 0; low = r.low; high = r.high; function = 0 }

abbrev no_range : Range
no_range = record { low = 0; high = 0 }

pub are_spans : (xs : List Range) → All (λ r. r.low < r.high) xs → All IsSpan (map span_of xs)
are_spans xs some =
    All-map IsSpan span_of xs (λ k d in'. record { some = some k d in'; after = omega arith })

pub apart_from_agree : (xs : List Range) → AllPairs Agree (map span_of xs) → AreApart xs
apart_from_agree xs agree i j d lt in' a p q =
    let f_i = get_or-map span_of xs i d (span_of d) (omega arith) in
    let f_j = get_or-map span_of xs j d (span_of d) in' in
    let both = agree i j (span_of d) lt (omega (arith, length-map xs span_of)) in
    let here =
    subst (λ s. Agree s (span_of (get_or xs j d))) f_i (subst (Agree (get_or (map span_of xs) i (span_of d))) f_j both)
    in
    let same = here refl a p q in (same.1, same.2)

pub agree_from_apart : (xs : List Range) → AreApart xs → AllPairs Agree (map span_of xs)
agree_from_apart xs apart i j e lt in' =
    let within : j < length xs = omega (arith, in', length-map xs span_of) in
    let f_i = get_or-map span_of xs i no_range e (omega arith) in
    let f_j = get_or-map span_of xs j no_range e within in
    let both : Agree (span_of (get_or xs i no_range)) (span_of (get_or xs j no_range)) =
    λ same a p q. (refl, (apart i j no_range lt within a p q).0, (apart i j no_range lt within a p q).1) in
    subst (λ s. Agree s (get_or (map span_of xs) j e)) (sym f_i)
    (subst (Agree (span_of (get_or xs i no_range))) (sym f_j) both)

-- live ranges have addresses
pub live_some : (code ranges : List Range) → All (λ r. r.low < r.high) (live_ranges code ranges)
live_some code ranges =
    All-weaker (λ r. is_live code r ≡ true) (λ r. r.low < r.high)
    (λ r live. ltb-true r.low r.high (and_parts (has_some r) (is_within code r) live).0) (live_ranges code ranges)
    (filter_passes (is_live code) ranges)

-- ranges each of which is covered
pub all_covered : (areas xs : List Range) → ((k : ℕ) (d : Range) → k < length xs → IsCovered areas (get_or xs k d))
    → (a : ℕ) → Has xs a → Has areas a
all_covered areas xs all a h = all h.0 h.1 h.2 a (subst (IsIn a) (sym h.3) h.4)

-- reading after no ranges
pub after_none : (earlier : List Range) → earlier ≡ [] → (r : Result (List Range × ℕ) RangeFault) (items : List Range)
    (bytes : ℕ) → after earlier r ≡ Ok (items, bytes) → r ≡ Ok (items, bytes)
after_none earlier none (Ok x) items bytes e =
    subst (λ (l : List Range). (let r : Result (List Range × ℕ) RangeFault = Ok (l ++ x.0, x.1) in r)
    ≡ Ok (items, bytes)) none e
after_none earlier none (Err fault) items bytes e = absurd (cc)

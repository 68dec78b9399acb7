-- What is known of the entries of a unit: the scopes of those so far, when the areas of one more are appended.
use Rattle.std.proofs.Common.{◌≡◌, ℕ, suc, ◌+◌, ◌-◌, ◌<◌, ◌≤◌, List, [], ◌∷◌, ◌++◌, length, get_or, take, drop, map}
use Rattle.std.proofs.Common.{refl, sym, ap, ◌∙◌, subst, arith, Option, Some, inr, Result, Ok, Err}
use Rattle.std.specs.Prelude.{All, IfErr, IfSome, IsSome, slice_range}
use Rattle.std.proofs.lemmas.List.{drop_at, drop_more, length-append, take-append-le, take_all}
use Rattle.std.proofs.lemmas.List.Elements.{All-head, All-tail, All-push, All-weaker}
use Rattle.std.proofs.lemmas.Slice.{between_is}
use Rattle.dw_forms.specs.declared.fault.Stop.{Stop}
use Rattle.dw_forms.specs.Stops.{IfFault}
use Rattle.dw_forms.specs.declared.fault.Stop.TheVariants.{Fault, Memory}
use Rattle.dw_entries.specs.Entries.{Entry}
use Rattle.dw_ranges.specs.Areas.{AreAreas}
use Rattle.dw_ranges.specs.Functions.{ArePart, IsInside, Known, Refuses, Scope, Takes, group_at, group_with, home}
use Rattle.dw_ranges.specs.Functions.{home_of, known_with, outer, outer_of, outside, scope_at, scope_of, span_in}
use Rattle.dw_ranges.specs.Live.{AreCodeOf}
use Rattle.dw_ranges.specs.Totals.{counted}
use Rattle.dw_ranges.specs.declared.addresses.UnitAddresses.{UnitAddresses}
use Rattle.dw_ranges.specs.declared.bounds.RangeSections.{RangeSections}
use Rattle.dw_ranges.specs.declared.functions.Inside.{Inside}
use Rattle.dw_ranges.specs.declared.range.Range.{Range}
use Rattle.dw_ranges.specs.declared.rule.RangeRule.{RangeRule}
use Rattle.dw_ranges.specs.declared.spans.Span.{Span}
use Rattle.dw_ranges.specs.declared.totals.RangeCounts.{RangeCounts}
use Rattle.dw_ranges.specs.declared.totals.Totals.{Totals}

-- a part of a list, when more is appended
slice_more : (xs ys : List Range) (a b : ℕ) → b ≤ length xs → slice_range (xs ++ ys) a b ≡ slice_range xs a b
slice_more xs ys a b within =
    between_is (xs ++ ys) a b ∙ ap (drop a) (take-append-le b xs ys within) ∙ sym (between_is xs a b)

-- the part that was appended
slice_end : (xs ys : List Range) → slice_range (xs ++ ys) (length xs) (length (xs ++ ys)) ≡ ys
slice_end xs ys =
    ap (take (length (xs ++ ys) - length xs)) (drop_at xs ys (length xs) refl)
    ∙ take_all (length (xs ++ ys) - length xs) ys (omega (arith, length-append xs ys))

module _ (areas more : List Range) (group : ℕ) where
  abbrev last : Inside
  last = record { group = group; first = length areas; end = length (areas ++ more) }

  abbrev added : Scope
  added = record { group = group; areas = more }

  last_scope : scope_of (areas ++ more) last ≡ added
  last_scope =
      ap (λ (l : List Range). (let s : Scope = record { group = group; areas = l } in s)) (slice_end areas more)

  same_scope : (i : Inside) → IsInside areas i → scope_of (areas ++ more) i ≡ scope_of areas i
  same_scope i is =
      ap (λ (l : List Range). (let s : Scope = record { group = i.group; areas = l } in s))
      (slice_more areas more i.first i.end is.within)

  -- the scopes so far stay, and one is added
  pub scopes_more : (inside : List Inside) → All (IsInside areas) inside
      → map (scope_of (areas ++ more)) (inside ++ last ∷ []) ≡ map (scope_of areas) inside ++ added ∷ []
  scopes_more [] all = ap (λ s. s ∷ []) last_scope
  scopes_more (i ∷ is) all =
      ap (λ s. s ∷ map (scope_of (areas ++ more)) (is ++ last ∷ [])) (same_scope i (All-head (IsInside areas) i is all))
      ∙ ap (λ l. scope_of areas i ∷ l) (scopes_more is (All-tail (IsInside areas) i is all))

  pub inside_more : (inside : List Inside) → All (IsInside areas) inside → AreAreas more
      → All (IsInside (areas ++ more)) (inside ++ last ∷ [])
  inside_more inside all are =
      let long = length-append areas more in
      All-push (IsInside (areas ++ more)) inside last
      (All-weaker (IsInside areas) (IsInside (areas ++ more)) (λ i is. record {
        rises = is.rises;
        within = omega (arith, is.within);
        are = subst AreAreas (sym (slice_more areas more i.first i.end is.within)) is.are;
      }) inside all)
      (record {
        rises = omega arith;
        within = omega arith;
        are = subst AreAreas (sym (slice_end areas more)) are;
      })

-- the same of vectors that got longer
module _ (areas areas2 more : List Range) (inside inside2 : List Inside) (group a b : ℕ)
    (all : All (IsInside areas) inside)
    (longer : areas2 ≡ areas ++ more) (pushed : inside2 ≡ inside ++ record { group = group; first = a; end = b } ∷ [])
    (is_a : a ≡ length areas) (is_b : b ≡ length areas2) where
  same_last : inside2 ≡ inside ++ last areas more group ∷ []
  same_last =
      pushed ∙ (λ t. inside ++ record { group = group; first = is_a t; end = (is_b ∙ ap length longer) t } ∷ [])

  pub scopes_pushed : map (scope_of areas2) inside2 ≡ map (scope_of areas) inside ++ added areas more group ∷ []
  scopes_pushed = (λ t. map (scope_of (longer t)) (same_last t)) ∙ scopes_more areas more group inside all

  pub inside_pushed : AreAreas more → All (IsInside areas2) inside2
  inside_pushed are =
      subst (λ (l : List Range). All (IsInside l) inside2) (sym longer)
      (subst (All (IsInside (areas ++ more))) (sym same_last) (inside_more areas more group inside all are))

-- ---- an entry

module _ (sections : RangeSections) (unit : UnitAddresses) (code : List Range) (first number : ℕ) (k : Known)
    (e : Entry)
    (areas : List Range) (left : ℕ) (counts : RangeCounts)
    (are : AreCodeOf sections unit code e k.totals.left areas left counts) where
  abbrev Group : Option ℕ
  Group = group_at sections unit code first k e areas

  abbrev Home : Scope
  Home = home sections unit code first k e

  abbrev Outer : Scope
  Outer = outer sections unit code first k e

  -- the group and the home by what the code has
  pub is_group : (tag : ℕ) (o : Scope) (l : List Range) (r : Option ℕ) → tag ≡ e.head.decl.tag
      → o ≡ outer_of k.scopes first e.parent
      → l ≡ areas → r ≡ group_with tag o l → r ≡ Group
  is_group tag o l r p q s is = is ∙ (λ t. group_with (p t) (q t) (s t))

  pub is_home : (tag : ℕ) (o h : Scope) → tag ≡ e.head.decl.tag → o ≡ outer_of k.scopes first e.parent
      → h ≡ home_of tag (scope_at k.scopes 0) o → h ≡ Home
  is_home tag o h p q is = is ∙ (λ t. home_of (p t) (scope_at k.scopes 0) (q t))

  pub takes_some : (scopes : List Scope) (spans : List Span) (totals : Totals) (group : ℕ) → Group ≡ Some group
      → totals ≡ counted k.totals left counts (Some group) → ArePart areas Home
      → scopes ≡ k.scopes ++ record { group = number + 1; areas = areas } ∷ []
      → spans ≡ k.spans ++ map (span_in group number) areas
      → Takes sections unit code first k number e (record { scopes = scopes; spans = spans; totals = totals })
  takes_some scopes spans totals group some counting part p q =
      let after : Known = record { scopes = scopes; spans = spans; totals = totals } in
      let same : after ≡ known_with k number Outer areas (counted k.totals left counts (Some group)) (Some group) =
      λ t. record { scopes = p t; spans = q t; totals = counting t } in
      record {
        areas = areas;
        left = left;
        counts = counts;
        are = are;
        part = subst (λ (g : Option ℕ). IfSome g (λ _. ArePart areas Home)) (sym some) part;
        is =
            same ∙ ap (λ (g : Option ℕ). known_with k number Outer areas (counted k.totals left counts g) g) (sym some);
      }

  pub refuses_outside : (rule : RangeRule) (at group : ℕ) → Group ≡ Some group → (ArePart areas Home → ⊥)
      → rule ≡ outside e.head.decl.tag → at ≡ e.at
      → Refuses sections unit code first k e (record { rule = rule; at = at })
  refuses_outside rule at group some out p q =
      inr (record {
        areas = areas;
        left = left;
        counts = counts;
        are = are;
        some = subst IsSome (sym some) refl;
        not_part = out;
        is = λ t. record { rule = p t; at = q t };
      })

-- ---- entries

pub slice_step : (xs : List Entry) (k end : ℕ) (d : Entry) → k < end → end ≤ length xs
    → slice_range xs k end ≡ get_or xs k d ∷ slice_range xs (k + 1) end
slice_step xs k end d lt le =
    let e : end - k ≡ suc (end - (k + 1)) = omega arith in
    ap (take (end - k)) (drop_more xs k d (omega arith)) ∙ ap (λ n. take n (get_or xs k d ∷ drop (k + 1) xs)) e

pub fault_then : {F : Type 0} {P Q : F → Type 0} (stop : Stop F) → IfFault P stop → ((f : F) → P f → Q f)
    → IfFault Q stop
fault_then Memory p then = tt
fault_then (Fault f) p then = then f p

pub err_then : {A F : Type 0} {P Q : F → Type 0} (r : Result A (Stop F)) → IfErr r (IfFault P)
    → ((f : F) → P f → Q f) → IfErr r (IfFault Q)
err_then (Ok a) p then = tt
err_then (Err stop) p then = fault_then stop p then

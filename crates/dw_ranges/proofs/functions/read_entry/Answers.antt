use Rattle.std.proofs.Common.{ℕ, ◌++◌, ◌∷◌, [], ◌+◌, List, map, Some, sym, ap, ◌∙◌, subst, refl}
use Rattle.std.specs.Prelude.{slice_range}
use Rattle.std.proofs.lemmas.Bool.{false≢true}
use Rattle.dw_ranges.specs.Areas.{Has}
use Rattle.dw_ranges.specs.Functions.{ArePart, Scope, known_of, outer_of, outside, scope_of, scopes_of, span_in}
use Rattle.dw_ranges.specs.Totals.{counted}
use Rattle.dw_ranges.specs.declared.range.Range.{Range}
use Rattle.dw_ranges.specs.declared.totals.Totals.{Totals}
use Rattle.dw_ranges.proofs.FunctionLemmas.{is_group, is_home, takes_some, refuses_outside}
use Rattle.dw_ranges.proofs.functions.read_entry.Goals as goal

pub returns-then-not-contain-clause-fault : goal.returns-then-not-contain-clause-fault
returns-then-not-contain-clause-fault c =
    let a = c.args in
    let k = known_of a.known.now in
    let all = a.known.now.areas.items in
    let areas = c.code_of_entry.new.ranges.items in
    let left = c.code_of_entry.new.budget in
    let counts = c.in_ok-counts.counts in
    let are = c.in_ok-counts.ensures.found in
    let o = c.outer_of_entry-outer.result in
    let h = c.home_of_entry-home.result in
    let is_outer = c.outer_of_entry-outer.ensures.scope ∙ ap (outer_of k.scopes a.first) c.parent.ensures in
    let group =
    is_group a.sections.now a.unit.now a.code.now a.first a.number k a.entry.now areas left counts are c.tag-tag.result
    (scope_of all o) c.deref.result.now c.group_of_entry.result c.tag-tag.ensures is_outer c.deref.ensures.value
    (c.group_of_entry.ensures (slice_range all o.first o.end)) in
    let home =
    is_home a.sections.now a.unit.now a.code.now a.first a.number k a.entry.now areas left counts are c.tag-tag.result
    (scope_of all o) (scope_of all h) c.tag-tag.ensures is_outer c.home_of_entry-home.ensures.scope in
    refuses_outside a.sections.now a.unit.now a.code.now a.first a.number k a.entry.now areas left counts are
    c.outside.result c.offset.result c.in-Some.group (sym group ∙ c.in-Some.is)
    (λ part.
    let here : ArePart areas (scope_of all h) = subst (ArePart areas) (sym home) part in
    let there = subst (λ (l : List Range). (x : ℕ) → Has l x → Has (slice_range all h.first h.end) x)
    (sym c.deref-3.ensures.value) here in
    let said = subst (λ (l : List Range). (x : ℕ) → Has c.deref-3.result.now x → Has (slice_range l h.first h.end) x)
    (sym c.deref-2.ensures.value) there in
    false≢true (c.if-not-contain.ensures.1 said))
    (c.outside.ensures ∙ ap outside c.tag-tag.ensures) c.offset.ensures

pub returns-clause-found : goal.returns-clause-found
returns-clause-found c =
    let a = c.args in
    let k = known_of a.known.now in
    let all = a.known.now.areas.items in
    let areas = c.code_of_entry.new.ranges.items in
    let left = c.code_of_entry.new.budget in
    let counts = c.in_ok-counts.counts in
    let are = c.in_ok-counts.ensures.found in
    let o = c.outer_of_entry-outer.result in
    let h = c.home_of_entry-home.result in
    let g = c.in-Some.group in
    let is_outer = c.outer_of_entry-outer.ensures.scope ∙ ap (outer_of k.scopes a.first) c.parent.ensures in
    let group =
    is_group a.sections.now a.unit.now a.code.now a.first a.number k a.entry.now areas left counts are c.tag-tag.result
    (scope_of all o) c.deref.result.now c.group_of_entry.result c.tag-tag.ensures is_outer c.deref.ensures.value
    (c.group_of_entry.ensures (slice_range all o.first o.end)) in
    let home =
    is_home a.sections.now a.unit.now a.code.now a.first a.number k a.entry.now areas left counts are c.tag-tag.result
    (scope_of all o) (scope_of all h) c.tag-tag.ensures is_outer c.home_of_entry-home.ensures.scope in
    let said = c.if-not-contain.ensures.0 refl in
    let there = subst (λ (l : List Range). (x : ℕ) → Has c.deref-3.result.now x → Has (slice_range l h.first h.end) x)
    c.deref-2.ensures.value said in
    let here : ArePart areas (scope_of all h) =
    subst (λ (l : List Range). (x : ℕ) → Has l x → Has (slice_range all h.first h.end) x) c.deref-3.ensures.value there
    in
    takes_some a.sections.now a.unit.now a.code.now a.first a.number k a.entry.now areas left counts are
    (scopes_of c.push_inside.new.known) c.push_spans.new.spans.items c.with_entry-after.result g
    (sym group ∙ c.in-Some.is)
    (c.with_entry-after.ensures
    ∙ ap (λ (t : Totals). counted t t.left counts (Some g)) c.in_ok-push_inside.ensures.totals)
    (subst (ArePart areas) home here)
    (c.in_ok-push_inside.ensures.scopes
    ∙ ap (λ (l : List Range). k.scopes ++ (let s : Scope = record { group = a.number + 1; areas = l } in s) ∷ [])
    c.deref-4.ensures.value)
    (c.in_ok-push_spans.ensures ∙ (λ t. c.in_ok-push_inside.ensures.spans t
    ++ map (span_in g a.number) (c.deref-5.ensures.value t)))

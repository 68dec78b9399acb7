use Rattle.std.proofs.Common.{◌≡◌, ◌-◌, ◌^◌, ◌<◌, List, length, sym, ap, ◌∙◌, subst, arith}
use Rattle.std.specs.Prelude.{All, AllPairs, IsPermutation}
use Rattle.std.proofs.lemmas.List.{with_items_is}
use Rattle.std.proofs.lemmas.List.Sorted.{All-permutation}
use Rattle.dw_entries.specs.ByNumber.{entry_of}
use Rattle.dw_entries.specs.Entries.{Entry}
use Rattle.dw_entries.specs.Views.{all_entries}
use Rattle.dw_ranges.specs.Functions.{AreFunctions, Starts, known_of}
use Rattle.dw_ranges.specs.Spans.{Agree, AreOrdered, IsSpan}
use Rattle.dw_ranges.specs.declared.spans.Span.{Span}
use Rattle.dw_ranges.proofs.KnownLemmas.{spans_each, spans_few, spans_within}
use Rattle.dw_ranges.proofs.unit_functions.functions_between.Goals as goal

pub order_spans-requires-clause-each : goal.order_spans-requires-clause-each
order_spans-requires-clause-each c =
    let a = c.args in
    let all = all_entries a.entries.now in
    let e : c.at-entry.result ≡ entry_of all a.first = c.at-entry.ensures ∙ ap (entry_of all) c.id.ensures in
    let start = known_of c.read_first.new.known in
    let known = known_of c.read_entries.new.known in
    let are : AreFunctions a.sections.now a.unit.now a.code.now a.first all a.end a.known.now.totals known = record {
      start = start;
      starts =
          subst (λ (x : Entry). Starts a.sections.now a.unit.now a.code.now x a.known.now.totals start) e
          c.in-Ok.ensures.found;
      reads = c.in-Ok-read_entries.ensures.found;
    } in
    subst (All IsSpan) (sym c.as_mut_slice.ensures.value)
    (spans_each a.sections.now a.unit.now a.code.now a.first all a.end a.known.now.totals known c.requires.some
    c.requires.within are)

pub order_spans-requires-clause-within : goal.order_spans-requires-clause-within
order_spans-requires-clause-within c =
    let a = c.args in
    let all = all_entries a.entries.now in
    let e : c.at-entry.result ≡ entry_of all a.first = c.at-entry.ensures ∙ ap (entry_of all) c.id.ensures in
    let start = known_of c.read_first.new.known in
    let known = known_of c.read_entries.new.known in
    let are : AreFunctions a.sections.now a.unit.now a.code.now a.first all a.end a.known.now.totals known = record {
      start = start;
      starts =
          subst (λ (x : Entry). Starts a.sections.now a.unit.now a.code.now x a.known.now.totals start) e
          c.in-Ok.ensures.found;
      reads = c.in-Ok-read_entries.ensures.found;
    } in
    subst (All (λ (s : Span). s.function < length all)) (sym c.as_mut_slice.ensures.value)
    (spans_within a.sections.now a.unit.now a.code.now a.first all a.end a.known.now.totals known c.requires.some
    c.requires.within are)

pub returns-in-Ok-order_spans-clause-few : goal.returns-in-Ok-order_spans-clause-few
returns-in-Ok-order_spans-clause-few c =
    let a = c.args in
    let all = all_entries a.entries.now in
    let e : c.at-entry.result ≡ entry_of all a.first = c.at-entry.ensures ∙ ap (entry_of all) c.id.ensures in
    let start = known_of c.read_first.new.known in
    let known = known_of c.read_entries.new.known in
    let are : AreFunctions a.sections.now a.unit.now a.code.now a.first all a.end a.known.now.totals known = record {
      start = start;
      starts =
          subst (λ (x : Entry). Starts a.sections.now a.unit.now a.code.now x a.known.now.totals start) e
          c.in-Ok.ensures.found;
      reads = c.in-Ok-read_entries.ensures.found;
    } in
    let P : Span → Type 0 = λ s. s.function < 2 ^ 64 - 1 in
    subst (All P) (sym (with_items_is c.read_entries.new.known.spans c.order_spans.new.spans
    (omega (arith, c.order_spans.auto.spans, c.as_mut_slice.ensures.len))))
    (All-permutation P c.as_mut_slice.result.now c.order_spans.new.spans c.order_spans.ensures.permutation
    (subst (All P) (sym c.as_mut_slice.ensures.value)
    (spans_few a.sections.now a.unit.now a.code.now a.first all a.end a.known.now.totals known c.requires.some
    c.requires.within are (omega arith))))

pub returns-in-Ok-order_spans-clause-found : goal.returns-in-Ok-order_spans-clause-found
returns-in-Ok-order_spans-clause-found c =
    let a = c.args in
    let all = all_entries a.entries.now in
    let e : c.at-entry.result ≡ entry_of all a.first = c.at-entry.ensures ∙ ap (entry_of all) c.id.ensures in
    let start = known_of c.read_first.new.known in
    let k = c.read_entries.new.known in
    let known = known_of k in
    let are : AreFunctions a.sections.now a.unit.now a.code.now a.first all a.end a.known.now.totals known = record {
      start = start;
      starts =
          subst (λ (x : Entry). Starts a.sections.now a.unit.now a.code.now x a.known.now.totals start) e
          c.in-Ok.ensures.found;
      reads = c.in-Ok-read_entries.ensures.found;
    } in
    let sorted = with_items_is k.spans c.order_spans.new.spans
    (omega (arith, c.order_spans.auto.spans, c.as_mut_slice.ensures.len)) in
    let done = c.in-Ok-order_spans.ensures in
    let value = c.as_mut_slice.ensures.value in
    record {
      spans = k.spans.items;
      are = are;
      same = subst (IsPermutation k.spans.items) (sym sorted)
          (subst (λ (l : List Span). IsPermutation l c.order_spans.new.spans) value done.permutation);
      agree = subst (AllPairs Agree) value done.agree;
      ordered = subst AreOrdered (sym sorted) done.ordered;
    }

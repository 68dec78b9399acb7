use Rattle.std.proofs.Common.{◌≡◌, ◌∙◌, List, None, ap, arith, subst, sym}
use Rattle.std.specs.Prelude.{IsPermutation}
use Rattle.std.proofs.lemmas.List.{with_items_is}
use Rattle.dw_addresses.specs.Index.{AreLive, IsIndex, reaches_from}
use Rattle.dw_lines.specs.Rows.{Run, program_run}
use Rattle.dw_lines.specs.Sequences.{Ascend}
use Rattle.dw_lines.specs.declared.row.Row.{Row}
use Rattle.dw_addresses.specs.declared.sequence.Sequence.{Sequence}
use Rattle.dw_addresses.proofs.IndexLemmas.{is_index}
use Rattle.dw_lines.proofs.RowLaws.{program_good}
use Rattle.dw_addresses.proofs.line_index.LineIndex.new.Goals as goal

pub invariant_of-result : goal.invariant_of-result
invariant_of-result c =
    let code = c.args.code.now in
    let rows = c.in_ok-rows.rows.items in
    let found = c.in_ok-sequences.sequences.items in
    let ordered = c.order.new.sequences in
    let reaches = c.in_ok-reaches.reaches.items in
    let rows_are : rows ≡ (program_run c.args.program).rows = sym (ap (λ (r : Run). r.rows) c.in_ok-rows.ensures.rows)
    in
    let whole = with_items_is c.in_ok-sequences.sequences ordered
    (omega (arith, c.order.auto.sequences, c.as_mut_slice.ensures.len)) in
    let live = subst (λ (xs : List Row). AreLive code xs found) c.deref.ensures.value c.in_ok-sequences.ensures in
    let moved = subst (λ (xs : List Sequence). IsPermutation xs ordered) c.as_mut_slice.ensures.value
    c.order.ensures.permutation in
    let up = subst (Ascend None) (sym rows_are) (program_good c.args.program).ascend in
    record {
      rows_are = rows_are;
      indexed = subst (λ (xs : List Sequence). IsIndex code rows xs reaches) (sym whole)
          (is_index code rows found ordered reaches live up moved c.order.ensures.sorted
          (c.in_ok-reaches.ensures ∙ ap (reaches_from 0) (c.deref-2.ensures.value ∙ whole)));
    }

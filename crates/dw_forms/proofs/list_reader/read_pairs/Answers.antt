use Rattle.std.proofs.Common.{arith, sym, ap, ◌∙◌, [], Some, None}
use Rattle.std.proofs.lemmas.Result.{err_from_is_err_and}
use Rattle.dw_forms.specs.AbbrevReading.{pair_at}
use Rattle.dw_forms.proofs.ListStarts.{end_list, kept_list, some_end, pairs_break, pair_read}
use Rattle.dw_forms.proofs.OffsetLaws.{along_push, new_push}
use Rattle.dw_forms.proofs.list_reader.read_pairs.Goals as goal

pub overflow_sub-end : goal.overflow_sub-end
overflow_sub-end c =
    let some = c.if-first-ne0.true in
    let begins = c.find-first.ensures.begins (omega arith) in
    some_end _ _ c.args.starts.now.starts.items c.args.ends.now
    _ _ _ c.requires.placed begins c.ends_up_to.ensures

pub returns-then-first-ne0-clause-leads : goal.returns-then-first-ne0-clause-leads
returns-then-first-ne0-clause-leads c =
    let some = c.if-first-ne0.true in
    let begins = c.find-first.ensures.begins (omega arith) in
    record {
      next = _;
      along = c.loop-bytes.invariant.along;
      new = c.loop-bytes.invariant.new;
      list =
          kept_list _ _ c.args.starts.now.starts.items c.args.ends.now
          _ _ _ c.requires.placed begins (omega arith)
          c.ends_up_to.ensures (record { before = 0; end = 0 });
    }

pub returns-in_err-item-clause-fault : goal.returns-in_err-item-clause-fault
returns-in_err-item-clause-fault c =
    let i = c.loop-bytes.invariant in
    let e = err_from_is_err_and c.from_residual.result c.from_residual.ensures.1 in
    rw (e.1, e.2) (pairs_break _ _ _ _ i.along c.in_err-item.field-0.0
    (sym (ap (pair_at []) i.rest) ∙ c.in_err-item.ensures.exact))

pub returns-in_default-clause-leads : goal.returns-in_default-clause-leads
returns-in_default-clause-leads c =
    let i = c.loop-bytes.invariant in
    let is = pair_read c.args.section.now _ _ None i.rest (rw c.in_default.is at c.in_ok-item.ensures.exact) in
    record {
      next = _;
      along = i.along;
      new = i.new;
      list =
          end_list _ _ _ _ is.0 (omega (arith, i.within, c.in_ok-item.ensures.shorter))
          (omega (arith, i.within, c.in_ok-item.ensures.shorter));
    }

pub loop-bytes-preserved : goal.loop-bytes-preserved
loop-bytes-preserved c =
    let i = c.loop-bytes.invariant in
    let none = c.if-first-ne0.false in
    let nothing = c.find-first.ensures.none (omega arith) c.args.offset c.requires.known (omega (arith, i.within)) in
    let is = pair_read c.args.section.now _ _ (Some c.in-Some.item) i.rest
    (rw c.in-Some.is at c.in_ok-item.ensures.exact) in
    record {
      within = omega (arith, i.within, c.in_ok-item.ensures.shorter);
      rest = is.1;
      along =
          rw c.in_ok-push.ensures.items (along_push _ _ _ _ _ _ i.along
          (record {
            is = is.0;
            rises = omega (arith, i.within, c.in_ok-item.ensures.shorter);
            fits = omega (arith, i.within, c.in_ok-item.ensures.shorter);
          }));
      new = rw c.in_ok-push.ensures.items (new_push c.args.starts.now.starts.items _ _ i.new nothing);
    }

use Rattle.std.proofs.Common.{rules, ℕ, sym, subst, arith}
use Rattle.std.proofs.lemmas.List.{length-set}
use Rattle.dw_entries.proofs.StartSteps.{HaveStarts, may_start, read_past, start_all, start_more, start_none}
use Rattle.dw_entries.proofs.starts.read_starts.Goals as goal

pub loop-number-init : goal.loop-number-init
loop-number-init c = record {
  have =
      subst (HaveStarts c.args.records.now c.args.base 0)
      (sym (c.in_ok-blocks.ensures.items_if_clones_equal (search rules)))
      (start_none c.args.records.now c.args.base _);
  long = search rules;
}

pub overflow_sub-at : goal.overflow_sub-at
overflow_sub-at c =
    let (is, low, past) = read_past c.index-records-number.result c.loop-number-test.true c.requires.order in
    past

pub index-requires : goal.index-requires
index-requires c =
    let (is, low, past) = read_past c.index-records-number.result c.loop-number-test.true c.requires.order in
    omega (arith, low, past, c.loop-number.invariant.long)

pub with-requires-clause-next : goal.with-requires-clause-next
with-requires-clause-next c =
    let (is, low, past) = read_past c.index-records-number.result c.loop-number-test.true c.requires.order in
    may_start _ c.requires.order is c.loop-number.invariant.have
    (omega (arith, low, past, c.loop-number.invariant.long))
    c.index.result.now c.index.ensures

pub index_mut-requires : goal.index_mut-requires
index_mut-requires c =
    let (is, low, past) = read_past c.index-records-number.result c.loop-number-test.true c.requires.order in
    omega (arith, low, past, c.loop-number.invariant.long)

pub loop-number-preserved : goal.loop-number-preserved
loop-number-preserved c =
    let (is, low, past) = read_past c.index-records-number.result c.loop-number-test.true c.requires.order in
    record {
      have =
          start_more _ c.requires.order is c.loop-number.invariant.have
          (omega (arith, low, past, c.loop-number.invariant.long))
          c.index.result.now c.index.ensures c.with.result c.with.ensures;
      long = search (rules, length-set);
    }

pub returns : goal.returns
returns c =
    let P : ℕ → Type 0 = λ n. HaveStarts c.args.records.now c.args.base n c.loop-number.blocks.items in
    start_all c.args.records.now c.args.base c.loop-number.blocks.items
    (subst P (omega (arith, c.loop-number-test.false, c.loop-number.auto)) c.loop-number.invariant.have)

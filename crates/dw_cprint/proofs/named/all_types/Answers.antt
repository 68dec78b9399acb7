use Rattle.std.proofs.Common.{◌≡◌, ◌++◌, ◌∙◌, ap, ℕ, List, arith}
use Rattle.dw_cprint.specs.EntryShapes.{subject_in}
use Rattle.dw_cprint.specs.Steps.{entries_among, first_steps, types_declared}
use Rattle.dw_cprint.proofs.ListingLemmas.{entry-there, kept-there, lines-more}
use Rattle.dw_cprint.proofs.ReachLemmas.{entries-append}
use Rattle.dw_cprint.proofs.named.all_types.Goals as goal

pub index-kind-requires : goal.index-kind-requires
index-kind-requires c = omega (arith, c.requires.kinds.long, c.loop-k-test.true, c.len-k-end.ensures)

pub put_types_of-requires-clause-id : goal.put_types_of-requires-clause-id
put_types_of-requires-clause-id c =
    (entry-there c.loop-k.k c.index-id.result.now
    c.requires.named (omega (arith, c.loop-k-test.true, c.len-k-end.ensures)) c.index-id.ensures).0

pub put_types_of-requires-clause-kind : goal.put_types_of-requires-clause-kind
put_types_of-requires-clause-kind c =
    kept-there c.loop-k.k c.index-id.result.now c.index-kind.result.now c.requires.kinds
    (omega (arith, c.loop-k-test.true, c.len-k-end.ensures)) c.index-id.ensures c.index-kind.ensures

pub loop-k-preserved : goal.loop-k-preserved
loop-k-preserved c =
    let f : ℕ → List ℕ = λ id. first_steps (subject_in c.args.image.now id) in
    let types = c.loop-k.types.items in
    let id = c.index-id.result.now in
    let more : entries_among c.put_types_of.new.types.items
    ≡ entries_among types ++ f id = ap entries_among c.in_ok-put_types_of.ensures
    ∙ entries-append types (types_declared (subject_in c.args.image.now id)) in
    lines-more f (entries_among types) _ _ c.args.named.now.ids.items c.loop-k.k id more
    (omega (arith, c.loop-k-test.true, c.len-k-end.ensures)) c.index-id.ensures c.loop-k.invariant

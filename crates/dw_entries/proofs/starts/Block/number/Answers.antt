use Rattle.std.proofs.Common.{sym, arith}
use Rattle.dw_entries.proofs.StartLaws.{none_if_unset, some_fits, some_if_set}
use Rattle.dw_entries.proofs.starts.Block.number.Goals as goal

pub returns-then-self-bit-eq0 : goal.returns-then-self-bit-eq0
returns-then-self-bit-eq0 c = sym (none_if_unset c.args.self c.args.byte c.requires.byte c.if-self-bit-eq0.true)

pub overflow_add-result : goal.overflow_add-result
overflow_add-result c =
    let few = some_fits _ _ (some_if_set c.args.self c.args.byte c.requires.byte c.if-self-bit-eq0.false)
    c.requires.fits in
    omega (arith, few)

pub returns : goal.returns
returns c = sym (some_if_set c.args.self c.args.byte c.requires.byte c.if-self-bit-eq0.false)

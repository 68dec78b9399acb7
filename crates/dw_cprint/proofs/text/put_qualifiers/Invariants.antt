use Rattle.std.proofs.Common.{◌≡◌, ◌++◌, drop}
use Rattle.dw_cprint.specs.Tokens.{text_of}
use Rattle.dw_cprint.specs.Writing.{qualifying}
use Rattle.dw_cprint.proofs.text.put_qualifiers.Given as goal

abbrev pub invariant-loop-qualifier : goal.invariant-loop-qualifier
invariant-loop-qualifier l =
    l.out.items ++ text_of (qualifying (drop l.qualifier-index l.qualifiers))
    ≡ l.fn.out.items ++ text_of (qualifying l.qualifiers)

use Rattle.std.proofs.Common.{◌≡◌, ◌++◌, drop}
use Rattle.dw_cprint.specs.Declarators.{pointer_row}
use Rattle.dw_cprint.specs.Tokens.{text_of}
use Rattle.dw_cprint.proofs.text.put_joined.Given as goal

abbrev pub invariant-loop-i : goal.invariant-loop-i
invariant-loop-i l =
    l.out.items ++ text_of (pointer_row (drop l.i l.qualifiers) l.inside)
    ≡ l.fn.out.items ++ text_of (pointer_row l.qualifiers l.inside)

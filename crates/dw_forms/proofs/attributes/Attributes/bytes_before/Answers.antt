use Rattle.std.proofs.Common.{rules, arith}
use Rattle.dw_forms.proofs.NodeLaws.{addresses_less}
use Rattle.dw_forms.proofs.PlaceTurns.{sum_here, are_together}
use Rattle.dw_forms.proofs.attributes.Attributes.bytes_before.Goals as goal

pub known-requires-clause-within : goal.known-requires-clause-within
known-requires-clause-within c = addresses_less _ _ c.in_ok-here.ensures.known.knows

pub overflow_sub-known : goal.overflow_sub-known
overflow_sub-known c =
    omega (
      arith,
      c.known.ensures,
      c.known-2.ensures,
      sum_here _ _ _ c.requires _
          c.in_ok-here.ensures.known,
    )

pub returns : goal.returns
returns c = search (rules, are_together)

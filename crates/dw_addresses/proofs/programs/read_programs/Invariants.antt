use Rattle.dw_addresses.specs.Reading.{AreKept}
use Rattle.dw_addresses.proofs.programs.read_programs.Given as goal

abbrev pub invariant-loop-one : goal.invariant-loop-one
invariant-loop-one l = AreKept l.sections l.code l.entries l.named l.one-index l.lines l.last

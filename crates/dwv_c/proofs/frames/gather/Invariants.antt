use Rattle.std.proofs.Common.{take}
use Rattle.dwv_c.specs.FrameState.{IsAllOf, gathered_arrays}
use Rattle.dwv_c.proofs.frames.gather.Given as goal

abbrev pub invariant-loop-address : goal.invariant-loop-address
invariant-loop-address l = IsAllOf l.known (take l.address-index l.addresses) (gathered_arrays l.gathered)

use Rattle.std.proofs.Common.{◌≡◌, length}
use Rattle.dw_forms.specs.Offsets.{AreEntered}
use Rattle.dw_forms.proofs.offsets.enter.Given as goal

abbrev pub invariant-loop-place : goal.invariant-loop-place
invariant-loop-place l = record {
  long : length l.numbers ≡ length l.fn.numbers;
  entered : AreEntered l.place l.starts l.numbers;
}

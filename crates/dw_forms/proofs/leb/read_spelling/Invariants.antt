use Rattle.std.proofs.Common.{◌≡◌, ◌^◌, ◌<◌, ◌≤◌, drop}
use Rattle.dw_forms.specs.LebReading.{spelling_from}
use Rattle.dw_forms.proofs.leb.read_spelling.Given as goal

abbrev pub invariant-loop-place : goal.invariant-loop-place
invariant-loop-place l =
    record {
      short : l.place ≤ 9;
      small : l.sum < 128 ^ l.place;
      same : spelling_from l.place l.sum (drop l.place l.bytes) ≡ spelling_from 0 0 l.bytes;
    }

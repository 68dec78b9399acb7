use Rattle.dwv_c.specs.Frames.{memory}
use Rattle.dwv_c.specs.FrameState.{gathered_arrays}
use Rattle.dwv_c.proofs.FrameLemmas.{puts_known}
use Rattle.dwv_c.proofs.exports.put_known.Goals as goal

pub returns-in-Ok : goal.returns-in-Ok
returns-in-Ok c bytes within is =
    puts_known bytes _ _ (gathered_arrays c.in-Ok.gathered) _ _ _ _ _ _ _ within is c.in-Ok.ensures
    c.put_gathered.ensures c.put_frame_counts.ensures.counts c.put_frame_counts.ensures.verdict

pub returns-in-Err : goal.returns-in-Err
returns-in-Err c bytes within is = memory

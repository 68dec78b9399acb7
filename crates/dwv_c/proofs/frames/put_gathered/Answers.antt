use Rattle.dwv_c.specs.Frames.{short}
use Rattle.dwv_c.specs.FrameState.{gathered_arrays}
use Rattle.dwv_c.proofs.FrameLemmas.{fills_whole}
use Rattle.dwv_c.proofs.frames.put_gathered.Goals as goal

pub returns-then-not-is_room : goal.returns-then-not-is_room
returns-then-not-is_room c = short (rw c.if-not-is_room.true at c.is_room.ensures.none)

pub returns : goal.returns
returns c =
    let g = c.args.gathered.now in
    fills_whole (gathered_arrays g) c.args.located.now c.put_over.new.array c.deref.result.now c.args.frames.now
    c.put_over-2.new.array c.deref-2.result.now c.args.text.now c.put_over-3.new.array c.deref-3.result.now
    (rw c.if-not-is_room.false at c.is_room.ensures.room) c.deref.ensures.value c.put_over.ensures
    c.deref-2.ensures.value c.put_over-2.ensures c.deref-3.ensures.value c.put_over-3.ensures

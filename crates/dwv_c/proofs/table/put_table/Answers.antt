use Rattle.dwv_c.specs.Tables.{memory, short, sound, whole}
use Rattle.dwv_c.proofs.table.put_table.Goals as goal

pub returns-then-not-is_room : goal.returns-then-not-is_room
returns-then-not-is_room c g is held =
    rw (c.put_counts.ensures.counts, c.put_counts.ensures.verdict)
    (sound _ _ _ is (short (rw c.if-not-is_room.true at c.is_room.ensures.none)))

pub returns-then-not-put_rows : goal.returns-then-not-put_rows
returns-then-not-put_rows c g is held =
    let same = rw c.if-not-put_rows.true at c.put_rows.ensures.none in rw (same.0, same.1, same.2) memory

pub returns : goal.returns
returns c g is held =
    rw (c.put_counts-2.ensures.counts, c.put_counts-2.ensures.verdict)
    (sound _ _ _ is (whole _ _ held (rw c.if-not-is_room.false at c.is_room.ensures.room)
    (rw c.if-not-put_rows.false at c.put_rows.ensures.whole)))

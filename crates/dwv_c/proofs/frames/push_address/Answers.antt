use Rattle.std.proofs.Common.{◌≡◌, ap, length, rules}
use Rattle.dwv_c.specs.Frames.{with_unit}
use Rattle.dwv_c.proofs.FrameLemmas.{located_more}
use Rattle.dwv_c.proofs.frames.push_address.Goals as goal

pub returns : goal.returns
returns c =
    let unit = c.in_ok-unit.unit in
    let found = with_unit unit c.deref.result.now in
    let more = c.in_ok-push_found.ensures in
    let first : c.len-first.result ≡ length c.args.gathered.now.frames.items = search rules in
    let count : c.len.result ≡ length c.push_found.new.gathered.frames.items = search rules in (
      found,
      located_more c.args.known.now found c.args.gathered.now c.push_found.new.gathered more c.len-first.result
          c.len.result first count c.push.new.self.items c.in_ok-push.ensures.items,
      more.frames,
      more.text,
      λ units index.
          record {
            unit = unit;
            frames = c.frames_at.new.frames.items;
            are = c.in_ok-unit.ensures units index;
            is = ap (with_unit unit) c.deref.ensures.value;
          },
    )

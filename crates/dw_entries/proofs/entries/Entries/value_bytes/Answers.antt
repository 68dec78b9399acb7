use Rattle.std.proofs.Common.{arith}
use Rattle.dw_entries.proofs.KeptLaws.{kept_entry, at_within, never_unread}
use Rattle.dw_entries.proofs.PlacedLaws.{follow_code}
use Rattle.dw_entries.proofs.entries.Entries.value_bytes.Goals as goal

pub slice_bounds-read_code-count : goal.slice_bounds-read_code-count
slice_bounds-read_code-count c =
    let kept = kept_entry c.args.self.now.scanned c.args.id c.requires.id in
    omega (arith, at_within kept c.args.kept c.requires.kept)

pub slice_bounds-read_code-start : goal.slice_bounds-read_code-start
slice_bounds-read_code-start c =
    let kept = kept_entry c.args.self.now.scanned c.args.id c.requires.id in
    omega (arith, at_within kept c.args.kept c.requires.kept)

pub unreachable-requires : goal.unreachable-requires
unreachable-requires c =
    let kept = kept_entry c.args.self.now.scanned _ c.requires.id in
    never_unread kept _ c.requires.kept _ c.in-Err.ensures

pub returns : goal.returns
returns c =
    let kept = kept_entry c.args.self.now.scanned _ c.requires.id in
    follow_code kept _ c.requires.kept _ _ c.in-Ok.ensures

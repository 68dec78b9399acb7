use Rattle.std.proofs.Common.{rules, arith}
use Rattle.std.proofs.lemmas.Option.{slice_get_within}
use Rattle.dw_entries.proofs.KeptLaws.{kept_entry, header_is}
use Rattle.dw_entries.proofs.entry.EntryAt.new.Goals as goal

pub index-requires : goal.index-requires
index-requires c =
    let kept = kept_entry c.args.entries.now.scanned c.args.id c.requires.id in
    omega (arith, slice_get_within c.args.entries.now.units.items _ kept.unit_record kept.is_unit_record)

pub at_with-requires-clause-header : goal.at_with-requires-clause-header
at_with-requires-clause-header c = search (rules, kept_entry, header_is)

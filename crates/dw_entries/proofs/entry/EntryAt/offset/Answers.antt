use Rattle.std.proofs.Common.{ap}
use Rattle.dw_entries.specs.declared.records.Record.{Record}
use Rattle.dw_entries.proofs.KeptLaws.{kept_entry, record_is}
use Rattle.dw_entries.proofs.entry.EntryAt.offset.Goals as goal

pub returns : goal.returns
returns c =
    let it = c.self.inside in
    let kept = kept_entry it.entries.now.scanned it.id c.self.invariant.0 in
    rw (← c.self.view_is) (ap (λ (r : Record). r.at) (record_is kept it.kept c.self.invariant.1))

use Rattle.std.proofs.Common.{rules, ap}
use Rattle.dw_entries.specs.declared.records.Record.{Record}
use Rattle.dw_entries.proofs.KeptLaws.{kept_entry, record_is}
use Rattle.dw_entries.proofs.entry.EntryAt.head.Goals as goal

pub returns : goal.returns
returns c =
    let it = c.self.inside in
    let kept = kept_entry it.entries.now.scanned it.id c.self.invariant.0 in
    let is = record_is kept it.kept c.self.invariant.1 in
    let at = ap (λ (r : Record). r.at) is in
    let parent = ap (λ (r : Record). r.parent) is in
    let next = ap (λ (r : Record). r.next) is in
    rw (← c.self.view_is) (search (rules, at, parent, next))

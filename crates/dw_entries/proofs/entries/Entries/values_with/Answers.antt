use Rattle.std.proofs.Common.{rules, ◌≡◌, ◌+◌, ◌-◌, ap, arith, length, length-append}
use Rattle.dw_entries.specs.ByNumber.{entry_of}
use Rattle.dw_entries.specs.Views.{all_entries}
use Rattle.dw_entries.proofs.KeptLaws.{kept_entry}
use Rattle.dw_entries.proofs.LeftLaws.{left_here, placed_here, sized_here, values_here}
use Rattle.dw_entries.proofs.PlacedLaws.{rest_after}
use Rattle.dw_entries.proofs.entries.Entries.values_with.Goals as goal

pub invariant_of-result : goal.invariant_of-result
invariant_of-result c =
    let kept = kept_entry c.args.self.now.scanned _ c.requires.id in
    let bytes = c.value_bytes.result.now in
    let f = c.value_bytes.ensures in
    record {
      sized =
          sized_here kept _ _ bytes _ c.requires.header c.requires.specs (f.rest, f.spelled) c.version.ensures;
      left =
          left_here kept _ _ bytes _ c.requires.header c.requires.specs (f.rest, f.spelled) c.version.ensures;
      rest = rest_after _ f.before bytes f.parts;
    }

pub returns-clause-values : goal.returns-clause-values
returns-clause-values c = search (rules, kept_entry, values_here)

pub returns-clause-left : goal.returns-clause-left
returns-clause-left c =
    let kept = kept_entry c.args.self.now.scanned _ c.requires.id in
    let info = c.args.self.now.sections.info.now in
    let bytes = c.value_bytes.result.now in
    let f = c.value_bytes.ensures in
    let e = entry_of (all_entries c.args.self.now) c.args.id in
    let start : length info - length bytes ≡ e.at + length e.head.code =
    omega (arith, ap length f.parts, length-append f.before bytes) in
    search (placed_here kept _ _ bytes _ c.requires.header
    c.requires.specs (f.rest, f.spelled) c.version.ensures (length info - length bytes) start)

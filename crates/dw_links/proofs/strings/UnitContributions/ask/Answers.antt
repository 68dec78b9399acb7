use Rattle.std.proofs.Common.{◌≡◌, ◌∙◌, None, ◌≢◌}
use Rattle.dw_entries.specs.Header.{version_of}
use Rattle.dw_links.specs.Strings.{BaseFails}
use Rattle.dw_links.proofs.RuleGroups.{least_under, none_of}
use Rattle.dw_links.proofs.strings.UnitContributions.ask.Goals as goal

pub returns-in-SecOffset : goal.returns-in-SecOffset
returns-in-SecOffset c =
    rw c.in-SecOffset.is (least_under (c.args.head.now.parent ≡ None) (version_of c.args.self.now.head.header.kind ≢ 4)
    (BaseFails c.args.self.now.sections c.args.self.now.head.header c.args.attribute c.in-SecOffset.base)
    c.ask_base.result
    (none_of c.args.head.now.parent c.if-is_none.ensures) (λ four. c.if-version-ne4.true (c.version.ensures ∙ four))
    c.ask_base.ensures)

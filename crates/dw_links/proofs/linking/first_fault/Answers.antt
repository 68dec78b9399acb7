use Rattle.std.proofs.Common.{rules, ◌∙◌}
use Rattle.dw_entries.specs.Views.{sections_of, units_of}
use Rattle.dw_links.proofs.RuleGroups.{string_first, reference_first}
use Rattle.dw_links.proofs.linking.first_fault.Goals as goal

pub returns-then-group-eq3 : goal.returns-then-group-eq3
returns-then-group-eq3 c = search (rules, string_first)

pub strings_first-requires : goal.strings_first-requires
strings_first-requires c = record {
  holds =
      rw c.into_fault-fault.ensures.holds (reference_first (sections_of c.args.entries.now)
      (units_of c.args.entries.now) c.args.broken c.requires (λ is. c.if-group-eq3.false (c.group.ensures ∙ is)));
  cycle = c.into_fault-fault.ensures.cycle;
}

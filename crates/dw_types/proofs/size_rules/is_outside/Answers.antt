use Rattle.std.proofs.Common.{sym, ◌∙◌}
use Rattle.dw_types.specs.Held.{units_held}
use Rattle.dw_types.specs.SizeTables.{size_at}
use Rattle.dw_types.proofs.SizeRuleLemmas.{not-outside}
use Rattle.dw_types.proofs.size_rules.is_outside.Goals as goal

pub returns-then-not-ends_past-clause-outside : goal.returns-then-not-ends_past-clause-outside
returns-then-not-ends_past-clause-outside c =
    sym (not-outside (units_held c.args.entries.now) (size_at c.args.sizes.now) c.args.id c.in-Some.bytes
    (rw c.parent.ensures.parent at (sym c.get_to.ensures ∙ c.in-Some.is))
    (rw (c.get_to-size.ensures, c.type_target.ensures.target, c.requires.member) at (sym c.ends_past.ensures
    ∙ c.if-not-ends_past.true)))

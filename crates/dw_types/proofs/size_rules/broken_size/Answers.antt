use Rattle.std.proofs.Common.{◌≡◌, false, sym, ◌∙◌}
use Rattle.dw_forms.specs.Codes.{is_type_tag}
use Rattle.dw_types.specs.Held.{units_held}
use Rattle.dw_types.specs.Entries.{entry_in}
use Rattle.dw_types.specs.SizeTables.{size_at}
use Rattle.dw_types.proofs.SizeRuleLemmas.{untyped-breaks, untyped-passes}
use Rattle.dw_types.proofs.size_rules.broken_size.Goals as goal

pub returns-then-branch-clause-least : goal.returns-then-branch-clause-least
returns-then-branch-clause-least c =
    let untyped : is_type_tag (entry_in (units_held c.args.entries.now) c.args.id).head.decl.tag ≡ false =
    rw c.at-entry.ensures.found at (sym c.is_type.ensures ∙ c.if-is_type.false) in
    untyped-breaks (units_held c.args.entries.now) (size_at c.args.sizes.now) c.args.id c.requires.lines
    c.requires.places.node_in
    untyped
    (rw c.at-entry.ensures.same at (sym c.in_ok-is_outside.ensures.outside ∙ c.if-branch.true))

pub returns-clause-least : goal.returns-clause-least
returns-clause-least c =
    let untyped : is_type_tag (entry_in (units_held c.args.entries.now) c.args.id).head.decl.tag ≡ false =
    rw c.at-entry.ensures.found at (sym c.is_type.ensures ∙ c.if-is_type.false) in
    untyped-passes (units_held c.args.entries.now) (size_at c.args.sizes.now) c.args.id c.requires.lines
    c.requires.places.node_in
    untyped
    (rw c.at-entry.ensures.same at (sym c.in_ok-is_outside.ensures.outside ∙ c.if-branch.false))

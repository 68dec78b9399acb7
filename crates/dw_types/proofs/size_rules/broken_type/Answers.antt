use Rattle.std.proofs.Common.{sym, ◌∙◌}
use Rattle.dw_types.specs.Held.{units_held}
use Rattle.dw_types.specs.SizeTables.{size_at}
use Rattle.dw_types.proofs.SizeRuleLemmas.{great-least, sized-line, type-none, wrong-least}
use Rattle.dw_types.proofs.size_rules.broken_type.Goals as goal

pub lacks_size-requires-clause-size : goal.lacks_size-requires-clause-size
lacks_size-requires-clause-size c =
    sized-line (units_held c.args.entries.now) (size_at c.args.sizes.now) c.args.id c.get-size.result
    (c.get-size.ensures ∙ c.requires.lines c.args.id c.requires.places.node_in)

pub returns-then-is_too_great : goal.returns-then-is_too_great
returns-then-is_too_great c =
    great-least (units_held c.args.entries.now) (size_at c.args.sizes.now) c.args.id
    (sym c.lacks_size.ensures ∙ c.if-lacks_size.false)
    (rw c.get-size.ensures at (sym c.is_too_great.ensures ∙ c.if-is_too_great.true))

pub returns-then-has_wrong_size : goal.returns-then-has_wrong_size
returns-then-has_wrong_size c =
    wrong-least (units_held c.args.entries.now) (size_at c.args.sizes.now) c.args.id
    (rw c.requires.entry at c.requires.typed)
    (sym c.lacks_size.ensures ∙ c.if-lacks_size.false)
    (rw c.get-size.ensures at (sym c.is_too_great.ensures ∙ c.if-is_too_great.false))
    (sym c.has_wrong_size.ensures ∙ c.if-has_wrong_size.true)

pub returns : goal.returns
returns c =
    type-none (units_held c.args.entries.now) (size_at c.args.sizes.now) c.args.id
    (rw c.requires.entry at c.requires.typed)
    (sym c.lacks_size.ensures ∙ c.if-lacks_size.false)
    (rw c.get-size.ensures at (sym c.is_too_great.ensures ∙ c.if-is_too_great.false))
    (sym c.has_wrong_size.ensures ∙ c.if-has_wrong_size.false)

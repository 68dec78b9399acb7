use Rattle.std.proofs.Common.{rules, ◌≡◌, Some, sym, ap, ◌∙◌, eqb-true, refl, arith}
use Rattle.dw_entries.specs.Views.{units_of}
use Rattle.dw_types.proofs.SiblingLemmas.{first_behind, no_first, none_behind}
use Rattle.dw_types.proofs.children.first_child.Goals as goal
use Rattle.dw_types.proofs.children.first_child.Goals.{in_default-via-in-Some+else-eq, in_default-via-in_default}

pub returns-then-number-count-clause-children : goal.returns-then-number-count-clause-children
returns-then-number-count-clause-children c = search (rules, none_behind)

pub returns-in-Some-clause-children : goal.returns-in-Some-clause-children
returns-in-Some-clause-children c =
    first_behind (units_of c.args.entries.now) c.args.id c.id-behind.result
    (omega (arith, c.id-behind.ensures, c.number-number.ensures))

pub returns-in-Some-clause-linked : goal.returns-in-Some-clause-linked
returns-in-Some-clause-linked c = λ x is.
    let same : c.id-behind.result ≡ x = cc in
    rw (← same) (
      omega (arith, c.id-behind.ensures, c.count.ensures, c.if-number-count.false),
      sym c.parent.ensures
          ∙ c.in-Some.is ∙ ap Some (eqb-true c.in-Some.above c.args.id (sym c.eq.ensures ∙ c.if-eq.true)),
    )

pub returns-in_default-clause-children : goal.returns-in_default-clause-children
returns-in_default-clause-children c =
    sym (no_first (units_of c.args.entries.now) c.args.id c.id-behind.result
    (omega (arith, c.id-behind.ensures, c.number-number.ensures))
    (omega (arith, c.id-behind.ensures, c.count.ensures, c.if-number-count.false))
    (elim c.in_default.branch [
      | in_default-via-in-Some+else-eq w ↦ rw (← c.parent.ensures, w.in-Some.is) (sym w.eq.ensures ∙ w.if-eq.false)
      | in_default-via-in_default w ↦ rw (← c.parent.ensures, w.in_default.is) refl
    ]))

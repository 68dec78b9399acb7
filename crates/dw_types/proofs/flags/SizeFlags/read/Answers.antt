use Rattle.std.proofs.Common.{rules, ◌≡◌, ◌∙◌, true, false, ℕ, List, ap, length, refl, sym}
use Rattle.dw_forms.specs.Codes.{is_type_tag}
use Rattle.dw_types.specs.Entries.{entry_in}
use Rattle.dw_types.specs.Held.{entries_held, units_held}
use Rattle.dw_types.specs.StepFlags.{is_leaf}
use Rattle.dw_types.specs.Steps.{steps_by_value}
use Rattle.dw_types.proofs.SizeFlagLemmas.{is_member, tells-more, untyped-leaf}
use Rattle.dw_types.proofs.flags.SizeFlags.read.Goals as goal
use Rattle.dw_types.proofs.flags.SizeFlags.read.Goals.{then-is_type+in_ok-push_row, else-is_type, then-is_type-2, else-is_type-2}

pub loop-node-preserved : goal.loop-node-preserved
loop-node-preserved c =
    let us = units_held c.args.entries.now in
    let count = length (entries_held c.args.entries.now) in
    let node = c.loop-node.node in
    let before = c.loop-node.invariant in
    let tag = (entry_in us node).head.decl.tag in
    let decl = rw (before.same, c.id-id.ensures) at c.decl-decl.ensures in
    let is : c.is_type.result ≡ is_type_tag tag = c.is_type.ensures ∙ ap (λ d. is_type_tag d.tag) decl in
    let again : c.is_type-in-loop-node.result ≡ is_type_tag tag =
    c.is_type-in-loop-node.ensures ∙ ap (λ d. is_type_tag d.tag) decl in
    let member : c.eq.result ≡ is_member us node = search rules in
    let first : (units_held c.if-is_type.entries ≡ us)
    × (is_type_tag tag ≡ true → c.if-is_type.row ≡ steps_by_value us node) = elim c.if-is_type.branch [
      | then-is_type+in_ok-push_row w ↦ (
        rw w.entries-is (w.in_ok-push_row.ensures.same ∙ before.same),
        λ typed. w.row-is
            ∙ (rw (before.same, c.id-id.ensures, c.in_ok-row.ensures) at w.in_ok-push_row.ensures.steps),
      )
      | else-is_type w ↦ (
        rw w.entries-is before.same,
        λ typed. let untyped : is_type_tag tag ≡ false = sym is ∙ w.if-is_type.false in absurd (cc),
      )
    ] in
    let leaf : c.if-is_type-2.set_if ≡ is_leaf us node = elim c.if-is_type-2.branch [
      | then-is_type-2 w ↦
          let typed : is_type_tag tag ≡ true = sym again ∙ w.if-is_type-2.true in
          let long : w.len.result ≡ length (steps_by_value us node) =
          w.len.ensures ∙ ap (λ (row : List ℕ). length row) (first.1 typed) in
          w.set_if-is ∙ rw (long, typed) refl
      | else-is_type-2 w ↦
          w.set_if-is ∙ (w.if-is_type-2.false ∙ sym (untyped-leaf us node (sym again ∙ w.if-is_type-2.false)))
    ] in
    record {
      same = first.0;
      leaves =
          tells-more count (is_leaf us) c.loop-node.leaves c.set_if.new.self node c.if-is_type-2.set_if before.leaves
          leaf c.set_if.ensures.room c.set_if.ensures.set;
      members =
          tells-more count (is_member us) c.loop-node.members c.set_if-in-loop-node.new.self node c.eq.result
          before.members member c.set_if-in-loop-node.ensures.room c.set_if-in-loop-node.ensures.set;
    }

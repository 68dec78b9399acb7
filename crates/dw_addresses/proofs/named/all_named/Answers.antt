use Rattle.std.proofs.Common.{◌+◌, ap, ◌∙◌, subst, sym}
use Rattle.dw_addresses.specs.Reading.{AllNamed}
use Rattle.dw_addresses.proofs.NamedLemmas.{none_named, one_named}
use Rattle.dw_addresses.proofs.named.all_named.Goals as goal
use Rattle.dw_addresses.proofs.named.all_named.Goals.{in-Some+in_ok-push, in_default}

pub loop-number-preserved : goal.loop-number-preserved
loop-number-preserved c =
    let entries = c.args.entries.now in
    let n = c.loop-number.number in
    let before = c.loop-number.named.items in
    let named = c.match-named_by.named.items in
    elim c.match-named_by.branch [
      | in-Some+in_ok-push w ↦
          let new = w.in-Some.one in
          subst (AllNamed entries (n + 1)) (sym (ap (λ v. v.items) w.named-is ∙ w.in_ok-push.ensures.items))
          (one_named before entries n new c.loop-number.invariant w.in-Some.ensures.0 w.in-Some.ensures.1)
      | in_default w ↦
          subst (AllNamed entries (n + 1)) (sym (ap (λ v. v.items) w.named-is))
          (none_named before entries n c.loop-number.invariant w.in_default.ensures)
    ]

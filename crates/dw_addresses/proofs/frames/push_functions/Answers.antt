use Rattle.std.proofs.Common.{◌∙◌, Some, ap, arith, length, ◌<◌}
use Rattle.dw_entries.specs.Views.{all_entries}
use Rattle.dw_addresses.specs.declared.frame.Place.{Place}
use Rattle.dw_addresses.proofs.FrameLemmas.{next_place, one_frame}
use Rattle.dw_addresses.proofs.frames.push_functions.Goals as goal

pub loop-k-preserved : goal.loop-k-preserved
loop-k-preserved c =
    let a = c.args in
    let all = all_entries a.entries.now in
    let l = c.loop-k in
    let below : l.k < length a.functions.now = omega arith in (
      c.in_ok-push.ensures.items
          ∙ one_frame all a.row a.functions.now l.k below a.frames.now.items l.frames.items l.place l.invariant.0
          l.invariant.1,
      ap (λ (p : Place). Some p) c.call_place.ensures ∙ next_place all a.row a.functions.now l.k below,
    )

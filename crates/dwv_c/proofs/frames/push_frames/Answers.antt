use Rattle.std.proofs.Common.{[], ◌∷◌, List, ◌++◌, length, map, take, get_or, None, ap, sym, ◌∙◌}
use Rattle.dw_addresses.specs.declared.frame.Frame.{Frame}
use Rattle.dwv_c.specs.Frames.{LocatedFrame, frame_rows, of_unit, texts_of}
use Rattle.dwv_c.proofs.FrameLemmas.{row_more, text_more, unit_more}
use Rattle.dwv_c.proofs.frames.push_frames.Goals as goal

pub loop-frame-preserved : goal.loop-frame-preserved
loop-frame-preserved c =
    let known = c.args.known.now in
    let unit = c.args.unit in
    let frames = c.args.frames.now in
    let l = c.loop-frame in
    let k = l.frame-index in
    let no_frame : Frame = record { function = None; place = None } in
    let xs = map (of_unit unit) (take k frames) in
    let f = of_unit unit (get_or frames k no_frame) in
    let next = sym (unit_more unit frames k no_frame c.loop-frame-test.true) in
    let rows = row_more known l.rows.items c.args.rows.now.items l.text.items c.args.text.now.items xs f
    l.invariant.0 l.invariant.1 in
    let text = text_more known l.text.items c.args.text.now.items c.frame_row.new.text.items xs f l.invariant.1
    c.in_ok-row.ensures.text in (
      c.in_ok-push.ensures.items
          ∙ ap (λ r. l.rows.items ++ r ∷ []) c.in_ok-row.ensures.row
          ∙ rows
          ∙ ap (λ (ys : List LocatedFrame). c.args.rows.now.items ++ frame_rows known (length c.args.text.now.items) ys)
          next,
      text ∙ ap (λ (ys : List LocatedFrame). c.args.text.now.items ++ texts_of known ys) next,
    )

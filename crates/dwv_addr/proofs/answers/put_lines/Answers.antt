use Rattle.std.proofs.Common.{◌++◌, List, ℕ, ap, ◌∙◌, append_assoc, rules}
use Rattle.std.specs.Prelude.{codes}
use Rattle.std.specs.List.{flat_map}
use Rattle.dwv_addr.specs.Located.{lines_at}
use Rattle.dwv_addr.proofs.answers.put_lines.Goals as goal

pub returns : goal.returns
returns c =
    let known = c.args.known.now in
    let before = c.args.text.now.items in
    let frames = flat_map (lines_at known c.args.unit) c.args.frames.now in
    let whole = ap (λ (text : List ℕ). text ++ codes "\n") c.in_ok-put_frames.ensures.ok
    ∙ append_assoc before frames (codes "\n") in
    search rules

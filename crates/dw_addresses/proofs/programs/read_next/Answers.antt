use Rattle.std.proofs.Common.{◌-◌, Some, ap, ◌∙◌, refl}
use Rattle.std.specs.Vec.{with_item}
use Rattle.dw_addresses.specs.declared.lines.FileLines.{FileLines}
use Rattle.dw_addresses.proofs.NextLemmas.{next_new, next_same}
use Rattle.dw_addresses.proofs.programs.read_next.Goals as goal
use Rattle.dw_addresses.proofs.programs.read_next.Goals.{then-not-is_same+in-Ok, else-not-is_same}

pub returns-clause-next : goal.returns-clause-next
returns-clause-next c =
    let a = c.args in
    let read = c.if-not-is_same.lines in
    let new_last = c.if-not-is_same.last in
    let new : FileLines = record {
      programs = read.programs;
      of_unit = with_item read.of_unit a.one.unit (Some (c.len.result - 1));
    } in
    let long = c.len.ensures ∙ read.programs.ok.0 in
    let after = c.starts_inside.ensures.after c.if-starts_inside.false in
    elim c.if-not-is_same.branch [
      | then-not-is_same+in-Ok w ↦
          let found = w.in-Ok.ensures.found in
          next_new a.sections.now a.code.now a.one a.last.now new_last a.lines.now read new c.len.result after
          c.requires.unit long refl refl found.0 (w.last-is ∙ w.in-Ok.ensures.last) found.1
          (ap (λ (x : FileLines). x.programs.items) w.lines-is ∙ found.2)
          (ap (λ (x : FileLines). x.of_unit) w.lines-is ∙ w.in-Ok.ensures.of_unit)
      | else-not-is_same w ↦
          next_same a.sections.now a.code.now a.one a.last.now new_last a.lines.now read new c.len.result after
          c.requires.unit long refl refl (c.is_same.ensures.same w.if-not-is_same.false) w.last-is w.lines-is
          c.requires.last c.requires.size
    ]

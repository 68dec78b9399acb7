use Rattle.std.proofs.Common.{ℕ, sym, ap, ◌∙◌}
use Rattle.dw_forms.specs.Value.{view}
use Rattle.dw_entries.specs.Entries.{placed}
use Rattle.dw_image.specs.Images.{entries_in, units_in}
use Rattle.dw_links.specs.Targets.{reach_of}
use Rattle.dwv_c.proofs.ValueLemmas.{has_target}
use Rattle.dwv_c.proofs.values.Resolver.reference.Goals as goal

pub unreachable-requires : goal.unreachable-requires
unfolding units_in
unreachable-requires c =
    has_target c.args.self.now.image.now c.args.unit (view c.args.value.now) c.requires.value c.requires.reference
    (sym c.in-None.is ∙ rw c.scanned.ensures at c.reach.ensures)

pub returns : goal.returns
unfolding units_in
returns c end e in_unit =
    let i = c.args.self.now.image.now in
    rw c.number.ensures
    (ap (λ (unit : ℕ). reach_of (entries_in i) (placed (units_in i)) unit (view c.args.value.now)) in_unit
    ∙ sym (rw c.scanned.ensures at c.reach.ensures) ∙ c.in-Some.is)

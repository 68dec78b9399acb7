use Rattle.std.proofs.Common.{◌∙◌, ap}
use Rattle.dw_forms.specs.Abbrev.{Declaration}
use Rattle.dw_forms.specs.KeptDecls.{decl_view}
use Rattle.dw_entries.specs.Lookups.{value_in}
use Rattle.dw_entries.proofs.KeptLaws.{kept_entry}
use Rattle.dw_entries.proofs.LeftLaws.{sized_here, left_here, values_here}
use Rattle.dw_entries.proofs.PassLaws.{answers_left, never_answers}
use Rattle.dw_entries.proofs.entry.EntryAt.find_value.Goals as goal

pub value-requires : goal.value-requires
value-requires c =
    let it = c.self.inside in
    let kept = kept_entry it.entries.now.scanned it.id c.self.invariant.0 in
    let specs = (decl_view it.decl).attributes in
    sized_here kept it.header specs _ _ c.self.invariant.3 (ap (λ (d : Declaration). d.attributes) c.self.invariant.2)
    (c.value_bytes-bytes.ensures.rest, c.value_bytes-bytes.ensures.spelled) c.version-version.ensures

pub unreachable-requires : goal.unreachable-requires
unreachable-requires c =
    let it = c.self.inside in
    let kept = kept_entry it.entries.now.scanned it.id c.self.invariant.0 in
    let specs = (decl_view it.decl).attributes in
    let left = left_here kept it.header specs _ _ c.self.invariant.3
    (ap (λ (d : Declaration). d.attributes) c.self.invariant.2)
    (c.value_bytes-bytes.ensures.rest, c.value_bytes-bytes.ensures.spelled) c.version-version.ensures in
    never_answers _ specs _ left _ _ c.in-Err.ensures

pub returns : goal.returns
returns c =
    let it = c.self.inside in
    let kept = kept_entry it.entries.now.scanned it.id c.self.invariant.0 in
    let specs = (decl_view it.decl).attributes in
    let of_specs = ap (λ (d : Declaration). d.attributes) c.self.invariant.2 in
    let f = c.value_bytes-bytes.ensures in
    let left = left_here kept it.header specs _ _ c.self.invariant.3
    of_specs (f.rest, f.spelled) c.version-version.ensures in
    let is = answers_left _ specs _ left _ _ c.in-Ok.ensures in
    let same = values_here kept it.header specs _ _ c.self.invariant.3
    of_specs (f.rest, f.spelled) c.version-version.ensures left in
    rw (← c.self.view_is) (is ∙ ap (λ vs. value_in vs c.args.attribute) same)

use Rattle.dw_forms.specs.Suffixes.{specs_in}
use Rattle.dw_image.specs.Images.{units_in}
use Rattle.dwv_c.proofs.CountLemmas.{counted_all, specs_told}
use Rattle.dwv_c.proofs.table.count_entry.Goals as goal

pub returns : goal.returns
unfolding units_in
returns c =
    counted_all c.args.image.now c.args.id c.count.result (specs_in c.attributes.result) c.requires c.count.ensures
    (specs_told c.args.image.now c.scanned.result.now c.args.id (specs_in c.attributes.result) c.decl.result
    c.scanned.ensures c.decl.ensures c.attributes.ensures.specs)

use Rattle.std.proofs.Common.{◌∙◌, ap, sym, Some}
use Rattle.dw_forms.specs.declared.abbrev.AttributeSpec.{AttributeSpec}
use Rattle.dw_forms.proofs.SpecLaws.{spec_read}
use Rattle.dw_forms.proofs.decl.Decls.spec.Goals as goal

pub returns : goal.returns
returns c = spec_read _ _ _ c.requires c.index.ensures ∙ ap (λ (spec : AttributeSpec). Some spec) (sym c.spec.ensures)

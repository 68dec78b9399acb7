use Rattle.dw_forms.specs.Formats.{apart, one_fault}
use Rattle.dw_forms.specs.BaseFormats.{sleb}
use Rattle.dw_forms.proofs.laws.signed_numbers_are_apart.Goals as goal

pub returns-clause-apart : goal.returns-clause-apart
returns-clause-apart c = apart sleb

pub returns-clause-one_fault : goal.returns-clause-one_fault
returns-clause-one_fault c = one_fault sleb

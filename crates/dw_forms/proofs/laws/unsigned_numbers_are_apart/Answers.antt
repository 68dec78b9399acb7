use Rattle.dw_forms.specs.Formats.{apart, one_fault}
use Rattle.dw_forms.specs.BaseFormats.{uleb}
use Rattle.dw_forms.proofs.laws.unsigned_numbers_are_apart.Goals as goal

pub returns-clause-apart : goal.returns-clause-apart
returns-clause-apart c = apart uleb

pub returns-clause-one_fault : goal.returns-clause-one_fault
returns-clause-one_fault c = one_fault uleb

use Rattle.dw_forms.specs.Formats.{apart, one_fault}
use Rattle.dw_forms.specs.ValueFormats.{attribute_value}
use Rattle.dw_forms.proofs.laws.values_are_apart.Goals as goal

pub returns-clause-apart : goal.returns-clause-apart
returns-clause-apart c = λ version form size. apart (attribute_value version form size)

pub returns-clause-one_fault : goal.returns-clause-one_fault
returns-clause-one_fault c = λ version form size. one_fault (attribute_value version form size)

use Rattle.dw_forms.specs.Value.{view}
use Rattle.dw_forms.specs.ValueFormats.{attribute_value}
use Rattle.dw_forms.proofs.SpellingSteps.{found_by, none_by, fails_by}
use Rattle.dw_forms.proofs.value_reader.read_value.Goals as goal

pub returns-clause-found : goal.returns-clause-found
returns-clause-found c =
    found_by (attribute_value c.args.version c.args.form c.args.address_size) view c.args.bytes.now c.read_any.result
    c.read_any.ensures.within c.read_any.ensures.exact

pub returns-clause-none : goal.returns-clause-none
returns-clause-none c =
    none_by (attribute_value c.args.version c.args.form c.args.address_size) view c.args.bytes.now c.read_any.result
    c.read_any.ensures.exact

pub returns-clause-fault : goal.returns-clause-fault
returns-clause-fault c =
    fails_by (attribute_value c.args.version c.args.form c.args.address_size) view c.args.bytes.now c.read_any.result
    c.read_any.ensures.exact

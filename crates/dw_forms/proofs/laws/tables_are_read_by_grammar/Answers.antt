use Rattle.std.proofs.Common.{◌≡◌, Some, refl}
use Rattle.dw_forms.specs.declared.form.Form.TheVariants as form
use Rattle.dw_forms.specs.FormCodes.{Form, bare, code_of, form_of}
use Rattle.dw_forms.proofs.TableLaws.{table_by_grammar}
use Rattle.dw_forms.proofs.laws.tables_are_read_by_grammar.Goals as goal

pub returns-clause-tables : goal.returns-clause-tables
returns-clause-tables c = table_by_grammar

form_of-code_of : (f : Form) → form_of (code_of f) ≡ Some (bare f)
unfolding form_of
form_of-code_of (form.ImplicitConst number) = refl
form_of-code_of _ = refl

pub returns-clause-forms : goal.returns-clause-forms
returns-clause-forms c = form_of-code_of

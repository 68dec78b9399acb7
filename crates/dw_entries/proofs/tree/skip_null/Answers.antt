use Rattle.std.proofs.Common.{rules, sym, ◌∙◌}
use Rattle.dw_forms.specs.WithBytes.{ok_pair}
use Rattle.dw_forms.specs.Readers.{not_both}
use Rattle.dw_entries.proofs.NullLaws.{no_null}
use Rattle.dw_entries.proofs.tree.skip_null.Goals as goal

pub returns-else-code-eq0-clause-other : goal.returns-else-code-eq0-clause-other
returns-else-code-eq0-clause-other c = no_null c.args.rest.now (λ after e.
    let code = (ok_pair _ 0 _ after (sym c.in-Ok.ensures ∙ e)).0 in search (rules))

pub returns-in-Err-clause-other : goal.returns-in-Err-clause-other
returns-in-Err-clause-other c = no_null c.args.rest.now (λ after e. not_both (sym c.in-Err.ensures ∙ e))

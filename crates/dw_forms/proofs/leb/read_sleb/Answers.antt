use Rattle.dw_forms.specs.BaseFormats.{sleb}
use Rattle.dw_forms.specs.LebLaws.{signed}
use Rattle.dw_forms.proofs.SpellingSteps.{found_by, none_by, fails_by, number_read, number_within}
use Rattle.dw_forms.proofs.leb.read_sleb.Goals as goal

pub returns-clause-found : goal.returns-clause-found
returns-clause-found c =
    found_by sleb (λ v. v) _ _
    (number_within signed _ _ c.sleb.ensures)
    (number_read signed _ _ c.sleb.ensures)

pub returns-clause-none : goal.returns-clause-none
returns-clause-none c = none_by sleb (λ v. v) _ _ (number_read signed _ _ c.sleb.ensures)

pub returns-clause-fault : goal.returns-clause-fault
returns-clause-fault c = fails_by sleb (λ v. v) _ _ (number_read signed _ _ c.sleb.ensures)

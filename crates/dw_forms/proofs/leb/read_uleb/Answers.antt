use Rattle.dw_forms.specs.BaseFormats.{uleb}
use Rattle.dw_forms.specs.LebLaws.{unsigned}
use Rattle.dw_forms.proofs.SpellingSteps.{found_by, none_by, fails_by, number_read, number_within}
use Rattle.dw_forms.proofs.leb.read_uleb.Goals as goal

pub returns-clause-found : goal.returns-clause-found
returns-clause-found c =
    found_by uleb (λ v. v) _ _
    (number_within unsigned _ _ c.uleb.ensures)
    (number_read unsigned _ _ c.uleb.ensures)

pub returns-clause-none : goal.returns-clause-none
returns-clause-none c = none_by uleb (λ v. v) _ _ (number_read unsigned _ _ c.uleb.ensures)

pub returns-clause-fault : goal.returns-clause-fault
returns-clause-fault c = fails_by uleb (λ v. v) _ _ (number_read unsigned _ _ c.uleb.ensures)

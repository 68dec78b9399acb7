use Rattle.std.proofs.Common.{arith}
use Rattle.dw_cprint.specs.Declarations.{declaration_of}
use Rattle.dw_cprint.specs.Refusals.{TooDeep, deep}
use Rattle.dw_cprint.proofs.LegibleLemmas.{subject_some, subject_legible}
use Rattle.dw_cprint.proofs.TextLaws.{one_text}
use Rattle.dw_cprint.proofs.laws.declared_if_not_refused.Goals as goal

pub returns-clause-there : goal.returns-clause-there
unfolding declaration_of
returns-clause-there c =
    λ shapes subject none. subject_some 65 shapes subject (λ rule below holds. none rule (omega arith) holds)
    (λ path. none TooDeep (omega arith) (deep path))

pub returns-clause-legible : goal.returns-clause-legible
unfolding declaration_of
returns-clause-legible c =
    λ shapes subject none. subject_legible 65 shapes subject none

pub returns-clause-one : goal.returns-clause-one
unfolding declaration_of
returns-clause-one c =
    λ shapes subject none d another e legible text. one_text another d legible
    (subject_legible 65 shapes subject none d e) text

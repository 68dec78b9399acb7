use Rattle.std.proofs.Common.{◌≡◌, ℕ, List, ◌++◌, take}
use Rattle.dw_ranges.specs.Files.{IsIndexOf}
use Rattle.dw_ranges.specs.Functions.{Known}
use Rattle.dwv_addr.specs.Located.{AreAnswers}
use Rattle.dwv_addr.proofs.answers.put_answers.Given as goal

abbrev pub invariant-loop-question : goal.invariant-loop-question
invariant-loop-question l =
    (answer : List ℕ) × (l.text.items ≡ l.fn.text.items ++ answer)
    × ((units : List Known) → IsIndexOf units l.known.functions
    → AreAnswers l.json l.known units (take l.question-index l.asked) answer)

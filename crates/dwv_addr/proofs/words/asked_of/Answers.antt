use Rattle.std.proofs.Common.{map, ap, ◌∙◌}
use Rattle.std.proofs.lemmas.Result.{IfOk-weaker}
use Rattle.dwv_addr.specs.Addresses.{address_in}
use Rattle.dwv_addr.proofs.WordLemmas.{asked_none, asked_some}
use Rattle.dwv_addr.proofs.words.asked_of.Goals as goal

pub returns-in-Some : goal.returns-in-Some
returns-in-Some c =
    IfOk-weaker c.addresses_of.result _ _
    (λ found is. is ∙ ap (map address_in) (asked_some c.args.matches.now _ c.in-Some.ensures)) c.addresses_of.ensures

pub returns-in-None : goal.returns-in-None
returns-in-None c = c.new.ensures.items ∙ ap (map address_in) (asked_none c.args.matches.now c.in-None.ensures)

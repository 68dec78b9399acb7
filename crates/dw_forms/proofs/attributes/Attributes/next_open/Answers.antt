use Rattle.std.proofs.Common.{◌∙◌, arith}
use Rattle.dw_forms.specs.Classes.{is_open}
use Rattle.dw_forms.proofs.SuffixLaws.{number_is_within, none_from}
use Rattle.dw_forms.proofs.attributes.Attributes.next_open.Goals as goal

pub new-requires : goal.new-requires
new-requires c =
    let within = number_is_within is_open c.args.self.now in
    omega (arith, c.in-Some.ensures.known.knows.next_open)

pub returns-in-Some : goal.returns-in-Some
returns-in-Some c =
    record { nodes = c.new.ensures.lists; first = c.new.ensures.first ∙ c.in-Some.ensures.known.knows.next_open }

pub returns-in-None : goal.returns-in-None
returns-in-None c = none_from is_open _ c.in-None.ensures.first c.in-None.ensures.none

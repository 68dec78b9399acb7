use Rattle.std.proofs.Common.{rules, ap, arith}
use Rattle.dw_forms.specs.Chains.{items_of}
use Rattle.dw_forms.proofs.SuffixLaws.{first_ends}
use Rattle.dw_forms.proofs.attributes.Attributes.split_first.Goals as goal

pub new-requires : goal.new-requires
new-requires c =
    let less = c.in-Some.ensures.known.next in
    let within = c.args.self.now.within in
    omega arith

pub returns-in-Some : goal.returns-in-Some
returns-in-Some c = search (rules, first_ends)

pub returns-in-None : goal.returns-in-None
returns-in-None c = ap items_of c.in-None.ensures.none

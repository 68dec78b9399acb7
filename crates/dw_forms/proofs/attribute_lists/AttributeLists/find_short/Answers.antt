use Rattle.std.proofs.Common.{rules, refl, arith, eqb-true}
use Rattle.std.proofs.lemmas.Bool.{eqb-false}
use Rattle.dw_forms.proofs.ChainLaws.{chain_none}
use Rattle.dw_forms.proofs.NodeLaws.{node_read}
use Rattle.dw_forms.proofs.ShortLists.{found_here, found_later, one_less, none_left}
use Rattle.dw_forms.proofs.attribute_lists.AttributeLists.find_short.Goals as goal

pub loop-turn-init : goal.loop-turn-init
loop-turn-init c = record { within = c.requires.list; few = omega arith; same = refl }

pub returns-then-number-eq0 : goal.returns-then-number-eq0
returns-then-number-eq0 c = search (rules, none_left, chain_none)

pub index-node-requires : goal.index-node-requires
index-node-requires c =
    let within = c.loop-turn.invariant.within in omega arith

pub returns-then-eq : goal.returns-then-eq
returns-then-eq c = search (rules, node_read, found_here, eqb-true)

pub loop-turn-preserved : goal.loop-turn-preserved
loop-turn-preserved c = search (rules, node_read, one_less, found_later, eqb-false)

pub returns : goal.returns
returns c = search (rules, none_left)

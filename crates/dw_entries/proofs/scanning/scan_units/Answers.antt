use Rattle.std.proofs.Common.{rules, length, sym, ◌∙◌}
use Rattle.std.proofs.lemmas.Bool.{eqb-true}
use Rattle.dw_entries.proofs.ScanLaws.{upto_start, upto_few_entries, rest_start, rest_next, rest_fewer, rest_end}
use Rattle.dw_entries.proofs.scanning.scan_units.Goals as goal

pub loop-rest-init : goal.loop-rest-init
loop-rest-init c =
    rest_start _ _ _ _ c.requires.base (upto_start _ _ _ _ (c.new.ensures.tables c.args.section.now)
    c.new-2.ensures.items c.new-3.ensures.items)

pub take_unit-requires-clause-few_entries : goal.take_unit-requires-clause-few_entries
take_unit-requires-clause-few_entries c = search (rules, upto_few_entries)

pub loop-rest-smaller : goal.loop-rest-smaller
loop-rest-smaller c = search (rules, rest_fewer)

pub loop-rest-preserved : goal.loop-rest-preserved
loop-rest-preserved c = rest_next _ _ _ c.loop-rest.rest.now _ _ _ c.loop-rest.invariant c.in_ok-taken.ensures.unit

pub returns-clause-all : goal.returns-clause-all
returns-clause-all c =
    rest_end _ _ _ c.loop-rest.rest.now _
    c.loop-rest.invariant (eqb-true (length c.loop-rest.rest.now) 0 (sym c.is_empty.ensures ∙ c.loop-rest-test.false))

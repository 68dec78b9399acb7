use Rattle.std.proofs.Common.{sym, subst, arith}
use Rattle.dw_ranges.specs.Files.{AreRead}
use Rattle.dw_ranges.specs.Functions.{known_of}
use Rattle.dw_ranges.specs.declared.totals.Totals.{Totals}
use Rattle.dw_ranges.proofs.FileLemmas.{read_fails, read_more, read_none}
use Rattle.dw_ranges.proofs.FunctionLemmas.{fault_then}
use Rattle.dw_ranges.proofs.file_reader.read_units.Goals as goal

pub loop-number-init : goal.loop-number-init
loop-number-init c =
    let a = c.args in
    let t = a.tables.now in
    subst (λ (x : Totals). AreRead a.sections.now a.code.now a.entries.now a.budget 0 x t.all.items
    t.spans.items t.parts.items) (sym c.new-known.ensures.totals)
    (read_none a.sections.now a.code.now a.entries.now a.budget t.all.items t.spans.items t.parts.items
    c.requires.all c.requires.parts)

pub returns-in-Err-clause-fault : goal.returns-in-Err-clause-fault
returns-in-Err-clause-fault c =
    let a = c.args in
    let t = c.loop-number.tables in
    fault_then c.in-Err.stop c.in-Err.ensures.fault (λ f violates.
    read_fails a.sections.now a.code.now a.entries.now a.budget c.loop-number.number c.loop-number.known.totals
    t.all.items t.spans.items t.parts.items f c.loop-number.invariant (omega arith) violates)

pub loop-number-preserved : goal.loop-number-preserved
loop-number-preserved c =
    let a = c.args in
    let t = c.loop-number.tables in
    let k = known_of c.functions_of_unit.new.known in
    let after = c.add_unit.new.tables in
    let added = c.in_ok-add_unit.ensures in
    read_more a.sections.now a.code.now a.entries.now a.budget c.loop-number.number c.loop-number.known.totals
    t.all.items t.spans.items t.parts.items k after.all.items after.spans.items after.parts.items
    c.loop-number.invariant c.in-Ok.ensures.found c.in-Ok.ensures.few added.all added.spans added.parts

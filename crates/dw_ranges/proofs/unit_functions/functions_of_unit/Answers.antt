use Rattle.std.proofs.Common.{ℕ, subst, arith}
use Rattle.dw_entries.specs.Views.{all_entries}
use Rattle.dw_ranges.specs.EntryRanges.{head_in}
use Rattle.dw_ranges.specs.Functions.{AreInOrder, IsViolated, known_of}
use Rattle.dw_ranges.proofs.FunctionLemmas.{err_then}
use Rattle.dw_ranges.proofs.UnitLemmas.{entries_within, some_entries}
use Rattle.dw_ranges.proofs.UnitRangeLemmas.{on_ok}
use Rattle.dw_ranges.proofs.unit_functions.functions_of_unit.Goals as goal

pub functions_between-requires-clause-some : goal.functions_between-requires-clause-some
functions_between-requires-clause-some c =
    omega (
      arith,
      c.range-first.ensures.first,
      c.range-first.ensures.end,
      some_entries c.args.entries.now c.args.number
          c.requires.number,
    )

pub functions_between-requires-clause-within : goal.functions_between-requires-clause-within
functions_between-requires-clause-within c =
    omega (arith, c.range-first.ensures.end, entries_within c.args.entries.now c.args.number c.requires.number)

pub returns-clause-found : goal.returns-clause-found
returns-clause-found c =
    let a = c.args in
    let u = c.of_unit-unit.result in
    let all = all_entries a.entries.now in
    let r = c.range-first.result in
    let k = known_of c.functions_between.new.known in
    on_ok c.functions_between.result c.functions_between.ensures.found (λ p. record {
      unit = u;
      addresses = c.of_unit-unit.ensures;
      are = subst (λ (e : ℕ). AreInOrder a.sections.now u a.code.now (head_in a.entries.now a.number).first all e
          a.known.now.totals k) c.range-first.ensures.end
          (subst (λ (f : ℕ). AreInOrder a.sections.now u a.code.now f all r.1 a.known.now.totals k)
          c.range-first.ensures.first p);
    })

pub returns-clause-fault : goal.returns-clause-fault
returns-clause-fault c =
    let a = c.args in
    let u = c.of_unit-unit.result in
    let all = all_entries a.entries.now in
    let r = c.range-first.result in
    err_then c.functions_between.result c.functions_between.ensures.fault (λ fault p. record {
      unit = u;
      addresses = c.of_unit-unit.ensures;
      is = subst (λ (e : ℕ). IsViolated a.sections.now u a.code.now (head_in a.entries.now a.number).first all e
          a.known.now.totals fault) c.range-first.ensures.end
          (subst (λ (f : ℕ). IsViolated a.sections.now u a.code.now f all r.1 a.known.now.totals fault)
          c.range-first.ensures.first p);
    })

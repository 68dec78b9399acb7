use Rattle.std.proofs.Common.{List, sym, subst}
use Rattle.std.proofs.lemmas.Option.{IfSome_then}
use Rattle.dw_ranges.specs.UnitRanges.{UnitHas}
use Rattle.dw_ranges.specs.declared.unit_ranges.UnitRange.{UnitRange}
use Rattle.dw_ranges.proofs.FileLemmas.{some_unit}
use Rattle.dw_ranges.proofs.SpanLemmas.{none_then}
use Rattle.dw_ranges.proofs.file.FileFunctions.unit_at.Goals as goal

pub returns-clause-found : goal.returns-clause-found
returns-clause-found c = λ units index.
    IfSome_then c.unit_at.result c.unit_at.ensures.found (λ number has.
    (index.first c.args.address number).0
    (subst (λ (l : List UnitRange). UnitHas l c.args.address number) c.deref.ensures.value has))

pub returns-clause-none : goal.returns-clause-none
returns-clause-none c = λ units index.
    none_then c.unit_at.result c.unit_at.ensures.none (λ none number has.
    let u = some_unit units c.args.address number has in
    none u.0
    (subst (λ (l : List UnitRange). UnitHas l c.args.address u.0) (sym c.deref.ensures.value)
    ((index.first c.args.address u.0).1 u.1)))

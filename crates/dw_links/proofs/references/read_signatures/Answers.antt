use Rattle.std.proofs.Common.{rules, ℕ, arith, ◌≡◌, length, subst}
use Rattle.std.proofs.lemmas.Result.{err_from_is_err_and}
use Rattle.dw_entries.specs.Views.{units_of, entries_of, placed}
use Rattle.dw_entries.proofs.Firsts.{more_of_list, none_of_list}
use Rattle.dw_links.specs.SignedTypes.{AreSignedBelow}
use Rattle.dw_links.proofs.ClassLemmas.{unit_there}
use Rattle.dw_links.proofs.UnitToAll.{if_fault, first_header, placed_rise, AtHeader, length-placed}
use Rattle.dw_links.proofs.TargetLemmas.{signed_type_is, placed_of}
use Rattle.dw_links.proofs.references.read_signatures.Goals as goal

pub returns-clause-ok : goal.returns-clause-ok
returns-clause-ok c =
    let us = units_of c.args.entries.now in
    none_of_list (placed us) (AtHeader (entries_of us) (placed us))
    (λ j u below. c.loop-number.invariant.none j u
    (omega (arith, below, c.loop-number-test.false, c.unit_count-number-end.ensures, length-placed us)))

pub returns-clause-types : goal.returns-clause-types
returns-clause-types c = λ s.
    let us = units_of c.args.entries.now in
    let all : c.loop-number.number
    ≡ length (placed us) = omega (
      arith,
      c.loop-number-test.false,
      c.unit_count-number-end.ensures,
      c.loop-number.auto,
      length-placed us,
    ) in
    signed_type_is (entries_of us) (placed us) s _
    (subst (λ (n : ℕ). AreSignedBelow (entries_of us) (placed us) n c.loop-number.signatures) all
    c.loop-number.invariant.types s)

pub returns-in_err-add_type-clause-fault : goal.returns-in_err-add_type-clause-fault
returns-in_err-add_type-clause-fault c =
    let us = units_of c.args.entries.now in
    let p = err_from_is_err_and c.from_residual.result c.from_residual.ensures.1 in
    let u = placed_of (placed us) c.loop-number.number in
    let is = unit_there us c.loop-number.number
    (omega (arith, c.loop-number-test.true, c.unit_count-number-end.ensures)) in
    rw (p.1, p.2) (if_fault (λ broken first. first_header (entries_of us) (placed us) c.loop-number.number u broken
    (placed_rise _ us c.args.entries.now.scanned.1.spells.are) is c.loop-number.invariant.none first) _
    c.in_err-add_type.ensures.fault)

pub loop-number-preserved : goal.loop-number-preserved
loop-number-preserved c = search (rules, unit_there, more_of_list)

use Rattle.std.proofs.Common.{rules, inl, refl, ap}
use Rattle.dw_forms.specs.declared.rule.Rule.TheVariants.{SignatureTwice}
use Rattle.dw_entries.specs.declared.units.UnitHead.{UnitHead}
use Rattle.dw_entries.specs.Views.{units_of, entries_of, placed}
use Rattle.dw_links.proofs.ClassLemmas.{unit_there}
use Rattle.dw_links.proofs.LinkedEntries.{told_type, told_none, header_fails, header_passes, other_unit, new_signature, entries_rise}
use Rattle.dw_links.proofs.TargetLemmas.{type_of_unit_is, reach_in_unit_is, placed_of}
use Rattle.dw_links.proofs.references.add_type.Goals as goal

pub returns-in_default-clause-added : goal.returns-in_default-clause-added
returns-in_default-clause-added c = search (rules, other_unit, unit_there, told_none)

pub check_type-requires-clause-has : goal.check_type-requires-clause-has
check_type-requires-clause-has c =
    let us = units_of c.args.entries.now in
    record {
      unit = placed_of (placed us) c.args.number;
      is_unit = unit_there us c.args.number c.requires.within;
      type_offset = c.in-TypeUnit.type_offset;
      signed = told_type us c.args.number _ c.unit-unit.ensures _ _ c.in-TypeUnit.is;
    }

pub returns-in_ok-insert-in-Ok-clause-added : goal.returns-in_ok-insert-in-Ok-clause-added
returns-in_ok-insert-in-Ok-clause-added c =
    let us = units_of c.args.entries.now in
    let p = placed_of (placed us) c.args.number in
    let is = unit_there us c.args.number c.requires.within in
    let kind = told_type us c.args.number _ c.unit-unit.ensures _ _ c.in-TypeUnit.is in
    new_signature (entries_of us) (placed us) c.args.number c.in-TypeUnit.signature c.in-TypeUnit.type_offset c.in-Ok.id
    p c.args.signatures.now c.insert.new.self is kind
    (λ before. c.in-Ok.ensures.ok SignatureTwice (inl (refl, before))) c.in_ok-insert-in-Ok.ensures.updates.0
    (type_of_unit_is (entries_of us) (placed us) c.args.number c.in-TypeUnit.signature c.in-TypeUnit.type_offset p _ is
    kind
    (reach_in_unit_is (entries_of us) (placed us) c.args.number c.in-TypeUnit.type_offset c.in-Ok.id
    (entries_rise _ us c.args.entries.now.scanned.1.spells.are) c.in-Ok.ensures.found))
    c.requires.before

pub returns-in_ok-insert-in-Ok-clause-ok : goal.returns-in_ok-insert-in-Ok-clause-ok
returns-in_ok-insert-in-Ok-clause-ok c =
    let us = units_of c.args.entries.now in
    header_passes (entries_of us) (placed us) c.args.number _ _ _ _
    (told_type us c.args.number _ c.unit-unit.ensures _ _ c.in-TypeUnit.is) c.in-Ok.ensures.ok

pub returns-in-Err-clause-fault : goal.returns-in-Err-clause-fault
returns-in-Err-clause-fault c = record {
  holds =
      let us = units_of c.args.entries.now in
      rw c.into_fault.ensures.holds (header_fails (entries_of us) (placed us) c.args.number _ _ _ _ c.in-Err.rule _
      (told_type us c.args.number _ c.unit-unit.ensures _ _ c.in-TypeUnit.is) c.in-Err.ensures.err
      (record {
        rule = refl;
        section = refl;
        at = ap (λ (x : UnitHead). x.offset) c.unit-unit.ensures;
        attribute = refl;
      }));
  cycle = c.into_fault.ensures.cycle;
}

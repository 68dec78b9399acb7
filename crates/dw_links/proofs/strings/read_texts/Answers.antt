use Rattle.std.proofs.Common.{ap, sym, subst, arith}
use Rattle.dw_entries.specs.declared.units.UnitHead.{UnitHead}
use Rattle.dw_entries.specs.Header.{IsSize}
use Rattle.dw_links.proofs.TableLemmas.{sized, size_above, placed_of, units_of, placed, unit_there}
use Rattle.dw_links.proofs.strings.read_texts.Goals as goal

pub count_named-requires-2 : goal.count_named-requires-2
count_named-requires-2 c =
    let us = units_of c.args.entries.now in
    let p = placed_of (placed us) c.args.number in
    let is = unit_there us c.args.number c.requires.number in
    let same = ap (λ (x : UnitHead). x.header.address_size) c.unit-head.ensures in
    omega (
      arith,
      same,
      size_above _
          (sized _ _ us c.args.number p c.args.entries.now.scanned.1.spells c.requires.number is),
    )

pub returns-clause-texts : goal.returns-clause-texts
returns-clause-texts c =
    let us = units_of c.args.entries.now in
    let p = placed_of (placed us) c.args.number in
    let is = unit_there us c.args.number c.requires.number in
    let same = ap (λ (x : UnitHead). x.header.address_size) c.unit-head.ensures in
    record {
      ready = record {
        address_size =
            subst IsSize (sym same) (sized _ _ us c.args.number p c.args.entries.now.scanned.1.spells c.requires.number
            is);
        strings = c.count_named.ensures;
        addresses = c.count_named-2.ensures;
        str_end = rw c.sections-sections.ensures c.requires.str_end;
        line_str_end = rw c.sections-sections.ensures c.requires.line_str_end;
      };
      same_sections = c.sections-sections.ensures;
      within = c.requires.number;
      head = c.unit-head.ensures;
      str_base = c.base_in_unit-str_base.ensures;
      addr_base = c.base_in_unit-addr_base.ensures;
    }

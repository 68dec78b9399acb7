use Rattle.std.proofs.Common.{ℕ, ◌↔◌, List, subst}
use Rattle.dw_ranges.specs.Files.{HasFile}
use Rattle.dw_ranges.specs.UnitRanges.{IsFirstUnit, UnitHas}
use Rattle.dw_ranges.specs.declared.file.FileFunctions.{FileFunctions}
use Rattle.dw_ranges.specs.declared.unit_ranges.UnitRange.{UnitRange}
use Rattle.dw_ranges.proofs.FileLemmas.{file_read}
use Rattle.dw_ranges.proofs.file_reader.functions_of_file.Goals as goal

pub returns-clause-found : goal.returns-clause-found
returns-clause-found c =
    let a = c.args in
    let t = c.read_units.new.tables in
    let units = c.first_units.new.ranges in
    let file : FileFunctions = record {
      units = units;
      spans = t.spans;
      parts = t.parts;
      totals = c.in-Ok.totals;
    } in
    file_read a.sections.now a.code.now a.entries.now a.budget file t.all.items c.in-Ok.ensures.found
    c.in_ok-first_units.ensures.ranges
    (subst (λ (l : List UnitRange). (x unit : ℕ) → UnitHas units.items x unit ↔ IsFirstUnit l x unit)
    c.as_mut_slice.ensures.value c.in_ok-first_units.ensures.found)

pub returns-clause-index : goal.returns-clause-index
returns-clause-index c =
    let a = c.args in
    let t = c.read_units.new.tables in
    let units = c.first_units.new.ranges in
    let file : FileFunctions = record {
      units = units;
      spans = t.spans;
      parts = t.parts;
      totals = c.in-Ok.totals;
    } in
    let has : HasFile a.sections.now a.code.now a.entries.now a.budget file =
    file_read a.sections.now a.code.now a.entries.now a.budget file t.all.items c.in-Ok.ensures.found
    c.in_ok-first_units.ensures.ranges
    (subst (λ (l : List UnitRange). (x unit : ℕ) → UnitHas units.items x unit ↔ IsFirstUnit l x unit)
    c.as_mut_slice.ensures.value c.in_ok-first_units.ensures.found) in
    (has.units, has.index)

use Rattle.std.proofs.Common.{refl, ◌∙◌}
use Rattle.dw_lookup.proofs.PartLemmas.{pairs_are}
use Rattle.dw_lookup.proofs.ReadingLemmas.{functions_are, lines_are, lines_stop, ranges_stop}
use Rattle.dw_lookup.proofs.reading.look_up.Goals as goal

pub lines_of_file-read-requires : goal.lines_of_file-read-requires
lines_of_file-read-requires c =
    let s = c.args.sources.now in
    pairs_are s.areas.items c.as_slice-code.result.now (c.as_slice-code.ensures.value ∙ s.code_is) s.areas_are

pub returns-in-Err-clause-fault : goal.returns-in-Err-clause-fault
returns-in-Err-clause-fault c = λ bytes has.
    lines_stop c.args.sources.now c.as_slice-code.result.now c.scanned.result.now c.as_slice-code.ensures.value
    c.scanned.ensures bytes c.in-Err.stop c.stop_of_lines.result c.stop_of_lines.ensures has c.in-Err.ensures.fault

pub returns-in-Ok-found-clause-known : goal.returns-in-Ok-found-clause-known
returns-in-Ok-found-clause-known c = λ bytes has.
    let s = c.args.sources.now in
    record {
      sources = s;
      has = has;
      image_is = refl;
      lines_are = lines_are s c.as_slice-code.result.now c.scanned.result.now c.as_slice-code.ensures.value
          c.scanned.ensures c.in-Ok.lines c.in-Ok.ensures.found;
      functions_are = functions_are s c.as_slice-areas.result.now c.scanned-2.result.now c.sections.result.now
          c.list_budget-budget.result c.as_slice-areas.ensures.value c.scanned-2.ensures c.sections.ensures
          c.list_budget-budget.ensures c.in-Ok-found.functions c.in-Ok-found.ensures.found;
    }

pub returns-clause-fault : goal.returns-clause-fault
returns-clause-fault c = λ bytes has.
    let s = c.args.sources.now in
    let are = lines_are s c.as_slice-code.result.now c.scanned.result.now c.as_slice-code.ensures.value
    c.scanned.ensures c.in-Ok.lines c.in-Ok.ensures.found in
    ranges_stop s c.as_slice-areas.result.now c.scanned-2.result.now c.sections.result.now
    c.list_budget-budget.result c.as_slice-areas.ensures.value c.scanned-2.ensures c.sections.ensures
    c.list_budget-budget.ensures bytes c.in-Ok.lines c.in-Err-found.stop c.stop_of_ranges.result
    c.stop_of_ranges.ensures has are c.in-Err-found.ensures.fault

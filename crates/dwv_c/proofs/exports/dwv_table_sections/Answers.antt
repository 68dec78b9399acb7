use Rattle.dwv_c.specs.Verdicts.{of_six}
use Rattle.dwv_c.proofs.TableRowLemmas.{are_there, puts_fault}
use Rattle.dwv_c.proofs.exports.dwv_table_sections.Goals as goal

pub put_table-requires : goal.put_table-requires
put_table-requires c =
    are_there (of_six _ _ _ _ _ _) _ _ (c.in-Ok.ensures _ c.sections_of_six-found.ensures) c.held_alone-holders.ensures

pub returns-in-Ok : goal.returns-in-Ok
returns-in-Ok c =
    c.put_table.ensures _ (c.in-Ok.ensures _ c.sections_of_six-found.ensures) c.held_alone-holders.ensures

pub returns-in-Err : goal.returns-in-Err
returns-in-Err c =
    puts_fault _ _ _ _ _ c.in-Err.error _ c.put_verdict.ensures.status c.put_verdict.ensures.verdict
    (c.in-Err.ensures _ c.sections_of_six-found.ensures)

use Rattle.dwv_c.specs.Verdicts.{of_file}
use Rattle.dwv_c.proofs.TableRowLemmas.{are_there, puts_fault}
use Rattle.dwv_c.proofs.exports.dwv_table.Goals as goal

pub held_in_file-holders-requires : goal.held_in_file-holders-requires
held_in_file-holders-requires c =
    let is = c.in-Ok.ensures (of_file c.args.file.now) c.sections_of_file.ensures in is.given.passes

pub put_table-requires : goal.put_table-requires
put_table-requires c =
    are_there (of_file c.args.file.now) _ _ (c.in-Ok.ensures _ c.sections_of_file.ensures)
    c.held_in_file-holders.ensures

pub returns-in-Ok : goal.returns-in-Ok
returns-in-Ok c =
    c.put_table.ensures (of_file c.args.file.now) (c.in-Ok.ensures _ c.sections_of_file.ensures)
    c.held_in_file-holders.ensures

pub returns-in-Err : goal.returns-in-Err
returns-in-Err c =
    puts_fault _ _ _ _ _ c.in-Err.error _ c.put_verdict.ensures.status c.put_verdict.ensures.verdict
    (c.in-Err.ensures _ c.sections_of_file.ensures)

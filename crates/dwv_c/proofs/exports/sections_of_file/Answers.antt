use Rattle.dwv_c.specs.Verdicts.{fails, large_file}
use Rattle.dwv_c.proofs.exports.sections_of_file.Goals as goal

pub returns-then-file-longest_file : goal.returns-then-file-longest_file
returns-then-file-longest_file c =
    rw c.verdict_of_large.ensures (large_file _ (rw c.longest_file.ensures at c.if-file-longest_file.true))

pub returns-in-Ok : goal.returns-in-Ok
returns-in-Ok c = record {
  within = rw c.longest_file.ensures at c.if-file-longest_file.false;
  passes = c.in-Ok.ensures.passes;
  are = c.in-Ok.ensures.sections;
}

pub returns-in-Err : goal.returns-in-Err
returns-in-Err c =
    rw c.verdict_of_file_fault.ensures
    (fails _ c.in-Err.fault (rw c.longest_file.ensures at c.if-file-longest_file.false) c.in-Err.ensures.fault)

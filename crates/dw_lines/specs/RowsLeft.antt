-- State: the rows of a program that are left.
use Rattle.dw_lines.specs.Rows.{Run, run}
use Rattle.dw_lines.specs.declared.rows.Rows.{Rows}

-- the run of a program from its next opcode
abbrev pub run_left : Rows → Run
run_left r = run r.header.now r.end r.registers r.last r.rest.now

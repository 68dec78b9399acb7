-- Chapter: the code and the name of each rule on line programs.
-- Its equations are made by docs/make-rules.py from docs/rules.tsv.
use Rattle.std.specs.Prelude.{ℕ, List, codes}
use Rattle.dw_lines.specs.declared.rule.LineRule.{LineRule}
use Rattle.dw_lines.specs.declared.rule.LineRule.TheVariants.{LineOffset, LineCut, Line64, LineVersion, LineAddressSize}
use Rattle.dw_lines.specs.declared.rule.LineRule.TheVariants.{LineHeaderLength, LineParameter, OpcodeLength, LineForm}
use Rattle.dw_lines.specs.declared.rule.LineRule.TheVariants.{LineString, LineDirectory, LineNumber, ProgramsMeet}
use Rattle.dw_lines.specs.declared.rule.LineRule.TheVariants.{OpcodeCut, OpcodeNumber, ExtendedLength, RowFile}
use Rattle.dw_lines.specs.declared.rule.LineRule.TheVariants.{RowDescends, RowAddress, RowLine, NotEnded, NoFile}

-- the code of a rule, which is the letter of its group and a number, and its name, which is its variant's
abbrev pub texts : LineRule → List ℕ × List ℕ
texts LineOffset = (codes "L1", codes "LineOffset")
texts LineCut = (codes "L2", codes "LineCut")
texts Line64 = (codes "L3", codes "Line64")
texts LineVersion = (codes "L4", codes "LineVersion")
texts LineAddressSize = (codes "L5", codes "LineAddressSize")
texts LineHeaderLength = (codes "L6", codes "LineHeaderLength")
texts LineParameter = (codes "L7", codes "LineParameter")
texts OpcodeLength = (codes "L8", codes "OpcodeLength")
texts LineForm = (codes "L9", codes "LineForm")
texts LineString = (codes "L10", codes "LineString")
texts LineDirectory = (codes "L11", codes "LineDirectory")
texts LineNumber = (codes "L12", codes "LineNumber")
texts ProgramsMeet = (codes "L13", codes "ProgramsMeet")
texts OpcodeCut = (codes "M1", codes "OpcodeCut")
texts OpcodeNumber = (codes "M2", codes "OpcodeNumber")
texts ExtendedLength = (codes "M3", codes "ExtendedLength")
texts RowFile = (codes "M4", codes "RowFile")
texts RowDescends = (codes "M5", codes "RowDescends")
texts RowAddress = (codes "M6", codes "RowAddress")
texts RowLine = (codes "M7", codes "RowLine")
texts NotEnded = (codes "M8", codes "NotEnded")
texts NoFile = (codes "F1", codes "NoFile")

-- the code of a rule
unfoldable pub code_text : LineRule → List ℕ
code_text rule = (texts rule).0

-- the name of a rule
unfoldable pub name_text : LineRule → List ℕ
name_text rule = (texts rule).1

-- Chapter: the code and the name of each rule on the addresses of entries.
-- Its equations are made by docs/make-rules.py from docs/rules.tsv.
use Rattle.std.specs.Prelude.{ℕ, List, codes}
use Rattle.dw_ranges.specs.declared.rule.RangeRule.{RangeRule}
use Rattle.dw_ranges.specs.declared.rule.RangeRule.TheVariants.{BadBounds, BadHigh, NoList, BadList, NoBase, BadRange}
use Rattle.dw_ranges.specs.declared.rule.RangeRule.TheVariants.{RangeIndex, RangesMeet, OutsideUnit, OutsideParent}
use Rattle.dw_ranges.specs.declared.rule.RangeRule.TheVariants.{InlinedMeet, FunctionsMeet, ListBudget}

-- the code of a rule, which is the letter of its group and its number there, and its name, which is its variant's
abbrev pub texts : RangeRule → List ℕ × List ℕ
texts BadBounds = (codes "X1", codes "BadBounds")
texts BadHigh = (codes "X2", codes "BadHigh")
texts NoList = (codes "X3", codes "NoList")
texts BadList = (codes "X4", codes "BadList")
texts NoBase = (codes "X5", codes "NoBase")
texts BadRange = (codes "X6", codes "BadRange")
texts RangeIndex = (codes "X7", codes "RangeIndex")
texts RangesMeet = (codes "X8", codes "RangesMeet")
texts OutsideUnit = (codes "X9", codes "OutsideUnit")
texts OutsideParent = (codes "X10", codes "OutsideParent")
texts InlinedMeet = (codes "X11", codes "InlinedMeet")
texts FunctionsMeet = (codes "X12", codes "FunctionsMeet")
texts ListBudget = (codes "X13", codes "ListBudget")

-- the code of a rule
unfoldable pub code_text : RangeRule → List ℕ
code_text rule = (texts rule).0

-- the name of a rule
unfoldable pub name_text : RangeRule → List ℕ
name_text rule = (texts rule).1

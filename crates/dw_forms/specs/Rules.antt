-- Chapter: the groups of rules in the order in which they are checked, the number, the code and the name of each rule.
-- Its equations, and what it uses of `Rule`, are made by docs/make-rules.py from docs/rules.tsv.
use Rattle.std.specs.Prelude.{ℕ, List, codes}
use Rattle.dw_forms.specs.declared.rule.Rule.{Rule}
use Rattle.dw_forms.specs.declared.rule.Rule.TheVariants.{AbbrevCut, AbbrevNumber, CodeTwice, BadTag, BadChildren}
use Rattle.dw_forms.specs.declared.rule.Rule.TheVariants.{BadPair, UnknownForm, AttributeTwice, UnitCut, Not32Bit}
use Rattle.dw_forms.specs.declared.rule.Rule.TheVariants.{BadVersion, BadUnitType, BadAddressSize, BadAbbrevOffset}
use Rattle.dw_forms.specs.declared.rule.Rule.TheVariants.{NoUnitEntry, WrongUnitTag, LeftOver, UndeclaredCode, Cut}
use Rattle.dw_forms.specs.declared.rule.Rule.TheVariants.{BadNumber, BadIndirect, FormVersion, WrongClass, BadStrBase}
use Rattle.dw_forms.specs.declared.rule.Rule.TheVariants.{StrIndex, StringEnd, BadAddrBase, AddrIndex, NoEntry}
use Rattle.dw_forms.specs.declared.rule.Rule.TheVariants.{WrongKind, NotNextSibling, NoSignature, SignatureTwice}
use Rattle.dw_forms.specs.declared.rule.Rule.TheVariants.{BadTypeOffset, MissingType, BadCount, ContainsItself, NoSize}
use Rattle.dw_forms.specs.declared.rule.Rule.TheVariants.{SizeTooGreat, MemberOutside, EnumSize}

-- the group of a rule: units with their tables and items, classes, strings and addresses, references, types and
-- counts, containment, sizes; a group is asked only where no rule of an earlier one fails
abbrev pub group_of : Rule → ℕ
group_of AbbrevCut = 1
group_of AbbrevNumber = 1
group_of CodeTwice = 1
group_of BadTag = 1
group_of BadChildren = 1
group_of BadPair = 1
group_of UnknownForm = 1
group_of AttributeTwice = 1
group_of UnitCut = 1
group_of Not32Bit = 1
group_of BadVersion = 1
group_of BadUnitType = 1
group_of BadAddressSize = 1
group_of BadAbbrevOffset = 1
group_of NoUnitEntry = 1
group_of WrongUnitTag = 1
group_of LeftOver = 1
group_of UndeclaredCode = 1
group_of Cut = 1
group_of BadNumber = 1
group_of BadIndirect = 1
group_of FormVersion = 1
group_of WrongClass = 2
group_of BadStrBase = 3
group_of StrIndex = 3
group_of StringEnd = 3
group_of BadAddrBase = 3
group_of AddrIndex = 3
group_of NoEntry = 4
group_of WrongKind = 4
group_of NotNextSibling = 4
group_of NoSignature = 4
group_of SignatureTwice = 4
group_of BadTypeOffset = 4
group_of MissingType = 5
group_of BadCount = 5
group_of ContainsItself = 6
group_of NoSize = 7
group_of SizeTooGreat = 7
group_of MemberOutside = 7
group_of EnumSize = 7

-- the number of a rule, as its code has it: where several rules of one letter fail at one place, the least is named
abbrev pub number_of : Rule → ℕ
number_of AbbrevCut = 1
number_of AbbrevNumber = 2
number_of CodeTwice = 3
number_of BadTag = 4
number_of BadChildren = 5
number_of BadPair = 6
number_of UnknownForm = 7
number_of AttributeTwice = 8
number_of UnitCut = 1
number_of Not32Bit = 2
number_of BadVersion = 3
number_of BadUnitType = 4
number_of BadAddressSize = 5
number_of BadAbbrevOffset = 6
number_of NoUnitEntry = 7
number_of WrongUnitTag = 8
number_of LeftOver = 9
number_of UndeclaredCode = 1
number_of Cut = 2
number_of BadNumber = 3
number_of BadIndirect = 4
number_of FormVersion = 5
number_of WrongClass = 1
number_of BadStrBase = 1
number_of StrIndex = 2
number_of StringEnd = 3
number_of BadAddrBase = 4
number_of AddrIndex = 5
number_of NoEntry = 1
number_of WrongKind = 2
number_of NotNextSibling = 3
number_of NoSignature = 4
number_of SignatureTwice = 5
number_of BadTypeOffset = 6
number_of MissingType = 1
number_of BadCount = 2
number_of ContainsItself = 1
number_of NoSize = 1
number_of SizeTooGreat = 2
number_of MemberOutside = 3
number_of EnumSize = 4

-- the code of a rule, which is the letter of its group and its number there, and its name, which is its variant's
abbrev pub texts : Rule → List ℕ × List ℕ
texts AbbrevCut = (codes "A1", codes "AbbrevCut")
texts AbbrevNumber = (codes "A2", codes "AbbrevNumber")
texts CodeTwice = (codes "A3", codes "CodeTwice")
texts BadTag = (codes "A4", codes "BadTag")
texts BadChildren = (codes "A5", codes "BadChildren")
texts BadPair = (codes "A6", codes "BadPair")
texts UnknownForm = (codes "A7", codes "UnknownForm")
texts AttributeTwice = (codes "A8", codes "AttributeTwice")
texts UnitCut = (codes "U1", codes "UnitCut")
texts Not32Bit = (codes "U2", codes "Not32Bit")
texts BadVersion = (codes "U3", codes "BadVersion")
texts BadUnitType = (codes "U4", codes "BadUnitType")
texts BadAddressSize = (codes "U5", codes "BadAddressSize")
texts BadAbbrevOffset = (codes "U6", codes "BadAbbrevOffset")
texts NoUnitEntry = (codes "U7", codes "NoUnitEntry")
texts WrongUnitTag = (codes "U8", codes "WrongUnitTag")
texts LeftOver = (codes "U9", codes "LeftOver")
texts UndeclaredCode = (codes "G1", codes "UndeclaredCode")
texts Cut = (codes "G2", codes "Cut")
texts BadNumber = (codes "G3", codes "BadNumber")
texts BadIndirect = (codes "G4", codes "BadIndirect")
texts FormVersion = (codes "G5", codes "FormVersion")
texts WrongClass = (codes "K1", codes "WrongClass")
texts BadStrBase = (codes "S1", codes "BadStrBase")
texts StrIndex = (codes "S2", codes "StrIndex")
texts StringEnd = (codes "S3", codes "StringEnd")
texts BadAddrBase = (codes "S4", codes "BadAddrBase")
texts AddrIndex = (codes "S5", codes "AddrIndex")
texts NoEntry = (codes "R1", codes "NoEntry")
texts WrongKind = (codes "R2", codes "WrongKind")
texts NotNextSibling = (codes "R3", codes "NotNextSibling")
texts NoSignature = (codes "R4", codes "NoSignature")
texts SignatureTwice = (codes "R5", codes "SignatureTwice")
texts BadTypeOffset = (codes "R6", codes "BadTypeOffset")
texts MissingType = (codes "Y1", codes "MissingType")
texts BadCount = (codes "Y2", codes "BadCount")
texts ContainsItself = (codes "C1", codes "ContainsItself")
texts NoSize = (codes "Z1", codes "NoSize")
texts SizeTooGreat = (codes "Z2", codes "SizeTooGreat")
texts MemberOutside = (codes "Z3", codes "MemberOutside")
texts EnumSize = (codes "Z4", codes "EnumSize")

-- the code of a rule
unfoldable pub code_text : Rule → List ℕ
code_text rule = (texts rule).0

-- the name of a rule
unfoldable pub name_text : Rule → List ℕ
name_text rule = (texts rule).1

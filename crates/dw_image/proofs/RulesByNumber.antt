-- The rule of each number in a group. All of it is made by docs/make-rules.py from docs/rules.tsv.
use Rattle.std.proofs.Common.{ℕ, ◌==◌, if◌then◌else◌}
use Rattle.dw_forms.specs.declared.rule.Rule.{Rule}
use Rattle.dw_forms.specs.declared.rule.Rule.TheVariants.{WrongClass, BadStrBase, StrIndex, StringEnd, BadAddrBase}
use Rattle.dw_forms.specs.declared.rule.Rule.TheVariants.{AddrIndex, NoEntry, WrongKind, NotNextSibling, NoSignature}
use Rattle.dw_forms.specs.declared.rule.Rule.TheVariants.{SignatureTwice, BadTypeOffset, MissingType, BadCount}
use Rattle.dw_forms.specs.declared.rule.Rule.TheVariants.{ContainsItself, NoSize, SizeTooGreat, MemberOutside, EnumSize}

abbrev pub string_rule : ℕ → Rule
string_rule number =
    if number == 1 then BadStrBase else
    (if number == 2 then StrIndex else
    (if number == 3 then StringEnd else
    (if number == 4 then BadAddrBase else AddrIndex)))

abbrev pub reference_rule : ℕ → Rule
reference_rule number =
    if number == 1 then NoEntry else
    (if number == 2 then WrongKind else
    (if number == 3 then NotNextSibling else
    (if number == 4 then NoSignature else
    (if number == 5 then SignatureTwice else BadTypeOffset))))

abbrev pub type_rule : ℕ → Rule
type_rule number = if number == 1 then MissingType else BadCount

abbrev pub size_rule : ℕ → Rule
size_rule number =
    if number == 1 then NoSize else
    (if number == 2 then SizeTooGreat else
    (if number == 3 then MemberOutside else EnumSize))

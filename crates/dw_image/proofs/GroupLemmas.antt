-- There is one first failure at most; which rules a group of failures has, told by their numbers; and one of them is
-- named at a place.
use Rattle.std.proofs.Common.{rules, ◌≡◌, ℕ, ◌⊎◌, List, Some, slice_get, ◌==◌, if◌then◌else◌, ap, ◌∙◌}
use Rattle.dw_forms.specs.Value.{Datum}
use Rattle.dw_entries.specs.declared.fault.Section.{Section}
use Rattle.dw_forms.specs.Rules.{number_of, group_of}
use Rattle.dw_entries.specs.declared.fault.Fault.{Fault}
use Rattle.dw_entries.specs.declared.fault.PlainFault.{PlainFault}
use Rattle.dw_entries.specs.EntryRules.{OffsetsRise, AtAttributes, AtEntries, Rule, Failure}
use Rattle.dw_entries.proofs.Firsts.{same_some, Place, at_header, IsBefore, at_attribute, Names, IsFirst}
use Rattle.dw_entries.proofs.NumberOrder.{three_ways}
use Rattle.dw_forms.specs.declared.rule.Rule.TheVariants.{WrongClass, ContainsItself}
use Rattle.dw_image.proofs.RulesByNumber.{string_rule, reference_rule, type_rule, size_rule}
use Rattle.dw_elf.specs.declared.sections.Sections.{Sections}
use Rattle.dw_entries.specs.Units.{DebugUnit, AreUnits}
use Rattle.dw_entries.proofs.EntryFacts.{entries_rise, Entry}
use Rattle.dw_links.proofs.RuleGroups.{string_failures, reference_failures}
use Rattle.dw_image.specs.FirstFault.{Group, classes, strings, cycles, turn_of, failures_of, IsFirstIn}

-- two places are one, or one of them comes first
abbrev Compared : Place → Place → Type 0
Compared p q = (IsBefore p q ⊎ (p ≡ q)) ⊎ IsBefore q p

compared : (p q : Place) → Compared p q
compared p q = search (rules, three_ways)

named : Rule → Section → (at attribute : ℕ) → PlainFault
named rule section at attribute = record { rule = rule; section = section; at = at; attribute = attribute }

one_broken : (r s : Rule) (c d : Section) (i j m n : ℕ) → r ≡ s → c ≡ d → i ≡ j → m ≡ n → named r c i m ≡ named s d j n
one_broken r s c d i j m n same_rule same_section same_at same_attribute = cc

-- what is named is told by its failure
one_name : (a b : PlainFault) (f g : Failure) → Names a f → Names b g → f.place ≡ g.place → f.rule ≡ g.rule
    → f.attribute ≡ g.attribute → a ≡ b
unfolding named
one_name a b f g p q place rule attribute = search (rules, one_broken)

-- at one place one rule of each number fails, at one attribute
abbrev pub AreOneAtPlace : (Failure → Type 0) → Type 0
AreOneAtPlace Fails =
    (f g : Failure) → Fails f → Fails g → f.place ≡ g.place → number_of f.rule ≡ number_of g.rule
    → (f.rule ≡ g.rule) × (f.attribute ≡ g.attribute)

-- THE law of the first: two first failures of one group are named alike
pub one_first : (Fails : Failure → Type 0) (a b : PlainFault) → AreOneAtPlace Fails → IsFirst Fails a → IsFirst Fails b
    → a ≡ b
one_first Fails a b one p q = search (rules, compared, three_ways, one_name, named)

-- where entries are in rising offset, one entry is at an offset
one_number : (entries : List Entry) → OffsetsRise entries → (i j : ℕ) (d e : Entry) → slice_get entries i ≡ Some d
    → slice_get entries j ≡ Some e → d.at ≡ e.at → i ≡ j
one_number entries rise i j d e is_d is_e same = search (rules, three_ways)

-- of entries in rising offset, one attribute is at a place
one_attribute : (entries : List Entry) (Fails : Entry → ℕ → Datum → Rule → Type 0) → OffsetsRise entries
    → (f g : Failure) → AtEntries entries (AtAttributes Fails) f → AtEntries entries (AtAttributes Fails) g
    → f.place ≡ g.place → f.attribute ≡ g.attribute
one_attribute entries Fails rise f g p q here = search (rules, one_number, same_some)

-- ---- a rule is told by its group and its number, in all groups but the first

abbrev rule_at : (group number : ℕ) → Rule
rule_at group number =
    if group == 2 then WrongClass else
    (if group == 3 then string_rule number else
    (if group == 4 then reference_rule number else
    (if group == 5 then type_rule number else (if group == 6 then ContainsItself else size_rule number))))

told : (rule : Rule) → (group_of rule ≡ 1 → ⊥) → rule_at (group_of rule) (number_of rule) ≡ rule
told rule behind = search rules

-- two rules of one group with one number are one
one_rule : (rule other : Rule) → (group_of rule ≡ 1 → ⊥) → group_of rule ≡ group_of other
    → number_of rule ≡ number_of other → rule ≡ other
one_rule rule other behind group number = search (rules, told)

-- ---- the groups

-- all rules of a group's failures are of one group after the first
abbrev HasGroup : ℕ → (Failure → Type 0) → Type 0
HasGroup n Fails = (f : Failure) → Fails f → group_of f.rule ≡ n

has_group : (s : Sections) (us : List DebugUnit) (group : Group) → HasGroup (turn_of group) (failures_of s us group)
has_group s us strings f fails = string_failures s us f fails
has_group s us _ f fails = search (rules, reference_failures)

-- a fault that is the first of a group has the group's rank
pub rank_of : (s : Sections) (us : List DebugUnit) (group : Group) (fault : Fault) → IsFirstIn s us group fault
    → group_of fault.rule ≡ turn_of group
rank_of s us cycles fault first = search (rules)
rank_of s us group fault first =
    ap group_of first.holds.named.rule ∙ has_group s us group first.holds.failure first.holds.fails

behind_first : (group : Group) → turn_of group ≡ 1 → ⊥
behind_first group is = search rules

-- failures at attributes are at one attribute, where they are at one place
abbrev HasOneAttribute : (Failure → Type 0) → Type 0
HasOneAttribute Fails = (f g : Failure) → Fails f → Fails g → f.place ≡ g.place → f.attribute ≡ g.attribute

no_header : (at offset k : ℕ) → at_header at ≡ at_attribute offset k → ⊥
no_header at offset k same = absurd cc

has_one_attribute : (s : Sections) (us : List DebugUnit) → AreUnits s.«abbrev».now us → (group : Group)
    → HasOneAttribute (failures_of s us group)
has_one_attribute s us are classes f g p q here = search (rules, one_attribute, entries_rise)
has_one_attribute s us are _ f g p q here = search (rules, no_header, one_attribute, entries_rise)

-- one failure of a group is named at a place
pub one_at_place : (s : Sections) (us : List DebugUnit) → AreUnits s.«abbrev».now us → (group : Group)
    → AreOneAtPlace (failures_of s us group)
one_at_place s us are group f g p q here number = search (rules, has_group, one_rule, behind_first, has_one_attribute)

-- ---- the order of the groups

pub one_group : (group other : Group) → turn_of group ≡ turn_of other → group ≡ other
one_group group other same = search rules

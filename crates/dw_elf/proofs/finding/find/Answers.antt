use Rattle.std.proofs.Common.{◌≡◌, rules, arith, refl}
use Rattle.std.proofs.lemmas.Grind.{common_steps}
use Rattle.dw_elf.specs.declared.sections.DebugSection.TheVariants.{Info}
use Rattle.dw_elf.specs.Elf.{section_count}
use Rattle.dw_elf.specs.Checks.{NoInfo}
use Rattle.dw_elf.specs.Names.{IsWanted}
use Rattle.dw_elf.proofs.SlotLemmas.{named_below, none_below, all_pass, passes_below}
use Rattle.dw_elf.proofs.finding.find.Goals as goal

pub loop-k-preserved : goal.loop-k-preserved
loop-k-preserved c =
    record {
      passed = passes_below IsWanted c.args.file.now c.loop-k.k c.loop-k.invariant.passed (search rules);
      found = search rules;
    }

pub returns-then-is_none-clause-fault : goal.returns-then-is_none-clause-fault
returns-then-is_none-clause-fault c =
    let at_end : c.loop-k.k ≡ section_count c.args.file.now = grind (arith, common_steps) in
    let none = none_below c.args.file.now c.loop-k.k c.loop-k.found Info _ c.index.ensures.index
    c.loop-k.invariant.found c.if-is_none.ensures in
    record {
      place = c.loop-k.k;
      first = record { check = NoInfo; rule_is = refl; section_is = refl; fails = search rules; before = search rules };
      below = c.loop-k.invariant.passed;
    }

pub returns-clause-passes : goal.returns-clause-passes
returns-clause-passes c =
    let at_end : c.loop-k.k ≡ section_count c.args.file.now = grind (arith, common_steps) in
    let one = named_below c.args.file.now c.loop-k.k c.loop-k.found Info _ c.index.ensures.index
    c.loop-k.invariant.found c.if-is_none.ensures in
    all_pass c.args.file.now c.loop-k.k at_end (omega arith) c.loop-k.invariant.passed (search rules)

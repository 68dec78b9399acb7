use Rattle.std.proofs.Common.{◌≡◌, rules, arith}
use Rattle.std.proofs.lemmas.Grind.{common_steps}
use Rattle.dw_elf.specs.Elf.{section_count}
use Rattle.dw_elf.specs.Names.{IsNameOf}
use Rattle.dw_elf.proofs.SlotLemmas.{all_pass_other, passes_below}
use Rattle.dw_elf.proofs.finding.find_other.Goals as goal

pub loop-k-preserved : goal.loop-k-preserved
loop-k-preserved c =
    record {
      passed =
          passes_below (IsNameOf c.args.section) c.args.file.now c.loop-k.k c.loop-k.invariant.passed (search rules);
      found = search rules;
    }

pub returns-clause-passes : goal.returns-clause-passes
returns-clause-passes c =
    let at_end : c.loop-k.k ≡ section_count c.args.file.now = grind (arith, common_steps) in
    all_pass_other c.args.file.now c.args.section c.loop-k.k at_end (omega arith) c.loop-k.invariant.passed

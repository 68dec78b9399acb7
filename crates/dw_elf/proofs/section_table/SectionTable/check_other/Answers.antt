use Rattle.std.proofs.Common.{rules}
use Rattle.dw_elf.specs.Names.{other_name, IsNameOf}
use Rattle.dw_elf.proofs.CheckLemmas.{name_fails, zdebug_fails, twice_fails, lending_fails}
use Rattle.dw_elf.proofs.SlotLemmas.{slot_after_other}
use Rattle.dw_elf.proofs.section_table.SectionTable.check_other.Goals as goal

pub returns-in_default-clause-fails : goal.returns-in_default-clause-fails
returns-in_default-clause-fails c =
    name_fails (IsNameOf c.args.section) _ c.args.k c.requires.header (search rules)

pub returns-then-is_zdebug-clause-fails : goal.returns-then-is_zdebug-clause-fails
returns-then-is_zdebug-clause-fails c =
    zdebug_fails (IsNameOf c.args.section) _ c.args.k c.requires.header (search rules) (search rules)

pub returns-then-ne-clause-found : goal.returns-then-ne-clause-found
returns-then-ne-clause-found c =
    slot_after_other _ c.args.k (other_name c.args.section) c.args.found (search rules) c.requires.so_far

pub returns-then-is_some-clause-fails : goal.returns-then-is_some-clause-fails
returns-then-is_some-clause-fails c =
    twice_fails (IsNameOf c.args.section) _ c.args.k c.requires.header (search rules) (search rules) (search rules)
    (search rules)

pub returns-in_err-lend-clause-fails : goal.returns-in_err-lend-clause-fails
returns-in_err-lend-clause-fails c =
    let fails = lending_fails (IsNameOf c.args.section) _ c.args.k c.in_err-lend.field-0.0 c.requires.header
    (search rules) (search rules) (search rules) (search rules) c.in_err-lend.ensures.fails in
    search rules

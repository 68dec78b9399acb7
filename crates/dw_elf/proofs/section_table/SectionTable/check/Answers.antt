use Rattle.std.proofs.Common.{rules}
use Rattle.dw_elf.specs.Names.{IsWanted}
use Rattle.dw_elf.proofs.CheckLemmas.{name_fails, zdebug_fails, twice_fails, lending_fails, lending_passes}
use Rattle.dw_elf.proofs.NameLemmas.{not_wanted}
use Rattle.dw_elf.proofs.SlotLemmas.{named_below, none_below, slots_after_other, slots_after_put}
use Rattle.dw_elf.proofs.section_table.SectionTable.check.Goals as goal

pub returns-in_default-clause-fails : goal.returns-in_default-clause-fails
returns-in_default-clause-fails c = name_fails IsWanted _ c.args.k c.requires.header (search rules)

pub returns-then-is_zdebug-clause-fails : goal.returns-then-is_zdebug-clause-fails
returns-then-is_zdebug-clause-fails c =
    zdebug_fails IsWanted _ c.args.k c.requires.header (search rules) (search rules)

pub returns-in_default-section_named-clause-found : goal.returns-in_default-section_named-clause-found
returns-in_default-section_named-clause-found c =
    slots_after_other _ c.args.k c.args.found.now (not_wanted c.in-Some.front.now _ (search rules) (search rules))
    c.requires.so_far

pub returns-then-is_some-clause-fails : goal.returns-then-is_some-clause-fails
returns-then-is_some-clause-fails c =
    let named = named_below _ c.args.k c.args.found.now _ _ c.index.ensures.index c.requires.so_far (search rules) in
    twice_fails IsWanted _ c.args.k c.requires.header (search rules) (search rules) (search rules) (search rules)

pub returns-in_err-lend-clause-fails : goal.returns-in_err-lend-clause-fails
returns-in_err-lend-clause-fails c =
    let none = none_below _ c.args.k c.args.found.now _ _ c.index.ensures.index c.requires.so_far (search rules) in
    let fails = lending_fails IsWanted _ c.args.k c.in_err-lend.field-0.0 c.requires.header (search rules)
    (search rules) (search rules) (search rules) c.in_err-lend.ensures.fails in
    search rules

pub returns-clause-passes : goal.returns-clause-passes
returns-clause-passes c =
    let none = none_below _ c.args.k c.args.found.now _ _ c.index.ensures.index c.requires.so_far (search rules) in
    lending_passes IsWanted _ c.args.k c.requires.header (search rules) (search rules) (search rules) (search rules)

pub returns-clause-found : goal.returns-clause-found
returns-clause-found c =
    slots_after_put _ c.args.k c.args.found.now _ _ _ c.index-2.ensures.index (search rules) c.requires.so_far
    c.requires.header.0 (search rules) (search rules) (search rules) (search rules)

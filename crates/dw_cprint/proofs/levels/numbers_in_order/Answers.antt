use Rattle.std.proofs.Common.{get_or, arith, subst}
use Rattle.dw_types.specs.Graphs.{Graph}
use Rattle.dw_types.specs.LongestRows.{AreLongest}
use Rattle.dw_cprint.proofs.LevelLemmas.{all-clear}
use Rattle.dw_cprint.proofs.ListingLemmas.{few-named}
use Rattle.dw_cprint.proofs.NumberLemmas.{numbers-ranked}
use Rattle.dw_cprint.proofs.levels.numbers_in_order.Goals as goal

pub numbers_by_level-requires : goal.numbers_by_level-requires
numbers_by_level-requires c = omega (arith, few-named c.requires)

pub returns : goal.returns
returns c =
    let clear = c.by_rank.result.now in
    let L : Graph → Type 0 = λ g. AreLongest g clear (λ node. get_or c.in_ok-levels.levels node 0) in
    let longest = subst L c.by_value.ensures c.in_ok-levels.ensures in
    let all = c.in_ok-numbers.ensures.all in
    record {
      level = λ id. get_or c.in_ok-levels.levels id 0;
      levels = λ entry w. longest entry (all-clear c.args.image.now clear c.by_rank.ensures entry w);
      all = all;
      by_level =
          numbers-ranked c.in_ok-levels.levels c.args.named.now c.in_ok-numbers.numbers.items c.requires.rising all
          c.in_ok-numbers.ensures.sorted;
    }

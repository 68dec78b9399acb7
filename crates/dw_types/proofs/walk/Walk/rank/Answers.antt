use Rattle.std.proofs.Common.{refl}
use Rattle.dw_types.proofs.RankLemmas.{ranks_listed-push}
use Rattle.dw_types.proofs.walk.Walk.rank.Goals as goal

pub returns : goal.returns
returns c =
    let it = c.self.inside in rw (
      ← c.self.view_is,
      c.in_ok-push.ensures,
      ranks_listed-push it.nodes it.by_rank
          c.args.node,
    ) refl

use Rattle.dw_cprint.proofs.NamedLemmas.{is_so_far}
use Rattle.dw_cprint.proofs.named.named_types.Goals as goal

pub loop-k-preserved : goal.loop-k-preserved
loop-k-preserved c = record {
  is =
      is_so_far c.args.source.now.image.now c.loop-k.k c.loop-k.named.ids.items _ c.loop-k.invariant.is
      c.in_ok-add.ensures.ids;
  are_names = c.in_ok-add.ensures.names;
  are_kinds = c.in_ok-add.ensures.kinds;
}

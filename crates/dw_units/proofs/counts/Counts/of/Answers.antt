use Rattle.dw_image.specs.Images.{units_in, type_count}
use Rattle.dw_image.proofs.JoinLemmas.{sound_image}
use Rattle.dw_units.proofs.counts.Counts.of.Goals as goal

pub returns-clause-counts : goal.returns-clause-counts
unfolding type_count
returns-clause-counts c = record {
  units = units_in c.args.image.now;
  sound = (sound_image c.args.image.now).sound;
  unit_count = c.units.ensures;
  entry_count = c.entries.ensures;
  type_count = c.types.ensures;
}

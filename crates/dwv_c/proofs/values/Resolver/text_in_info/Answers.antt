use Rattle.std.proofs.Common.{refl, arith}
use Rattle.dwv_c.proofs.NameLemmas.{part_in_file}
use Rattle.dwv_c.proofs.values.Resolver.text_in_info.Goals as goal

pub returns : goal.returns
returns c = record {
  section_is = refl;
  start_is = refl;
  length_is = search;
  place = part_in_file _ _ _ _ c.args.offset c.args.self.now.there.info c.requires.place
      (let p = c.requires.within in omega (arith, p));
}

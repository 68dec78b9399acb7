use Rattle.std.proofs.Common.{refl, arith}
use Rattle.dwv_c.proofs.NameLemmas.{part_in_file}
use Rattle.dwv_c.proofs.values.Resolver.span.Goals as goal

pub returns : goal.returns
returns c =
    let inside = c.requires.within in
    record {
      section_is = refl;
      start_is = refl;
      length_is = search;
      place = part_in_file _ _ _ _ c.args.offset c.args.self.now.there.info c.requires.place (omega (arith, inside));
      within = let all = c.args.self.now.there.info_within in omega (arith, inside, all);
    }

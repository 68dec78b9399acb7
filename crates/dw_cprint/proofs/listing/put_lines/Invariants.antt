use Rattle.std.proofs.Common.{◌≡◌, ◌++◌, map, get_or}
use Rattle.std.specs.Prelude.{All, flat_map}
use Rattle.dw_cprint.specs.Judgements.{IsPrintedNumber}
use Rattle.dw_cprint.specs.Listings.{declared_line}
use Rattle.dw_cprint.proofs.listing.put_lines.Given as goal

abbrev pub invariant-loop-number : goal.invariant-loop-number
invariant-loop-number l = record {
  printed : All (IsPrintedNumber l.source.image.now l.named.ids.items) l.number-iterator;
  so_far : l.out.items
      ++ flat_map (declared_line l.source.image.now) (map (λ k. get_or l.named.ids.items k 0) l.number-iterator)
      ≡ l.fn.out.items
      ++ flat_map (declared_line l.source.image.now) (map (λ k. get_or l.named.ids.items k 0) l.printed.keys);
}

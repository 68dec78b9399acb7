use Rattle.std.proofs.Common.{◌≡◌, ◌++◌, drop}
use Rattle.std.specs.Prelude.{flat_map}
use Rattle.dw_cprint.specs.Listings.{refused_line_in}
use Rattle.dw_cprint.proofs.listing.put_all_refused.Given as goal

abbrev pub invariant-loop-entry : goal.invariant-loop-entry
invariant-loop-entry l =
    l.out.items ++ flat_map (refused_line_in l.image) (drop l.entry-index l.refused)
    ≡ l.fn.out.items ++ flat_map (refused_line_in l.image) l.refused

use Rattle.std.proofs.Common.{◌++◌, ◌∙◌, ap, ℕ}
use Rattle.std.specs.Prelude.{flat_map}
use Rattle.dw_cprint.specs.Listings.{refused_line, refused_line_in}
use Rattle.dw_cprint.proofs.ListingLemmas.{lines-more}
use Rattle.dw_cprint.proofs.listing.put_all_refused.Goals as goal

pub loop-entry-preserved : goal.loop-entry-preserved
loop-entry-preserved c =
    let image = c.args.image.now in
    let one = c.loop-entry-item.result in
    let out = c.loop-entry.out.items in
    lines-more (refused_line_in image) out c.put_refused.new.out.items
    (c.args.out.now.items ++ flat_map (refused_line_in image) c.args.refused.now) c.args.refused.now
    c.loop-entry.entry-index one
    (c.in_ok-put_refused.ensures ∙ ap (λ (n : ℕ). out ++ refused_line n one.1) c.offset.ensures) c.loop-entry-test.true
    c.loop-entry-item.is c.loop-entry.invariant

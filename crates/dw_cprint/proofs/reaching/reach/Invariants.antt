use Rattle.std.proofs.Common.{◌≡◌, ◌-◌, length, map}
use Rattle.dw_image.specs.Images.{entries_in}
use Rattle.dw_types.specs.Packing.{cut}
use Rattle.dw_cprint.specs.EntryShapes.{shape_in}
use Rattle.dw_cprint.specs.Shapes.{view_shape}
use Rattle.dw_cprint.specs.Steps.{entries_among}
use Rattle.dw_cprint.proofs.ReachLemmas.{ArePacked, IsSoFar}
use Rattle.dw_cprint.proofs.reaching.reach.Given as goal

abbrev pub invariant-loop-found : goal.invariant-loop-found
invariant-loop-found l =
    IsSoFar (shape_in l.source.image.now) (entries_among l.fn.types) l.places.items l.found (cut l.steps 0 l.ends)
    (map view_shape l.shapes.items)
    × ArePacked l.found l.steps l.ends
    × (length l.places.items ≡ length (entries_in l.source.image.now))

abbrev pub decreases-loop-found : goal.decreases-loop-found
decreases-loop-found l = length (entries_in l.source.image.now) - length l.ends

use Rattle.std.proofs.Common.{◌≡◌, length}
use Rattle.dw_forms.specs.Suffixes.{specs_in}
use Rattle.dw_entries.specs.ItemFormats.{bytes_after, attributes}
use Rattle.dw_entries.specs.Units.{context_in}
use Rattle.dw_entries.proofs.item.skip_each.Given as goal

abbrev pub invariant-loop-spec : goal.invariant-loop-spec
invariant-loop-spec l =
    bytes_after ((attributes (context_in l.context) (specs_in l.left)).read l.rest)
    ≡ bytes_after ((attributes (context_in l.context) (specs_in l.attributes)).read l.bytes)

abbrev pub decreases-loop-spec : goal.decreases-loop-spec
decreases-loop-spec l = length (specs_in l.left)

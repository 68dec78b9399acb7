use Rattle.std.proofs.Common.{◌≡◌, length, drop}
use Rattle.dw_entries.specs.ValuesLeft.{info_of, placed_left}
use Rattle.dw_image.specs.Images.{sections_in}
use Rattle.dwv_c.specs.Tables.{HaveValues}
use Rattle.dwv_c.proofs.TableLemmas.{IsAtValue}
use Rattle.dwv_c.proofs.values.Resolver.put_values.Given as goal

abbrev pub invariant-items : goal.invariant-items
invariant-items l = record {
  here : IsAtValue l.self.holders l.self.image.now l.id l.at (placed_left l.left) l.named;
  info : info_of l.left ≡ (sections_in l.self.image.now).info.now;
  rows : HaveValues l.self.holders l.self.image.now l.at l.values;
  rest : drop l.at l.values ≡ drop l.at l.fn.values;
}

abbrev pub decreases-items : goal.decreases-items
decreases-items l = length (placed_left l.left)

use Rattle.std.proofs.Common.{◌≡◌, ◌∷◌, ℕ, zero, suc, None, List, replicate, ap, ◌∙◌, refl}
use Rattle.dw_types.specs.SizeTables.{Size}
use Rattle.dw_types.specs.StoredSizes.{sizes_in}
use Rattle.dw_types.proofs.size_table.SizeTable.none.Goals as goal

-- the number 0 stands for no size
sizes-zero : (count : ℕ) → sizes_in (replicate count 0) ≡ replicate count None
sizes-zero zero = refl
sizes-zero (suc count) = ap (λ (rest : List Size). None ∷ rest) (sizes-zero count)

pub returns : goal.returns
returns c = ap sizes_in c.in_ok-zeros.ensures ∙ sizes-zero c.args.count

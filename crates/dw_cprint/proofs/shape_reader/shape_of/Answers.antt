use Rattle.std.proofs.Common.{rules}
use Rattle.dw_cprint.specs.EntryShapes.{shape_in}
use Rattle.dw_cprint.proofs.shape_reader.shape_of.Goals as goal
use Rattle.dw_cprint.proofs.shape_reader.shape_of.Goals.{then-is_type, else-is_type}

pub returns-after-is_type : goal.returns-after-is_type
unfolding shape_in
returns-after-is_type c = elim c.if-is_type.branch [
  | then-is_type w ↦ rw w.result-is (search rules)
  | else-is_type w ↦ rw w.result-is (search rules)
]

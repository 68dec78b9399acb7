use Rattle.dw_cprint.specs.EntryShapes.{shape_in, subject_in}
use Rattle.dw_cprint.proofs.SameLemmas.{printed-one}
use Rattle.dw_cprint.proofs.laws.printed_ones_have_one_reading.Goals as goal

pub returns : goal.returns
returns c = λ image id. printed-one (shape_in image) (subject_in image id)

use Rattle.dw_image.proofs.JoinLemmas.{no_fault_of}
use Rattle.dw_image.proofs.laws.valid_has_no_fault.Goals as goal

pub returns : goal.returns
returns c = no_fault_of

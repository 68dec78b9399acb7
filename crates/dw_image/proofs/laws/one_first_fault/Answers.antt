use Rattle.dw_image.proofs.JoinLemmas.{one_first_fault_of}
use Rattle.dw_image.proofs.laws.one_first_fault.Goals as goal

pub returns : goal.returns
returns c = one_first_fault_of

use Rattle.dw_cprint.proofs.SameLemmas.{declaration-same, none-same, refuses-same, one-same}
use Rattle.dw_cprint.proofs.laws.shapes_reached_decide.Goals as goal

pub returns-clause-declared : goal.returns-clause-declared
returns-clause-declared c = declaration-same

pub returns-clause-refused : goal.returns-clause-refused
returns-clause-refused c = λ shapes others subject rule same. refuses-same shapes others subject same rule

pub returns-clause-printed : goal.returns-clause-printed
returns-clause-printed c = λ shapes others subject same. none-same shapes others subject same 7

pub returns-clause-one : goal.returns-clause-one
returns-clause-one c = one-same

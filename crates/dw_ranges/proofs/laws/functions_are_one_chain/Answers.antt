use Rattle.dw_ranges.proofs.ChainLaws.{all_these, one_at, only_these}
use Rattle.dw_ranges.proofs.laws.functions_are_one_chain.Goals as goal

pub returns : goal.returns
returns c = record {
  only = only_these;
  every = λ spans a fs ordered nested one chain s there has.
      all_these spans a ordered one nested fs chain s there has;
  one = λ spans a fs gs ordered one p q. one_at spans a ordered one fs gs p q;
}

use Rattle.dw_ranges.proofs.ChainLaws.{all_these}
use Rattle.dw_ranges.proofs.NestedLaws.{functions_nested}
use Rattle.dw_ranges.proofs.laws.functions_of_a_unit_are_one_chain.Goals as goal

pub returns : goal.returns
returns c = record {
  nested = functions_nested;
  every = λ sections code entries number before known has a fs one chain s there in_s.
      all_these known.spans a has.are.ordered one
      (functions_nested sections code entries number before known has) fs chain s there in_s;
}

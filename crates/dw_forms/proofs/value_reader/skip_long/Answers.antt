use Rattle.std.proofs.Common.{rules}
use Rattle.dw_forms.specs.Sizes.{rest_at}
use Rattle.dw_forms.specs.ValueFormats.{laid_out, leb_number, signed_leb_number}
use Rattle.dw_forms.proofs.value_reader.skip_long.Goals as goal

pub returns-in_err-read_uleb-in-Udata-clause-exact : goal.returns-in_err-read_uleb-in-Udata-clause-exact
unfolding rest_at laid_out leb_number
returns-in_err-read_uleb-in-Udata-clause-exact c = search rules

pub returns-in_err-read_sleb-in-Sdata-clause-exact : goal.returns-in_err-read_sleb-in-Sdata-clause-exact
unfolding rest_at laid_out signed_leb_number
returns-in_err-read_sleb-in-Sdata-clause-exact c = search rules

pub returns-in_ok-read_uleb-in-Udata-clause-exact : goal.returns-in_ok-read_uleb-in-Udata-clause-exact
unfolding rest_at laid_out leb_number
returns-in_ok-read_uleb-in-Udata-clause-exact c = search rules

pub returns-in_ok-read_sleb-in-Sdata-clause-exact : goal.returns-in_ok-read_sleb-in-Sdata-clause-exact
unfolding rest_at laid_out signed_leb_number
returns-in_ok-read_sleb-in-Sdata-clause-exact c = search rules

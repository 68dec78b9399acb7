use Rattle.std.proofs.Common.{arith}
use Rattle.dw_addresses.proofs.PathLemmas.{last_slash}
use Rattle.dw_addresses.proofs.file_path.has_slash_last.Goals as goal

pub returns-in-len1-up : goal.returns-in-len1-up
returns-in-len1-up c = last_slash c.args.path.now (omega (arith, c.in-len1-up.len_at_least))

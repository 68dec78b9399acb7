use Rattle.std.proofs.Common.{rules}
use Rattle.dwv_addr.proofs.WordLemmas.{flag_read}
use Rattle.dwv_addr.proofs.words.request_of.Goals as goal

pub returns-in-check-clause-ok : goal.returns-in-check-clause-ok
returns-in-check-clause-ok c =
    let is = c.get_flag.ensures in
    (search rules, flag_read c.args.matches.now c.get_flag.result is.none is.value is.other)

pub returns-in-find-clause-ok : goal.returns-in-find-clause-ok
returns-in-find-clause-ok c =
    let is = c.get_flag-in-find.ensures in
    (search rules, flag_read c.args.matches.now c.get_flag-in-find.result is.none is.value is.other)

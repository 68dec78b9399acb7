use Rattle.std.proofs.Common.{rules}
use Rattle.dwv.proofs.WordLemmas.{bad_offset, flag_read, no_offset, size_read}
use Rattle.dwv.proofs.words.request_of.Goals as goal

pub returns-in-check-clause-ok : goal.returns-in-check-clause-ok
returns-in-check-clause-ok c =
    let is = c.get_flag.ensures in
    (search rules, flag_read c.args.matches.now c.get_flag.result is.none is.value is.other)

pub returns-in_default-get_str-clause-bad_usage : goal.returns-in_default-get_str-clause-bad_usage
returns-in_default-get_str-clause-bad_usage c =
    λ _ request is. no_offset c.args.name.now c.args.matches.now c.in-size.is c.in_default-get_str.ensures request is

pub returns-in-Some-offset_of-clause-ok : goal.returns-in-Some-offset_of-clause-ok
returns-in-Some-offset_of-clause-ok c =
    size_read c.args.name.now c.args.matches.now c.in-Some.text.now c.in-Some-offset_of.offset c.in-size.is
    c.in-Some.ensures c.in-Some-offset_of.ensures

pub returns-in-None-clause-bad_offset : goal.returns-in-None-clause-bad_offset
returns-in-None-clause-bad_offset c =
    λ _. bad_offset c.args.name.now c.args.matches.now c.in-Some.text.now c.in-size.is c.in-Some.ensures
    c.in-None.ensures

use Rattle.std.proofs.Common.{map}
use Rattle.std.specs.String.{string_bytes}
use Rattle.clap.specs.Words.{found_of, rows_of}
use Rattle.dwv_addr.specs.Words.{asked_in}
use Rattle.dwv_addr.proofs.WordLemmas.{are_request, error_is, found_command, no_command, no_file, not_taken, one_command, same_error}
use Rattle.dwv_addr.proofs.words.words.Goals as goal

pub returns-in-Err-clause-bad_usage : goal.returns-in-Err-clause-bad_usage
returns-in-Err-clause-bad_usage c =
    λ is request file asked are. not_taken c.in_ok-forms.field-0 (map string_bytes c.args.words.now) c.in-Err.error
    c.in_ok-forms.ensures
    c.in-Err.ensures.kinds (c.refusal.ensures.usage (error_is is)) request file asked are

pub returns-in_default-clause-bad_usage : goal.returns-in_default-clause-bad_usage
returns-in_default-clause-bad_usage c =
    λ _ request file asked are. no_command c.in_ok-forms.field-0 (map string_bytes c.args.words.now) c.in-Ok.matches
    c.in_ok-forms.ensures
    c.in-Ok.ensures.matches c.in_default.ensures.variant request file asked are

pub returns-in_default-get_str-clause-bad_usage : goal.returns-in_default-get_str-clause-bad_usage
returns-in_default-get_str-clause-bad_usage c =
    let ws = map string_bytes c.args.words.now in
    let rows = rows_of (found_of c.in-Some.of_name.now) in
    let have = found_command c.in_ok-forms.field-0 ws c.in-Ok.matches c.in-Some.name.now rows c.in_ok-forms.ensures
    c.in-Ok.ensures.kinds
    c.in-Ok.ensures.matches c.in-Some.ensures.name c.in-Some.ensures.rows in
    λ _ request file asked are. no_file ws c.in-Some.name.now c.in-Some.of_name.now have c.in_default-get_str.ensures
    request
    file asked are

pub returns-in-Err-request_of-clause-bad_usage : goal.returns-in-Err-request_of-clause-bad_usage
returns-in-Err-request_of-clause-bad_usage c =
    let ws = map string_bytes c.args.words.now in
    let rows = rows_of (found_of c.in-Some.of_name.now) in
    let have = found_command c.in_ok-forms.field-0 ws c.in-Ok.matches c.in-Some.name.now rows c.in_ok-forms.ensures
    c.in-Ok.ensures.kinds
    c.in-Ok.ensures.matches c.in-Some.ensures.name c.in-Some.ensures.rows in
    λ is request file asked are. c.in-Err-request_of.ensures.bad_usage (same_error is) request
    (one_command ws c.in-Some.name.now rows have request file asked are).0

pub returns-clause-ok : goal.returns-clause-ok
returns-clause-ok c =
    let ws = map string_bytes c.args.words.now in
    let rows = rows_of (found_of c.in-Some.of_name.now) in
    let have = found_command c.in_ok-forms.field-0 ws c.in-Ok.matches c.in-Some.name.now rows c.in_ok-forms.ensures
    c.in-Ok.ensures.kinds
    c.in-Ok.ensures.matches c.in-Some.ensures.name c.in-Some.ensures.rows in (
      asked_in rows,
      are_request ws c.in-Some.name.now c.in-Some.of_name.now c.in-Ok-request_of.request c.in-Some-get_str.file.now
          (string_bytes c.in_ok-file.file) have c.in-Some-get_str.ensures c.in-Ok-request_of.ensures.ok
          c.in_ok-file.ensures.ok,
      c.in_ok-addresses.ensures,
    )

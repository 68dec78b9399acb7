use Rattle.std.proofs.Common.{◌≡◌, zero, suc, ◌+◌, ℕ, Ok, None, Some, length, take, drop, arith, rules, eq-eqb, refl}
use Rattle.std.proofs.Common.{List, Option, option_map, nat_lt, length-take-le}
use Rattle.std.specs.Prelude.{if◌then◌else◌, ◌==◌}
use Rattle.std.specs.Bool.{then_some}
use Rattle.std.proofs.lemmas.Bool.{eqb-true, lt-ltb}
use Rattle.std.proofs.lemmas.List.{take_rest}
use Rattle.std.proofs.lemmas.Result.{err_from_is_err_and}
use Rattle.std.proofs.Math.Dec.{eqb-suc-zero}
use Rattle.std.proofs.Math.Numerals.{add-one}
use Rattle.dw_forms.proofs.Texts.{text_none, text_found}
use Rattle.dw_forms.specs.BaseFormats.{null_terminated_at}
use Rattle.dw_lines.specs.Files.{path_view}
use Rattle.dw_lines.specs.declared.program.LinePath.{LinePath}
use Rattle.dw_lines.specs.declared.rule.LineRule.TheVariants.{LineCut}
use Rattle.dw_lines.proofs.tables.path_or_end.Goals as goal

pub returns-in_err-len-clause-exact : goal.returns-in_err-len-clause-exact
returns-in_err-len-clause-exact c =
    let e = err_from_is_err_and c.from_residual.result c.from_residual.ensures.1 in
    let none = rw c.in_err-len.ensures.ok_part at c.memchr.ensures in
    let cut = rw c.in_err-len.ensures.ok_part at c.in_err-len.ensures.value in
    rw (
      e.1,
      e.2,
      text_none LineCut c.args.bytes.now.now
          (λ j lt zero_there. none j (omega arith) lt (eq-eqb _ _ zero_there)),
    )
    cc

-- no path where it is empty
some_path : (path : List ℕ) (p : LinePath) (len : ℕ) (result : Option LinePath)
    → result ≡ then_some (nat_lt 0 len) p → path_view p ≡ path → length path ≡ len
    → (if length path == 0 then None else Some path) ≡ option_map path_view result
some_path path p zero result made same long = rw (made, long) refl
some_path path p (suc len) result made same long =
    rw (made, lt-ltb 0 (suc len) (omega arith), same, long, eqb-suc-zero len) refl

pub returns-clause-exact : goal.returns-clause-exact
returns-clause-exact c =
    let bytes = c.args.bytes.now.now in
    let len = c.in_ok-len.len in
    let first = rw c.in_ok-len.ensures.ok_part at c.memchr.ensures in
    let found : null_terminated_at LineCut bytes ≡ Ok (take len bytes, drop (suc len) bytes) =
    search (rules, text_found, eq-eqb, eqb-true) in
    rw (
      take_rest bytes (len + 1),
      add-one,
      found,
      some_path (take len bytes) _ len c.then_some.result c.then_some.ensures refl
          (length-take-le len bytes (omega (arith, first.0.high))),
    ) refl

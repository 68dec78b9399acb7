use Rattle.std.proofs.Common.{◌≡◌, None, Some, arith, eq-eqb, false, length, map, rules, true}
use Rattle.std.proofs.lemmas.List.{length-map}
use Rattle.dw_forms.specs.BaseFormats.{so_many}
use Rattle.dw_lines.specs.Files.{entries, file_view}
use Rattle.dw_lines.specs.Header.{numbers_of, parameters}
use Rattle.dw_lines.specs.declared.rule.LineRule.TheVariants.{LineCut}
use Rattle.dw_lines.proofs.FormatLaws.{leaves}
use Rattle.dw_lines.proofs.HeaderSteps.{header_read, tables_read}
use Rattle.dw_lines.proofs.program.LineSections.header.Goals as goal

pub overflow_sub-fields : goal.overflow_sub-fields
overflow_sub-fields c = omega (
  arith,
  leaves (parameters c.in_ok-version.version c.args.size) _ _ _ c.in_ok-parameters.ensures,
  leaves (so_many LineCut _) _ _ _ c.in_ok-lengths.ensures,
  leaves (entries c.args.self.now c.in_ok-version.version None) _ _ _ c.in_ok-directories.ensures,
  leaves (entries c.args.self.now c.in_ok-version.version (Some _)) _ _ _ c.in_ok-entries.ensures,
)

pub returns-in_err-entries : goal.returns-in_err-entries
returns-in_err-entries c =
    let count : length (map file_view c.in_ok-directories.directories.items) ≡ c.len.result =
    rw (length-map c.in_ok-directories.directories.items file_view) (search rules) in
    search (rules, count)

pub returns-then-fields-bytes : goal.returns-then-fields-bytes
returns-then-fields-bytes c =
    let count : length (map file_view c.in_ok-directories.directories.items) ≡ c.len.result =
    rw (length-map c.in_ok-directories.directories.items file_view) (search rules) in
    let both = tables_read c.args.self.now c.in_ok-version.version c.from-first.result _ _ _ _ _ _
    c.in_ok-directories.ensures count c.in_ok-entries.ensures c.from-first.ensures in
    header_read c.args.self.now c.args.size _ _ (numbers_of c.in_ok-parameters.parameters) c.in_ok-lengths.lengths.now
    _ _ _ _ _ _ _ c.in_ok-version.ensures c.in_ok-header_length.ensures.exact
    c.in_ok-parameters.ensures (rw c.from.ensures at c.in_ok-lengths.ensures) (search rules) both false
    (search rules)

pub returns : goal.returns
returns c =
    let count : length (map file_view c.in_ok-directories.directories.items) ≡ c.len.result =
    rw (length-map c.in_ok-directories.directories.items file_view) (search rules) in
    let both = tables_read c.args.self.now c.in_ok-version.version c.from-first.result _ _ _ _ _ _
    c.in_ok-directories.ensures count c.in_ok-entries.ensures c.from-first.ensures in
    header_read c.args.self.now c.args.size _ _ (numbers_of c.in_ok-parameters.parameters) c.in_ok-lengths.lengths.now
    _ _ _ _ _ _ _ c.in_ok-version.ensures c.in_ok-header_length.ensures.exact
    c.in_ok-parameters.ensures (rw c.from.ensures at c.in_ok-lengths.ensures) (search rules) both true
    (eq-eqb _ _ (omega (arith, c.if-fields-bytes.false)))

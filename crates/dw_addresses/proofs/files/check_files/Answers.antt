use Rattle.std.proofs.Common.{◌≡◌, ℕ, None, Option, ap, ◌∙◌, below_more, subst, sym}
use Rattle.dw_entries.specs.ByNumber.{entry_of}
use Rattle.dw_entries.specs.Entries.{Entry}
use Rattle.dw_entries.specs.Views.{all_entries}
use Rattle.dw_addresses.specs.declared.line_index.LineIndex.{LineIndex}
use Rattle.dw_addresses.specs.Lines.{no_file_at, no_file_in, program_of}
use Rattle.dw_addresses.proofs.files.check_files.Goals as goal

pub loop-number-preserved : goal.loop-number-preserved
loop-number-preserved c =
    let lines = c.args.lines.now in
    let all = all_entries c.args.entries.now in
    let n = c.loop-number.number in
    let is : c.at-entry.result ≡ entry_of all n = c.at-entry.ensures ∙ ap (entry_of all) c.id.ensures in
    below_more (λ (k : ℕ). no_file_at lines all k ≡ None) n c.loop-number.invariant
    (sym
    (subst (λ (e : Entry). None ≡ no_file_in (program_of lines e.unit) e) is
    (subst (λ (u : ℕ). None ≡ no_file_in (program_of lines u) c.at-entry.result) c.unit.ensures
    (subst (λ (o : Option LineIndex). None ≡ no_file_in o c.at-entry.result) c.program_of-program.ensures
    c.in_default.ensures))))

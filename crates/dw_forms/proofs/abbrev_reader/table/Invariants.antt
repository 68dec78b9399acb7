use Rattle.std.proofs.Common.{◌≤◌, ◌+◌, length, drop}
use Rattle.dw_forms.specs.declared.rule.Rule.TheVariants.{AbbrevCut}
use Rattle.dw_forms.specs.AbbrevReading.{placed_decl_at, decls_at}
use Rattle.dw_forms.proofs.SpelledLists.{ReadsOn}
use Rattle.dw_forms.proofs.abbrev_reader.table.Given as goal

abbrev pub invariant-loop-decl : goal.invariant-loop-decl
invariant-loop-decl l = record {
  fewer : length l.table + length l.rest ≤ length l.section;
  goes_on : ReadsOn (placed_decl_at (length l.section))
      (record { rule = AbbrevCut; at = length l.section; attribute = 0 }) l.table l.rest
      (decls_at (length l.section) (drop l.offset l.section));
}

abbrev pub decreases-loop-decl : goal.decreases-loop-decl
decreases-loop-decl l = length l.rest

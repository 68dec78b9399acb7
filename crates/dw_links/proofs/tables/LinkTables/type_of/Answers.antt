use Rattle.std.proofs.Common.{rules, sym, ◌∙◌, ℕ, Some, ap}
use Rattle.dw_links.proofs.TableLemmas.{target_within, kept_target, entry_of, all_entries, all_units}
use Rattle.dw_forms.specs.Codes.{DW_AT_type}
use Rattle.dw_links.proofs.tables.LinkTables.type_of.Goals as goal

pub id-requires : goal.id-requires
id-requires c =
    let kept = kept_target c.args.entries.now c.args.self.now c.args.id c.number.result c.index.result.now
    c.requires.tables c.requires.id c.number.ensures c.index.ensures in
    target_within _ (all_units c.args.entries.now) (entry_of (all_entries c.args.entries.now) c.args.id) DW_AT_type
    c.in_ok-number.number
    (sym (c.in_ok-number.ensures ∙ kept))

pub returns-clause-exact : goal.returns-clause-exact
returns-clause-exact c = search (rules, kept_target)

pub returns-clause-within : goal.returns-clause-within
returns-clause-within c =
    let kept = kept_target c.args.entries.now c.args.self.now c.args.id c.number.result c.index.result.now
    c.requires.tables c.requires.id c.number.ensures c.index.ensures in
    target_within _ (all_units c.args.entries.now) (entry_of (all_entries c.args.entries.now) c.args.id) DW_AT_type
    c.id.result
    (sym (ap (λ (n : ℕ). Some n) c.id.ensures ∙ c.in_ok-number.ensures ∙ kept))

pub returns-in_err-number-clause-exact : goal.returns-in_err-number-clause-exact
returns-in_err-number-clause-exact c = search (rules, kept_target)

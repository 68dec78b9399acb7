use Rattle.std.proofs.Common.{rules, refl, sym, inr, ◌∙◌}
use Rattle.std.proofs.lemmas.Option.{slice_get-get_or}
use Rattle.dw_forms.specs.Value.{view}
use Rattle.dw_links.proofs.RuleGroups.{least_none, wrong_first, right_sibling, all_entries, all_units}
use Rattle.dw_links.proofs.TargetLemmas.{reached_within, no_entry, entry_of}
use Rattle.dw_links.proofs.targets.Declared.ask.Goals as goal

pub is_permitted-requires : goal.is_permitted-requires
is_permitted-requires c =
    let entries = c.args.self.now.entries.now in
    reached_within (all_entries entries) (all_units entries) c.args.head.now.unit (view c.args.value.now) c.in-Some.id
    (sym c.requires.reached ∙ c.in-Some.is)

pub returns-then-not-is_permitted-clause-rule : goal.returns-then-not-is_permitted-clause-rule
returns-then-not-is_permitted-clause-rule c =
    let entries = c.args.self.now.entries.now in
    let es = all_entries entries in
    let reaches = sym c.requires.reached ∙ c.in-Some.is in
    wrong_first es (all_units entries) c.args.head.now c.args.attribute (view c.args.value.now) c.in-Some.id
    reaches (search rules)
    (inr (record {
      id = c.in-Some.id;
      reaches = refl;
      target = entry_of es c.in-Some.id;
      is_target = slice_get-get_or es c.in-Some.id no_entry
          (reached_within es (all_units entries) c.args.head.now.unit (view c.args.value.now) c.in-Some.id reaches);
      wrong = sym c.if-not-is_permitted.ensures.exact;
    }))

pub returns-then-ne-clause-rule : goal.returns-then-ne-clause-rule
returns-then-ne-clause-rule c = search (rules, least_none)

pub returns-then-eq-clause-rule : goal.returns-then-eq-clause-rule
returns-then-eq-clause-rule c =
    let entries = c.args.self.now.entries.now in
    let reaches = sym c.requires.reached ∙ c.in-Some.is in
    least_none (all_entries entries) (all_units entries) c.args.head.now c.args.attribute (view c.args.value.now)
    c.in-Some.id reaches (search rules) (search rules) (λ p. right_sibling _ _ _ reaches (search rules) p.1)

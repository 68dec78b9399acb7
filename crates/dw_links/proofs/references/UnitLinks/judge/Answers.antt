use Rattle.std.proofs.Common.{rules, inl, None, Some, ◌∙◌, inr}
use Rattle.dw_forms.specs.Value.{view}
use Rattle.dw_links.specs.UnitAtHand.{entries_followed}
use Rattle.dw_links.proofs.LeadSteps.{may_ask}
use Rattle.dw_links.proofs.TargetLemmas.{reach_within}
use Rattle.dw_links.proofs.UnitToAll.{least_by_texts}
use Rattle.dw_links.proofs.references.UnitLinks.judge.Goals as goal

pub number_of-target-requires : goal.number_of-target-requires
number_of-target-requires c = search (rules, reach_within)

pub ask-requires-2-clause-headers : goal.ask-requires-2-clause-headers
ask-requires-2-clause-headers c = rw c.requires.of c.requires.may.linkable.headers

pub returns-in-Some-clause-err : goal.returns-in-Some-clause-err
returns-in-Some-clause-err c =
    let may = may_ask _ _ _ _ c.requires.may c.entry.ensures c.head-head.ensures in
    rw (← c.entry.ensures, ← c.head-head.ensures) (inl (record {
      rule = c.in-Some.rule;
      least =
          least_by_texts (entries_followed c.args.self.now) c.args.self.now.texts c.head-head.result may.linkable.texts
          may.in_unit c.args.attribute (view c.args.value.now) (Some c.in-Some.rule) c.in-Some.ensures;
      named = c.plain_fault_at.ensures;
    }))

pub returns-in-None-clause-ok : goal.returns-in-None-clause-ok
returns-in-None-clause-ok c =
    let may = may_ask _ _ _ _ c.requires.may c.entry.ensures c.head-head.ensures in
    rw (← c.entry.ensures, ← c.head-head.ensures) (record {
      strings =
          least_by_texts (entries_followed c.args.self.now) c.args.self.now.texts c.head-head.result
          may.linkable.texts may.in_unit c.args.attribute (view c.args.value.now) None c.in_default.ensures;
      references = rw c.requires.of at c.in-None.ensures.rule;
      is_target = c.number_of-target.ensures ∙ c.reach-reached.ensures;
    })

pub returns-in-Some-ask-clause-err : goal.returns-in-Some-ask-clause-err
returns-in-Some-ask-clause-err c =
    rw (← c.entry.ensures, ← c.head-head.ensures) (inr (record {
      rule = c.in-Some-ask.rule;
      least = rw c.requires.of at c.in-Some-ask.ensures.rule;
      named = c.plain_fault_at-in-Some-ask.ensures;
    }))

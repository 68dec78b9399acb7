use Rattle.std.proofs.Common.{rules, arith}
use Rattle.dw_forms.proofs.ListStarts.{pair_less, code_before, no_list, next_leads, next_placed, next_stay}
use Rattle.dw_forms.proofs.OffsetLaws.{apart_few, stay_same, stay_on}
use Rattle.dw_forms.proofs.list_reader.KeptLists.keep_pairs.Goals as goal

pub loop-at-init : goal.loop-at-init
loop-at-init c = record { leads = c.requires.leads; placed = c.requires.lists; stay = stay_same _ }

pub push-requires-clause-rest : goal.push-requires-clause-rest
push-requires-clause-rest c = c.loop-at.invariant.leads.list.within

pub push-requires-clause-few : goal.push-requires-clause-few
push-requires-clause-few c = search (rules, apart_few)

pub push-requires-clause-code : goal.push-requires-clause-code
push-requires-clause-code c = code_before _ _ c.in-Some.ensures.items c.loop-at.invariant.leads

pub returns-in_default-2-clause-fault : goal.returns-in_default-2-clause-fault
returns-in_default-2-clause-fault c =
    no_list c.pop.new.self.items c.in-Some.field-0 c.in-Some.ensures.items c.loop-at.invariant.leads
    c.push.new.self.nodes.items (search rules)

pub loop-at-preserved : goal.loop-at-preserved
loop-at-preserved c =
    let parts = c.in-Some.ensures.items in
    let i = c.loop-at.invariant in
    let added = rw c.in-Some-2.is at c.in_ok-longer.ensures.added in
    record {
      leads = rw c.in_ok-push.ensures (next_leads _ _ parts i.leads _ _ added);
      placed =
          rw c.in_ok-push.ensures (next_placed _ _ parts i.leads _ _ added
          c.loop-at.self.ends.items c.push_end.new.ends.items i.placed c.in_ok-push_end.ensures);
      stay = stay_on _ _ _ i.stay (next_stay _ _ parts i.leads _ _ added);
    }

pub overflow_cast-at : goal.overflow_cast-at
overflow_cast-at c =
    let less = pair_less _ _ c.in-Some.ensures.items c.loop-at.invariant.leads in
    omega (arith, c.requires.fits)

use Rattle.std.proofs.Common.{rules, arith}
use Rattle.dw_forms.specs.KeptDecls.{tables_of}
use Rattle.dw_forms.proofs.KeptLaws.{tables_long}
use Rattle.dw_forms.proofs.OffsetLaws.{apart_few, stay_same, stay_on}
use Rattle.dw_forms.proofs.StartLaws.{popped, start_less, goes_on, turn_none, turn_new, turn_stay, turn_starts, turn_leads}
use Rattle.dw_forms.proofs.abbrev_tables.AbbrevTables.keep.Goals as goal

pub loop-at-init : goal.loop-at-init
loop-at-init c = search (rules, stay_same, goes_on)

pub push-requires-clause-few : goal.push-requires-clause-few
push-requires-clause-few c = search (rules, apart_few, tables_long)

pub push-requires-clause-rest : goal.push-requires-clause-rest
push-requires-clause-rest c = search (rules, tables_long)

pub push-requires-clause-list : goal.push-requires-clause-list
push-requires-clause-list c =
    (popped c.pop.new.self.items c.in-Some.field-0 c.in-Some.ensures.items c.loop-at.invariant.leads).1.kept

pub returns-in_default-kept-clause-whole : goal.returns-in_default-kept-clause-whole
returns-in_default-kept-clause-whole c =
    turn_none c.pop.new.self.items c.in-Some.field-0 c.in-Some.ensures.items c.loop-at.invariant.leads
    (tables_of c.loop-at.self.lists.lists.nodes.items c.push.new.kept.items) (search rules)

pub loop-at-preserved : goal.loop-at-preserved
loop-at-preserved c =
    let i = c.loop-at.invariant in
    let left = c.pop.new.self.items in
    let p = c.in-Some.field-0 in
    let parts = c.in-Some.ensures.items in
    let new = tables_of c.loop-at.self.lists.lists.nodes.items c.push.new.kept.items in
    let added = rw c.in-Some-kept.is at c.in_ok-kept.ensures.added in
    let on = turn_new left p parts i.leads c.loop-at.self.starts.starts.items i.new in
    record {
      tables =
          record {
            searchable = c.in_ok-kept.ensures.kept;
            lists = i.tables.lists;
            starts = rw c.in_ok-push.ensures
                (turn_starts left p parts i.leads new c.in-Some-kept.longer added c.loop-at.self.starts.starts.items
                i.tables.starts on.0);
          };
      stay = stay_on _ _ new i.stay (turn_stay left p parts i.leads new c.in-Some-kept.longer added);
      new = rw c.in_ok-push.ensures on.1;
      leads = turn_leads left p parts i.leads new c.in-Some-kept.longer added;
    }

pub overflow_cast-at : goal.overflow_cast-at
overflow_cast-at c =
    let less = start_less c.pop.new.self.items c.in-Some.field-0 c.in-Some.ensures.items c.loop-at.invariant.leads in
    omega (arith, c.requires.fits)

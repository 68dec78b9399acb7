use Rattle.std.proofs.Common.{rules, arith}
use Rattle.std.proofs.lemmas.Result.{err_from_is_err_and}
use Rattle.dw_forms.specs.TableStarts.{IsDeclAt}
use Rattle.dw_forms.proofs.OffsetLaws.{along_push, new_push, stay_same, stay_on}
use Rattle.dw_forms.proofs.StartLaws.{table_end, decls_stay, front_fails}
use Rattle.dw_forms.proofs.abbrev_tables.read_front.Goals as goal

pub loop-decls-init : goal.loop-decls-init
loop-decls-init c = search (rules, stay_same)

pub returns-then-rest-ne0-clause-front : goal.returns-then-rest-ne0-clause-front
returns-then-rest-ne0-clause-front c =
    record {
      end = c.loop-decls.at;
      along = c.loop-decls.invariant.along;
      new = c.loop-decls.invariant.new;
      goes_on = search (rules);
    }

pub returns-in_err-next-clause-fault : goal.returns-in_err-next-clause-fault
returns-in_err-next-clause-fault c =
    let e = err_from_is_err_and c.from_residual.result c.from_residual.ensures.1 in
    rw (e.1, e.2) (front_fails c.args.section.now c.loop-decls.lists.lists.nodes.items c.in_err-next.field-0.0
    c.loop-decls.decls.items c.args.offset c.loop-decls.at c.loop-decls.invariant.along c.in_err-next.ensures.fault)

pub returns-in_default-clause-front : goal.returns-in_default-clause-front
returns-in_default-clause-front c = search (rules, decls_stay, table_end)

pub returns-in_default-clause-more : goal.returns-in_default-clause-more
returns-in_default-clause-more c =
    record {
      lists = c.in_ok-next.ensures.more.lists;
      stay = stay_on _ _ _ c.loop-decls.invariant.more.stay c.in_ok-next.ensures.more.stay;
    }

pub loop-decls-smaller : goal.loop-decls-smaller
loop-decls-smaller c = search (rules)

pub loop-decls-preserved : goal.loop-decls-preserved
loop-decls-preserved c =
    let i = c.loop-decls.invariant in
    let next = rw c.in-Some.is at c.in_ok-next.ensures.next in
    let none = c.if-rest-ne0.false in
    let nothing = c.find-rest.ensures.none (omega arith) c.args.offset c.requires.known i.from in
    let before = decls_stay c.args.section.now _ _ c.in_ok-next.ensures.more.stay c.loop-decls.decls.items c.args.offset
    c.loop-decls.at i.along in
    let from = i.from in
    record {
      from = omega arith;
      within = next.fits;
      more =
          record {
            lists = c.in_ok-next.ensures.more.lists;
            stay = stay_on _ _ _ i.more.stay c.in_ok-next.ensures.more.stay;
          };
      along =
          rw c.in_ok-push.ensures.items (along_push (IsDeclAt c.args.section.now _) c.loop-decls.decls.items
          c.args.offset c.loop-decls.at c.in_ok-next.after _ before next);
      new =
          rw c.in_ok-push.ensures.items (new_push c.args.starts.now.starts.items c.loop-decls.decls.items _ i.new
          nothing);
    }

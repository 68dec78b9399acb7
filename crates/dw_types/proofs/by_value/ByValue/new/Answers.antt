use Rattle.std.proofs.Common.{rules, ◌≡◌, ℕ, Bool, ◌+◌, ◌-◌, ◌<◌, ◌≤◌, ◌++◌, [], true, false, List, length, None, get_or, replicate, take, ap, ◌∙◌, arith, append-nil, length-append, refl, sym}
use Rattle.std.proofs.lemmas.List.{take_all}
use Rattle.std.proofs.lemmas.List.Sums.{count_by_more_no, count_by_more_yes}
use Rattle.dw_entries.specs.Entries.{Entry, entries_of}
use Rattle.dw_entries.specs.Failures.{IsFirst}
use Rattle.dw_entries.specs.Views.{units_of}
use Rattle.dw_entries.proofs.EntryFacts.{entries_rise}
use Rattle.dw_forms.specs.Codes.{is_type_tag}
use Rattle.dw_forms.specs.KeptDecls.{decl_view}
use Rattle.dw_types.specs.Entries.{entry_in}
use Rattle.dw_types.specs.Held.{units_held}
use Rattle.dw_types.specs.Kinds.{count_of_types}
use Rattle.dw_types.specs.Packing.{cut}
use Rattle.dw_types.specs.Shapes.{fails_shape, ShapeFailures}
use Rattle.dw_types.specs.StepFlags.{is_leaf}
use Rattle.dw_types.specs.Steps.{by_value, steps_by_value}
use Rattle.dw_types.specs.TypeFailures.{plain_fault_at, IsLeastAt}
use Rattle.dw_types.proofs.FirstLemmas.{first-of_entries, none-of_entries, pass-more, plain-fault}
use Rattle.dw_types.proofs.MemberLemmas.{leads-row, untyped-row}
use Rattle.dw_types.proofs.PackingLemmas.{added-none, fills-all, fills-more, fills-next, fills-none, FillsUpTo}
use Rattle.dw_types.proofs.PackingLemmas.{PacksUpTo}
use Rattle.dw_types.proofs.ShapeLemmas.{other-passes}
use Rattle.dw_types.proofs.SizeFlagLemmas.{has_steps, is_member, tells-more, tells-next, tells-none, TellsUpTo}
use Rattle.dw_types.proofs.SizeFlagLemmas.{tell-sizes, tell-steps}
use Rattle.dw_types.proofs.SizeFlagLemmas.{no-steps, some-steps, stepped-leaf, typed-leaf, untyped-leaf}
use Rattle.dw_types.proofs.StepLemmas.{by_value-at, by_value-from_step, length-by_value, step-from_by_value}
use Rattle.dw_types.proofs.by_value.ByValue.new.Goals as goal
use Rattle.dw_types.proofs.by_value.ByValue.new.Goals.{then-is_type+in_ok-rule+in_default, then-is_type-via-then-is_type, then-is_type-via-else-is_type+then-is_member, else-is_type+else-is_member}
use Rattle.dw_types.proofs.by_value.ByValue.new.Goals.{then-is_type-2+in_ok-push_row+then-len-end, then-is_type-2+in_ok-push_row+else-len-end+in_ok-fill+in_ok-push, else-is_type-2}
use Rattle.dw_types.proofs.by_value.ByValue.new.Goals.{In_ok-fill-2, Joined-is_type}

pub new-linked-requires : goal.new-linked-requires
new-linked-requires c = rw (← c.requires.entries) c.tables.ensures

pub loop-node-init : goal.loop-node-init
loop-node-init c =
    let us = units_of c.args.entries.now in
    let count : c.count-count.result ≡ length (entries_of us) =
    rw (← c.new-linked.ensures.same, ← c.count-count.ensures) refl in
    record {
      fills = rw (c.in_ok-steps.ensures, c.in_ok-ends.ensures) (fills-none (by_value us));
      leads = rw c.in_ok-steps.ensures (λ k below. absurd (omega arith));
      same = c.new-linked.ensures.same;
      passed = λ k below. absurd (omega arith);
      types = refl;
      end = rw c.in_ok-steps.ensures refl;
      with_steps =
          tells-none (length (entries_of us)) (has_steps us) c.in_ok-with_steps.with_steps
          (rw count at c.in_ok-with_steps.ensures.room) c.in_ok-with_steps.ensures.none;
      leaves =
          tells-none (length (entries_of us)) (is_leaf us) c.in_ok-leaves.leaves
          (rw count at c.in_ok-leaves.ensures.room) c.in_ok-leaves.ensures.none;
      members =
          tells-none (length (entries_of us)) (is_member us) c.in_ok-members.members
          (rw count at c.in_ok-members.ensures.room) c.in_ok-members.ensures.none;
    }

pub returns-in-Some-clause-fault : goal.returns-in-Some-clause-fault
returns-in-Some-clause-fault c =
    let us = units_of c.args.entries.now in
    let node = c.loop-node.node in
    let inside : node < length (entries_of us) = rw (← c.new-linked.ensures.same, ← c.count-count.ensures)
    c.loop-node-test.true in
    rw c.requires.entries
    (plain-fault (IsFirst (ShapeFailures us)) (plain_fault_at c.in-Some.rule (entry_in us node).at) c.fault.result
    (first-of_entries (entries_of us) (fails_shape us) (entries_rise _ us c.args.entries.now.scanned.1.spells.are) node
    c.in-Some.rule record {
      inside = inside;
      least = rw (c.loop-node.invariant.same, c.id-id.ensures, c.in-Some.is) at c.in_ok-rule.ensures.least;
      before = c.loop-node.invariant.passed;
    })
    (rw (c.in_ok-rule.ensures.same, c.loop-node.invariant.same, c.id-id.ensures) at c.fault.ensures))

module _ (c : Joined-is_type) where
  decl : decl_view c.decl-decl.result ≡ (entry_in (units_of c.args.entries.now) c.loop-node.node).head.decl
  decl = rw (c.loop-node.invariant.same, c.id-id.ensures) at c.decl-decl.ensures

  is_type : c.is_type-is_type.result
      ≡ is_type_tag (entry_in (units_of c.args.entries.now) c.loop-node.node).head.decl.tag
  is_type = c.is_type-is_type.ensures ∙ ap (λ d. is_type_tag d.tag) decl

  member : c.eq-is_member.result ≡ is_member (units_of c.args.entries.now) c.loop-node.node
  member = search (rules, decl)

  -- what holds once the shape of an entry was looked at, if it had to be
  looked : (units_held c.if-is_type.linked ≡ units_of c.args.entries.now)
      × (IsLeastAt (fails_shape (units_of c.args.entries.now)) c.loop-node.node None)
      × (TellsUpTo (length (entries_of (units_of c.args.entries.now))) (is_member (units_of c.args.entries.now))
      c.if-is_type.members (c.loop-node.node + 1))
  looked =
      let us = units_of c.args.entries.now in
      let count = length (entries_of us) in
      let node = c.loop-node.node in
      let before = c.loop-node.invariant in
      elim c.if-is_type.branch [
        | then-is_type+in_ok-rule+in_default w ↦ (
          rw w.linked-is (w.in_ok-rule.ensures.same ∙ before.same),
          rw (before.same, c.id-id.ensures, w.in_default.is) at w.in_ok-rule.ensures.least,
          rw w.members-is (tells-more count (is_member us) c.loop-node.members w.set_if.new.self node
              c.eq-is_member.result before.members member w.set_if.ensures.room w.set_if.ensures.set),
        )
        | else-is_type+else-is_member w ↦ (
          rw w.linked-is before.same,
          other-passes us node (sym is_type ∙ w.if-is_type.false) (sym member ∙ w.if-is_member.false),
          rw w.members-is (tells-next count (is_member us) c.loop-node.members node before.members
              (sym member ∙ w.if-is_member.false)),
        )
      ]

pub push_row-requires-clause-id : goal.push_row-requires-clause-id
push_row-requires-clause-id c =
    rw ((looked (goal.at.push_row-requires-clause-id c).Joined-is_type).0, c.id-id.ensures)
    (rw (← c.new-linked.ensures.same, ← c.count-count.ensures) c.loop-node-test.true)

pub push_row-requires-clause-tag : goal.push_row-requires-clause-tag
push_row-requires-clause-tag c =
    let joined = (goal.at.push_row-requires-clause-tag c).Joined-is_type in
    rw ((looked joined).0, c.id-id.ensures) (c.tag-then-is_type-2.ensures ∙ ap (λ d. d.tag) (decl joined))

pub loop-node-preserved : goal.loop-node-preserved
loop-node-preserved c =
    let us = units_of c.args.entries.now in
    let count = length (entries_of us) in
    let steps = c.loop-node.steps in
    let ends = c.loop-node.ends in
    let node = c.loop-node.node in
    let before = c.loop-node.invariant in
    let joined = (goal.at.loop-node-preserved c).Joined-is_type in
    let tag = (entry_in us node).head.decl.tag in
    let test : Entry → Bool = λ entry. is_type_tag entry.head.decl.tag in
    let below : node < count = rw (← c.new-linked.ensures.same, ← c.count-count.ensures) c.loop-node-test.true in
    let is : c.is_type-is_type.result ≡ is_type_tag tag = is_type joined in
    let row = steps_by_value us node in
    let first = looked joined in
    let same = first.0 in
    let at : get_or (by_value us) node [] ≡ row = by_value-at us node below in
    let turn : FillsUpTo (by_value us) c.if-is_type-2.steps c.if-is_type-2.ends (node + 1)
    × (c.if-is_type-2.steps ≡ steps ++ row) × (units_held c.if-is_type-2.linked ≡ us)
    × (c.if-is_type-2.types ≡ count_of_types (take (node + 1) (entries_of us)))
    × (c.if-is_type-2.end ≡ length c.if-is_type-2.steps)
    × TellsUpTo count (has_steps us) c.if-is_type-2.with_steps (node + 1)
    × TellsUpTo count (is_leaf us) c.if-is_type-2.leaves (node + 1) = elim c.if-is_type-2.branch [
      | then-is_type-2+in_ok-push_row+then-len-end w ↦
          let typed : is_type_tag tag ≡ true = sym is ∙ w.if-is_type-2.true in
          let pushed : w.push_row.new.steps ≡ steps ++ row =
          rw (same, c.id-id.ensures) at w.in_ok-push_row.ensures.steps in
          let added : c.if-is_type-2.steps ≡ steps ++ row = w.steps-is ∙ pushed in
          let long : length (steps ++ row) ≡ length steps =
          ap (λ (xs : List ℕ). length xs) (sym pushed)
          ∙ (sym w.len.ensures ∙ (w.if-len-end.true ∙ before.end)) in
          let none : row ≡ [] = added-none steps row long in
          let now : c.if-is_type-2.steps ≡ steps = rw (none, append-nil) at added in (
            rw (now, w.ends-is) (fills-next (by_value us) steps ends node before.fills (at ∙ none)),
            added,
            rw w.linked-is (w.in_ok-push_row.ensures.same ∙ same),
            search (rules, count_by_more_yes),
            rw (w.end-is, now) before.end,
            rw w.with_steps-is
                (tells-next count (has_steps us) c.loop-node.with_steps node before.with_steps (no-steps us node none)),
            rw w.leaves-is
                (tells-more count (is_leaf us) c.loop-node.leaves w.set_if-then-len-end.new.self node true before.leaves
                (sym (typed-leaf us node typed none)) w.set_if-then-len-end.ensures.room
                w.set_if-then-len-end.ensures.set),
          )
      | then-is_type-2+in_ok-push_row+else-len-end+in_ok-fill+in_ok-push w ↦
          let typed : is_type_tag tag ≡ true = sym is ∙ w.if-is_type-2.true in
          let pushed : w.push_row.new.steps ≡ steps ++ row =
          rw (same, c.id-id.ensures) at w.in_ok-push_row.ensures.steps in
          let added : c.if-is_type-2.steps ≡ steps ++ row = w.steps-is ∙ pushed in
          let long : w.len.result ≡ length steps + length row =
          w.len.ensures ∙ (ap (λ (xs : List ℕ). length xs) pushed ∙ length-append steps row) in
          let some : 0 < length row = let end = before.end in let apart = w.if-len-end.false in omega arith in
          let filled : w.fill.new.self ≡ ends ++ replicate (node - length ends) (length steps) =
          rw before.end at w.in_ok-fill.ensures in
          let end : w.len-end.result ≡ length (steps ++ row) =
          w.len-end.ensures ∙ ap (λ (xs : List ℕ). length xs) pushed in (
            rw (added, w.ends-is, w.in_ok-push.ensures, end, filled)
                (fills-more (by_value us) steps ends node before.fills row
                (let long = length-by_value us in omega arith) at),
            added,
            rw w.linked-is (w.in_ok-push_row.ensures.same ∙ same),
            search (rules, count_by_more_yes),
            rw (w.end-is, added) end,
            rw w.with_steps-is
                (tells-more count (has_steps us) c.loop-node.with_steps w.set_if-else-len-end.new.self node true
                before.with_steps (sym (some-steps us node some)) w.set_if-else-len-end.ensures.room
                w.set_if-else-len-end.ensures.set),
            rw w.leaves-is
                (tells-next count (is_leaf us) c.loop-node.leaves node before.leaves (stepped-leaf us node some)),
          )
      | else-is_type-2 w ↦
          let untyped : is_type_tag tag ≡ false = sym is ∙ w.if-is_type-2.false in
          let none : row ≡ [] = sym (untyped-row us node untyped) in (
            rw (w.steps-is, w.ends-is) (fills-next (by_value us) steps ends node before.fills (at ∙ none)),
            rw (w.steps-is, none, append-nil) refl,
            rw w.linked-is same,
            search (rules, count_by_more_no),
            rw (w.end-is, w.steps-is) before.end,
            rw w.with_steps-is
                (tells-next count (has_steps us) c.loop-node.with_steps node before.with_steps (no-steps us node none)),
            rw w.leaves-is
                (tells-next count (is_leaf us) c.loop-node.leaves node before.leaves (untyped-leaf us node untyped)),
          )
    ] in record {
      fills = turn.0;
      leads = rw turn.1 (leads-row us node steps before.leads);
      same = turn.2;
      passed = pass-more (fails_shape us) node before.passed first.1;
      types = turn.3;
      end = turn.4;
      with_steps = turn.5;
      leaves = turn.6;
      members = first.2;
    }

over : (c : In_ok-fill-2) → length (entries_of (units_of c.args.entries.now)) ≤ c.loop-node.node
over c = rw (← c.new-linked.ensures.same, ← c.count-count.ensures) c.loop-node-test.false

packed : (c : In_ok-fill-2)
    → PacksUpTo (by_value (units_of c.args.entries.now)) c.loop-node.steps c.fill-2.new.self c.loop-node.node
packed c =
    let us = units_of c.args.entries.now in
    let steps = c.loop-node.steps in
    let ends = c.loop-node.ends in
    let before = c.loop-node.invariant in
    let long = length-by_value us in
    let inside : c.loop-node.node ≤ length (entries_of us) =
    rw (← c.new-linked.ensures.same, ← c.count-count.ensures) c.loop-node.auto.node-end in
    let same : c.count-count.result ≡ c.loop-node.node = omega arith in
    let filled : c.fill-2.new.self ≡ ends ++ replicate (c.loop-node.node - length ends) (length steps) =
    rw (before.end, same) at c.in_ok-fill-2.ensures in
    rw filled (fills-all (by_value us) steps ends c.loop-node.node before.fills (omega arith))

pub from_rows-packed-requires-clause-in_order : goal.from_rows-packed-requires-clause-in_order
from_rows-packed-requires-clause-in_order c = (packed c).in_order

pub from_rows-packed-requires-clause-leads : goal.from_rows-packed-requires-clause-leads
from_rows-packed-requires-clause-leads c k below =
    let leads = c.loop-node.invariant.leads k below in
    let over = over (goal.at.from_rows-packed-requires-clause-leads c).In_ok-fill-2 in
    let count = (packed c).ends_so_far in omega arith

graph : (c : In_ok-fill-2) → cut c.loop-node.steps 0 c.fill-2.new.self ≡ by_value (units_of c.args.entries.now)
graph c =
    let us = units_of c.args.entries.now in
    let long = length-by_value us in
    let over : length (entries_of us) ≤ c.loop-node.node = over c in
    (packed c).same ∙ take_all c.loop-node.node (by_value us) (omega arith)

pub invariant_of-result : goal.invariant_of-result
invariant_of-result c = record {
  told = rw (c.from_rows-packed.ensures, graph (goal.at.invariant_of-result c).In_ok-fill-2)
      (tell-steps (units_of c.args.entries.now) c.loop-node.node
      (over (goal.at.invariant_of-result c).In_ok-fill-2) c.loop-node.with_steps
      c.loop-node.invariant.with_steps);
}

pub returns-clause-graph : goal.returns-clause-graph
returns-clause-graph c =
    rw c.requires.entries (c.from_rows-packed.ensures ∙ graph (goal.at.returns-clause-graph c).In_ok-fill-2)

pub returns-clause-steps : goal.returns-clause-steps
returns-clause-steps c =
    let us = units_of c.args.entries.now in
    rw (c.from_rows-packed.ensures, graph (goal.at.returns-clause-steps c).In_ok-fill-2, c.requires.entries)
    (λ from to. (by_value-from_step us from to, step-from_by_value us from to))

pub returns-clause-types : goal.returns-clause-types
returns-clause-types c =
    let entries = entries_of (units_of c.args.entries.now) in
    let over = over (goal.at.returns-clause-types c).In_ok-fill-2 in
    rw (c.requires.entries, c.loop-node.invariant.types, take_all c.loop-node.node entries over) refl

pub returns-clause-flags : goal.returns-clause-flags
returns-clause-flags c =
    rw c.requires.entries
    (tell-sizes (units_of c.args.entries.now) c.loop-node.node
    (over (goal.at.returns-clause-flags c).In_ok-fill-2) record {
      leaves = c.loop-node.leaves;
      members = c.loop-node.members;
    } c.loop-node.invariant.leaves c.loop-node.invariant.members)

pub returns-clause-sound : goal.returns-clause-sound
returns-clause-sound c =
    let us = units_of c.args.entries.now in
    let over = over (goal.at.returns-clause-sound c).In_ok-fill-2 in
    rw c.requires.entries (none-of_entries (entries_of us) (fails_shape us)
    (λ k below. c.loop-node.invariant.passed k (omega arith)))

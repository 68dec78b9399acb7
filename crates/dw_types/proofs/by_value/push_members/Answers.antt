use Rattle.std.proofs.Common.{◌≡◌, ◌++◌, true, false, [], List, ℕ, refl, sym, ap, ◌∙◌, append_assoc}
use Rattle.std.specs.List.{flat_map}
use Rattle.std.specs.Option.{option_to_list}
use Rattle.std.proofs.lemmas.List.Elements.{All-head, All-rest, All-same}
use Rattle.dw_types.specs.Children.{IsChildOf}
use Rattle.dw_types.specs.ChildrenLeft.{children_left}
use Rattle.dw_types.specs.Entries.{type_target}
use Rattle.dw_types.specs.Held.{entries_held, units_held}
use Rattle.dw_types.specs.Shapes.{is_plain}
use Rattle.dw_types.specs.Steps.{member_step}
use Rattle.dw_types.proofs.MemberLemmas.{plain-in_members}
use Rattle.dw_types.proofs.SiblingLemmas.{children-all}
use Rattle.dw_types.proofs.by_value.push_members.Goals as goal

pub loop-child-init : goal.loop-child-init
loop-child-init c =
    let us = units_held c.args.entries.now in
    let all = ap children_left c.into_iter-child-iterator.ensures.into_iter_gives ∙ c.children-child-items.ensures in
    record {
      same = refl;
      are = All-same (IsChildOf (entries_held c.args.entries.now) c.args.id) _ _ all
          (children-all (entries_held c.args.entries.now) c.args.id);
      so_far = ap (λ (children : List ℕ). c.args.steps.now ++ flat_map (member_step us) children) all;
    }

pub is_defined_member-requires : goal.is_defined_member-requires
is_defined_member-requires c =
    rw c.loop-child.invariant.same
    (All-head (IsChildOf (entries_held c.args.entries.now) c.args.id) _ _
    (rw c.in-Some.ensures.steps at c.loop-child.invariant.are)).0

pub loop-child-preserved-in-Continue-1 : goal.loop-child-preserved-in-Continue-1
loop-child-preserved-in-Continue-1 c =
    let us = units_held c.args.entries.now in
    let child = c.in-Some.child in
    let are = rw c.in-Some.ensures.steps at c.loop-child.invariant.are in
    let same = c.is_defined_member.ensures.same ∙ c.loop-child.invariant.same in
    let plain : is_plain us child ≡ true =
    plain-in_members us c.args.id c.requires.members child (All-head (IsChildOf (entries_held c.args.entries.now)
    c.args.id) _ _ are)
    ∙ (rw c.loop-child.invariant.same at (sym c.is_defined_member.ensures.member ∙ c.if-is_defined_member.true)) in
    let taken : member_step us child ≡ option_to_list (type_target us child) = rw plain refl in
    record {
      same = same;
      are =
          All-rest (IsChildOf (entries_held c.args.entries.now) c.args.id) _ _ _ c.in-Some.ensures.steps
          c.loop-child.invariant.are;
      so_far =
          rw (c.in_ok-push_to.ensures, c.type_target.ensures.target, same)
          (append_assoc c.loop-child.steps (option_to_list (type_target us child)) _
          ∙ rw (c.in-Some.ensures.steps, taken) at c.loop-child.invariant.so_far);
    }

pub loop-child-preserved : goal.loop-child-preserved
loop-child-preserved c =
    let us = units_held c.args.entries.now in
    let child = c.in-Some.child in
    let are = rw c.in-Some.ensures.steps at c.loop-child.invariant.are in
    let plain : is_plain us child ≡ false =
    plain-in_members us c.args.id c.requires.members child (All-head (IsChildOf (entries_held c.args.entries.now)
    c.args.id) _ _ are)
    ∙ (rw c.loop-child.invariant.same at (sym c.is_defined_member.ensures.member ∙ c.if-is_defined_member.false)) in
    let skipped : member_step us child ≡ [] = rw plain refl in
    record {
      same = c.is_defined_member.ensures.same ∙ c.loop-child.invariant.same;
      are =
          All-rest (IsChildOf (entries_held c.args.entries.now) c.args.id) _ _ _ c.in-Some.ensures.steps
          c.loop-child.invariant.are;
      so_far = rw (c.in-Some.ensures.steps, skipped) at c.loop-child.invariant.so_far;
    }

use Rattle.std.proofs.Common.{◌≡◌, ◌^◌, ◌||◌, Bool, true, false, List, ℕ, map, refl, sym, ap, ◌∙◌}
use Rattle.std.specs.List.{list_any}
use Rattle.std.proofs.lemmas.List.Elements.{All-head, All-rest, All-same}
use Rattle.dw_types.specs.Children.{IsChildOf}
use Rattle.dw_types.specs.ChildrenLeft.{children_left}
use Rattle.dw_types.specs.Entries.{entry_in}
use Rattle.dw_types.specs.Held.{entries_held, units_held}
use Rattle.dw_types.specs.Kinds.{is_subrange}
use Rattle.dw_types.specs.SizeTables.{cap_size}
use Rattle.dw_types.specs.Sizes.{factor_of, product_of}
use Rattle.dw_types.proofs.ElementCountLemmas.{cap-next, cap-twice, one-times}
use Rattle.dw_types.proofs.SiblingLemmas.{children-all}
use Rattle.dw_types.proofs.count.count_elements.Goals as goal

or-next : (a b c : Bool) → ((a || b) || c) ≡ (a || (b || c))
or-next true b c = refl
or-next false b c = refl

pub loop-child-init : goal.loop-child-init
loop-child-init c =
    let us = units_held c.args.entries.now in
    let cap = cap_size (2 ^ 63) in
    let all = ap children_left c.into_iter-child-iterator.ensures.into_iter_gives ∙ c.children-child-items.ensures in
    record {
      same = refl;
      are = All-same (IsChildOf (entries_held c.args.entries.now) c.args.id) _ _ all
          (children-all (entries_held c.args.entries.now) c.args.id);
      capped = refl;
      product =
          ap cap (one-times _) ∙ ap (λ (children : List ℕ). cap (product_of (map (factor_of us) children))) all;
      dimension = ap (list_any (λ child. is_subrange (entry_in us child))) all;
    }

pub at-entry-requires : goal.at-entry-requires
at-entry-requires c =
    rw c.loop-child.invariant.same
    (All-head (IsChildOf (entries_held c.args.entries.now) c.args.id) _ _
    (rw c.in-Some.ensures.steps at c.loop-child.invariant.are)).0

pub loop-child-preserved : goal.loop-child-preserved
loop-child-preserved c =
    let us = units_held c.args.entries.now in
    let left = children_left c.next.new.self in
    let same = c.at-entry.ensures.same ∙ c.loop-child.invariant.same in
    record {
      same = same;
      are =
          All-rest (IsChildOf (entries_held c.args.entries.now) c.args.id) _ _ _ c.in-Some.ensures.steps
          c.loop-child.invariant.are;
      capped = rw c.capped_times-product.ensures.value (sym (cap-twice _ _));
      product =
          rw (c.capped_times-product.ensures.value, c.capped_factor.ensures, same)
          (cap-next c.loop-child.product (factor_of us c.in-Some.child) (product_of (map (factor_of us) left))
          ∙ rw c.in-Some.ensures.steps at c.loop-child.invariant.product);
      dimension =
          rw (c.is_subrange-has_dimension.ensures, c.at-entry.ensures.found, c.loop-child.invariant.same)
          (or-next c.loop-child.has_dimension (is_subrange (entry_in us c.in-Some.child))
          (list_any (λ child. is_subrange (entry_in us child)) left)
          ∙ rw c.in-Some.ensures.steps at c.loop-child.invariant.dimension);
    }

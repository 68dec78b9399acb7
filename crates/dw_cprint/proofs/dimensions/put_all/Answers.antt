use Rattle.std.proofs.Common.{rules, ◌≡◌, ◌++◌, ℕ, List, [], Option, Some, None, refl, sym, ap, ◌∙◌, append-nil}
use Rattle.std.specs.List.{cons_option, filter_map}
use Rattle.std.specs.Prelude.{flat_map}
use Rattle.dw_types.specs.ChildrenLeft.{children_left}
use Rattle.dw_cprint.specs.EntryShapes.{dimension_counts, dimension_at}
use Rattle.dw_cprint.specs.Tokens.{Token, text_of}
use Rattle.dw_cprint.specs.Writing.{count_tokens}
use Rattle.dw_cprint.proofs.LookUpLemmas.{child_within, children_rest, children_within}
use Rattle.dw_cprint.proofs.ItemWriterLemmas.{moved}
use Rattle.dw_cprint.proofs.dimensions.put_all.Goals as goal

-- the brackets of the next dimension, if a child is one, and of those that are left
next-count : (next : Option (Option ℕ)) (left : List (Option ℕ))
    → flat_map count_tokens (cons_option next []) ++ flat_map count_tokens left
    ≡ flat_map count_tokens (cons_option next left)
next-count None left = refl
next-count (Some count) left =
    ap (λ (ts : List Token). ts ++ flat_map count_tokens left) (append-nil (count_tokens count))

pub loop-child-init : goal.loop-child-init
loop-child-init c = search (rules, children_within)

pub dimension_at-requires : goal.dimension_at-requires
dimension_at-requires c =
    child_within _ c.in-Some.ensures.steps c.loop-child.invariant.within

pub loop-child-preserved : goal.loop-child-preserved
loop-child-preserved c =
    let image = c.args.image.now in
    let next = c.dimension_at.result in
    let left = filter_map (dimension_at image) (children_left c.next.new.self) in
    record {
      within =
          children_rest _ c.in-Some.ensures.steps c.loop-child.invariant.within;
      so_far =
          moved (flat_map count_tokens (cons_option next [])) (flat_map count_tokens left)
          (flat_map count_tokens (cons_option next left)) c.args.out.now.items c.loop-child.out.items
          c.put_next.new.out.items
          (text_of (flat_map count_tokens (dimension_counts image c.args.id))) c.in_ok-put_next.ensures
          (next-count next left)
          (rw (c.in-Some.ensures.steps, ← c.dimension_at.ensures) at c.loop-child.invariant.so_far);
    }

pub returns : goal.returns
returns c =
    sym (append-nil c.loop-child.out.items) ∙ (rw c.in-None.ensures.steps.0 at c.loop-child.invariant.so_far)

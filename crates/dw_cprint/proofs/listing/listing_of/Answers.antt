use Rattle.std.proofs.Common.{◌++◌, ◌∙◌, ℕ, List, ap, sym}
use Rattle.std.specs.Prelude.{All, filter, flat_map}
use Rattle.dw_cprint.specs.Judgements.{IsPrintedNumber, is_printed}
use Rattle.dw_cprint.specs.Listings.{declared_line, refused_line_in}
use Rattle.dw_cprint.specs.Refusals.{PrintFault}
use Rattle.dw_cprint.proofs.JudgementLemmas.{all-there, listing-done, numbers-apart, printed-numbers, refused-within}
use Rattle.dw_cprint.proofs.WithinLemmas.{roots_within}
use Rattle.dw_cprint.proofs.listing.listing_of.Goals as goal

pub numbers_in_order-requires : goal.numbers_in_order-requires
numbers_in_order-requires c = rw c.deref.ensures.value c.in_ok-named.ensures.named

pub new-requires : goal.new-requires
new-requires c =
    rw c.in_ok-types.ensures
    (roots_within c.args.source.now.image.now c.in_ok-named.named.ids.items)

pub refusals_of-requires-clause-survey : goal.refusals_of-requires-clause-survey
refusals_of-requires-clause-survey c =
    rw c.in_ok-types.ensures at c.in_ok-survey.ensures

pub printed_of-requires : goal.printed_of-requires
printed_of-requires c =
    rw c.deref-2.ensures.value (numbers-apart c.args.source.now.image.now c.in_ok-named.named.ids.items
    c.in_ok-numbers.numbers.items (rw c.deref.ensures.value at c.in_ok-numbers.ensures))

pub put_lines-requires-clause-survey : goal.put_lines-requires-clause-survey
put_lines-requires-clause-survey c =
    rw c.in_ok-types.ensures at c.in_ok-survey.ensures

pub put_lines-requires-clause-printed : goal.put_lines-requires-clause-printed
put_lines-requires-clause-printed c =
    let keys = rw (c.deref-2.ensures.value, c.deref-3.ensures.value) at c.in_ok-printed.ensures in
    rw keys (printed-numbers c.in_ok-refusals.ensures c.in_ok-numbers.numbers.items)

pub put_all_refused-requires : goal.put_all_refused-requires
put_all_refused-requires c =
    let refused = rw (c.deref-5.ensures.value, c.deref-6.ensures.value) at c.in_ok-refused.ensures in
    rw (c.deref-7.ensures.value, refused)
    (refused-within c.in_ok-refusals.ensures c.in_ok-numbers.numbers.items c.in_ok-named.ensures.named
    (rw c.deref.ensures.value at c.in_ok-numbers.ensures))

pub returns-clause-listing : goal.returns-clause-listing
returns-clause-listing c =
    let image = c.args.source.now.image.now in
    let named = c.in_ok-named.named.ids.items in
    let numbers = c.in_ok-numbers.numbers.items in
    let refusals = c.in_ok-refusals.refusals.items in
    let known = c.in_ok-refusals.ensures in
    let keys = rw (c.deref-2.ensures.value, c.deref-3.ensures.value) at c.in_ok-printed.ensures in
    let order = (rw (c.deref-4.ensures.value, keys) at c.in_ok-order.ensures)
    ∙ all-there named (filter (is_printed refusals) numbers)
    (λ i d w. (printed-numbers known numbers i d w).0) in
    let refused = rw (c.deref-5.ensures.value, c.deref-6.ensures.value) at c.in_ok-refused.ensures in
    rw (order, refused) (listing-done known numbers c.in_ok-named.ensures.named
    (rw c.deref.ensures.value at c.in_ok-numbers.ensures))

pub returns-clause-text : goal.returns-clause-text
returns-clause-text c =
    let image = c.args.source.now.image.now in
    let named = c.in_ok-named.named.ids.items in
    let printed = c.in_ok-printed.printed.keys in
    let keys = rw (c.deref-2.ensures.value, c.deref-3.ensures.value) at c.in_ok-printed.ensures in
    let all : All (IsPrintedNumber image named) printed = rw keys
    (printed-numbers c.in_ok-refusals.ensures
    c.in_ok-numbers.numbers.items) in
    let order = (rw c.deref-4.ensures.value at c.in_ok-order.ensures)
    ∙ all-there named printed (λ i d w. (all i d w).0) in
    let lines = flat_map (refused_line_in image) in
    let text = rw c.new-text.ensures.items at c.in_ok-put_lines.ensures in
    c.in_ok-put_all_refused.ensures
    ∙ ap (λ (rs : List (ℕ × PrintFault)). c.put_lines.new.out.items ++ lines rs) c.deref-7.ensures.value
    ∙ ap (λ (u : List ℕ). u ++ lines c.in_ok-refused.refused.items)
    (text ∙ ap (flat_map (declared_line image)) (sym order))

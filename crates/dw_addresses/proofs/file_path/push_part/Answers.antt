use Rattle.std.proofs.Common.{◌≡◌, ◌∙◌, sym, true, false, length, drop, ◌||◌, eqb}
use Rattle.std.proofs.lemmas.Bool.{or_left, or_right}
use Rattle.dw_addresses.specs.Paths.{ends_with_slash}
use Rattle.dw_addresses.proofs.PathLemmas.{directly, divided, or_false, rest_ends}
use Rattle.dw_addresses.proofs.file_path.push_part.Goals as goal
use Rattle.dw_addresses.proofs.file_path.push_part.Goals.{then-has_slash_last-via-then-has_slash_last}
use Rattle.dw_addresses.proofs.file_path.push_part.Goals.{then-has_slash_last-via-else-has_slash_last+then-is_empty}

pub returns-then-has_slash_last-clause-ok : goal.returns-then-has_slash_last-clause-ok
returns-then-has_slash_last-clause-ok c =
    let ends = ends_with_slash (drop c.args.start c.args.text.now.items) in
    let none = eqb (length c.args.part.now) 0 in
    let ends_is : c.has_slash_last.result ≡ ends =
    c.has_slash_last.ensures ∙ rest_ends c.as_slice.result.now c.args.text.now.items c.args.start
    c.as_slice.ensures.value in
    let last : (ends || none) ≡ true = elim c.then-has_slash_last.branch [
      | then-has_slash_last-via-then-has_slash_last w ↦ or_left ends none (sym ends_is ∙ w.if-has_slash_last.true)
      | then-has_slash_last-via-else-has_slash_last+then-is_empty w ↦ or_right ends none
          (sym w.is_empty.ensures ∙ w.if-is_empty.true)
    ] in
    directly c.args.text.now.items c.args.part.now c.args.start _ _
    c.extend_from_slice-then-has_slash_last.ensures.items (sym c.has_slash_first.ensures ∙ c.if-has_slash_first.false)
    last

pub returns-clause-ok : goal.returns-clause-ok
returns-clause-ok c =
    let ends = ends_with_slash (drop c.args.start c.args.text.now.items) in
    let none = eqb (length c.args.part.now) 0 in
    let ends_is : c.has_slash_last.result ≡ ends =
    c.has_slash_last.ensures ∙ rest_ends c.as_slice.result.now c.args.text.now.items c.args.start
    c.as_slice.ensures.value in
    let last : (ends || none) ≡ false = or_false ends none (sym ends_is ∙ c.if-has_slash_last.false)
    (sym c.is_empty.ensures ∙ c.if-is_empty.false) in
    divided c.args.text.now.items c.args.part.now c.args.start _ _ _ c.in_ok-push.ensures.items
    c.extend_from_slice-2.ensures.items (sym c.has_slash_first.ensures ∙ c.if-has_slash_first.false) last

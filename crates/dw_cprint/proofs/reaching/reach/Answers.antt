use Rattle.std.proofs.Common.{rules, ◌≡◌, ◌<◌, ◌++◌, [], ◌∷◌, length, map, ℕ, List, get_or, sym, ap, ◌∙◌, subst, arith, length-append}
use Rattle.std.proofs.lemmas.List.{map-append}
use Rattle.dw_types.specs.Packing.{cut}
use Rattle.dw_types.specs.PackingLaws.{length-cut}
use Rattle.dw_cprint.specs.EntryShapes.{shape_in}
use Rattle.dw_cprint.specs.Reach.{FindsAll}
use Rattle.dw_cprint.specs.Shapes.{ShapeOf, view_shape}
use Rattle.dw_cprint.specs.Steps.{entries_among, steps_reached}
use Rattle.dw_cprint.proofs.LevelLemmas.{few-entries}
use Rattle.dw_cprint.proofs.ReachLemmas.{so_far-start, so_far-more, so_far-done, packed-start, packed-more, rows-more, room}
use Rattle.dw_cprint.proofs.WithinLemmas.{shape_within}
use Rattle.dw_cprint.proofs.reaching.reach.Goals as goal

pub find_roots-requires-clause-few : goal.find_roots-requires-clause-few
find_roots-requires-clause-few c = search (rules, few-entries)

pub push_row-requires-clause-few : goal.push_row-requires-clause-few
push_row-requires-clause-few c =
    omega (arith, few-entries c.args.source.now.image.now, c.loop-found.invariant.2)

pub push_row-requires-clause-within : goal.push_row-requires-clause-within
push_row-requires-clause-within c =
    let steps : entries_among c.deref.result.now
    ≡ steps_reached (shape_in c.args.source.now.image.now) c.get.result = search rules in
    rw (steps, c.loop-found.invariant.2) (shape_within c.args.source.now.image.now c.get.result).all

pub loop-found-init : goal.loop-found-init
loop-found-init c =
    let found = c.find_roots.new.found in
    let long : length c.in_ok-places.places.items ≡ c.entries.result = search rules in
    rw (c.in_ok-ends.ensures, c.in_ok-steps.ensures, c.new-shapes.ensures.items) (
      so_far-start (shape_in c.args.source.now.image.now) c.in_ok-find_roots.ensures.found,
      packed-start found,
      c.in_ok-find_roots.ensures.places ∙ (long ∙ c.entries.ensures),
    )

pub loop-found-smaller : goal.loop-found-smaller
loop-found-smaller c = search (rules, room, length-append)

pub loop-found-preserved : goal.loop-found-preserved
loop-found-preserved c =
    let shapes = shape_in c.args.source.now.image.now in
    let found = c.loop-found.found in
    let places = c.loop-found.places.items in
    let steps = c.loop-found.steps in
    let ends = c.loop-found.ends in
    let rows = cut steps 0 ends in
    let read = map view_shape c.loop-found.shapes.items in
    let long = length-cut steps 0 ends in
    let more : length rows < length found = omega
    (arith, long, c.len.ensures, c.len-in-loop-found.ensures, c.loop-found-test.true) in
    let at : c.len-in-loop-found-2.result ≡ length rows = c.len-in-loop-found-2.ensures ∙ sym long in
    let entry : c.get.result ≡ get_or found (length rows) 0 = c.get.ensures ∙ ap (λ k. get_or found k 0) at in
    let shape : view_shape c.in_ok-shape.shape
    ≡ shapes (get_or found (length rows) 0) = c.in_ok-shape.ensures ∙ ap shapes entry in
    let seen : map view_shape c.push.new.self.items ≡ read ++ shapes (get_or found (length rows) 0) ∷ [] =
    ap (map view_shape) c.in_ok-push.ensures.items
    ∙ map-append view_shape c.loop-found.shapes.items (c.in_ok-shape.shape ∷ [])
    ∙ ap (λ (s : ShapeOf). read ++ s ∷ []) shape in
    let reached : entries_among c.deref.result.now ≡ steps_reached shapes c.get.result = search rules in
    let p2 = c.push_row.new.places.items in
    let f2 = c.push_row.new.found in
    let (row, finds, all) = c.in_ok-push_row.ensures.row in
    let P : List ℕ → Type 0 = λ xs. FindsAll xs places p2 found f2 row in
    let placed = subst P (reached ∙ ap (steps_reached shapes) entry) finds in
    let end : c.push-in-loop-found.new.self
    ≡ ends ++ length (steps ++ row) ∷ [] = c.in_ok-push-2.ensures
    ∙ ap (λ (n : ℕ). ends ++ n ∷ []) (c.len-in-loop-found-3.ensures ∙ ap length all) in
    rw (end, all, seen, rows-more row c.loop-found.invariant.1) (
      so_far-more c.loop-found.invariant.0 more placed,
      packed-more c.loop-found.invariant.1 placed,
      c.in_ok-push_row.ensures.places ∙ c.loop-found.invariant.2,
    )

pub returns : goal.returns
returns c = search (rules, length-cut, so_far-done)

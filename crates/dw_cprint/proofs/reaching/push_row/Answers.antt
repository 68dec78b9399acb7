use Rattle.std.proofs.Common.{ℕ, ◌<◌, [], ◌∷◌, ◌++◌, length, arith, List, Option, Some, None, sym, ap, ◌∙◌, take, append-nil, append_assoc, Vec}
use Rattle.std.specs.Global.{Global}
use Rattle.std.proofs.lemmas.List.{get_or_read}
use Rattle.std.proofs.lemmas.List.Elements.{All-contains}
use Rattle.dw_cprint.specs.Steps.{entries_among}
use Rattle.dw_cprint.proofs.ReachLemmas.{finds-none, finds-both, entries-take, entry-among, finds-as}
use Rattle.dw_cprint.proofs.reaching.push_row.Goals as goal
use Rattle.dw_cprint.proofs.reaching.push_row.Goals.{in-Some+in_ok-place_of+in_ok-push, in_default}

pub loop-at-init : goal.loop-at-init
loop-at-init c =
    ([], finds-none c.args.places.now.items c.args.found.now c.requires.placed, sym (append-nil c.args.steps.now))

pub place_of-requires-clause-within : goal.place_of-requires-clause-within
place_of-requires-clause-within c =
    let types = c.args.types.now in
    let below = All-contains (λ to. to < length c.args.places.now.items) (entries_among types) c.in-Some.entry
    c.requires.within (entry-among types c.in-Some.entry (
      c.loop-at.at-index,
      c.loop-at-test.true,
      sym (get_or_read types c.loop-at.at-index c.at-item.result c.loop-at-test.true c.at-item.is
          (Some c.in-Some.entry)) ∙ sym c.get.ensures ∙ c.in-Some.is,
    )) in
    omega (arith, c.loop-at.invariant.1.len)

pub place_of-requires-clause-few : goal.place_of-requires-clause-few
place_of-requires-clause-few c =
    omega (arith, c.loop-at.invariant.1.len, c.requires.few)

pub loop-at-preserved : goal.loop-at-preserved
loop-at-preserved c =
    let types = c.args.types.now in
    let i = c.loop-at.at-index in
    let before = entries_among (take i types) in
    let items = λ (v : Vec ℕ Global). v.items in
    let split = sym (entries-take types i c.loop-at-test.true) in
    let read = c.get.ensures ∙ get_or_read types i c.at-item.result c.loop-at-test.true c.at-item.is None in
    let (r, finds, all) = c.loop-at.invariant in
    elim c.match-get.branch [
      | in-Some+in_ok-place_of+in_ok-push w ↦
          let place = w.in_ok-place_of.field-0 in (
            r ++ place ∷ [],
            finds-as
                (ap (λ (o : Option ℕ). before ++ entries_among (o ∷ [])) (sym w.in-Some.is ∙ read) ∙ split)
                (ap items (sym w.places-is)) (sym w.found-is)
                (finds-both finds w.in_ok-place_of.ensures.row),
            w.steps-is ∙ (w.in_ok-push.ensures
                ∙ (ap (λ (xs : List ℕ). xs ++ place ∷ []) all ∙ append_assoc c.args.steps.now r (place ∷ []))),
          )
      | in_default w ↦ (
        r,
        finds-as
            (sym (append-nil before) ∙ ap (λ (o : Option ℕ). before ++ entries_among (o ∷ []))
            (sym w.in_default.is ∙ read)
            ∙ split)
            (ap items (sym w.places-is)) (sym w.found-is) finds,
        w.steps-is ∙ all,
      )
    ]

use Rattle.std.proofs.Common.{◌≡◌, ℕ, [], ◌∷◌, ◌++◌, Bool, true, Option, None, Vec, append-nil, ap, arith, length, length-set, set, sym, take, ◌∙◌}
use Rattle.std.specs.Global.{Global}
use Rattle.std.proofs.lemmas.List.{get_or_read, take_all}
use Rattle.dw_cprint.specs.Steps.{entries_among}
use Rattle.dw_cprint.proofs.ReachLemmas.{entries-take}
use Rattle.dw_cprint.proofs.RootLemmas.{marks-as, marks-more, type-within}
use Rattle.dw_cprint.proofs.reaching.marks_of.Goals as goal
use Rattle.dw_cprint.proofs.reaching.marks_of.Goals.{in-Some, in_default}

pub index_mut-requires : goal.index_mut-requires
index_mut-requires c =
    let types = c.args.types.now in
    let i = c.loop-at.at-index in
    let read = c.get.ensures ∙ get_or_read types i c.at-item.result c.loop-at-test.true c.at-item.is None in
    let below = type-within c.args.entries types i c.in-Some.entry c.requires c.loop-at-test.true
    (sym read ∙ c.in-Some.is) in
    omega (arith, below, c.loop-at.invariant.1)

pub loop-at-preserved : goal.loop-at-preserved
loop-at-preserved c =
    let types = c.args.types.now in
    let i = c.loop-at.at-index in
    let before = entries_among (take i types) in
    let marks = c.loop-at.marks.items in
    let items = λ (v : Vec Bool Global). v.items in
    let split = sym (entries-take types i c.loop-at-test.true) in
    let read = c.get.ensures ∙ get_or_read types i c.at-item.result c.loop-at-test.true c.at-item.is None in
    elim c.match-get.branch [
      | in-Some w ↦
          let new = w.in-Some.entry in
          let below = type-within c.args.entries types i new c.requires c.loop-at-test.true (sym read ∙ w.in-Some.is) in
          let all = ap (λ (o : Option ℕ). before ++ entries_among (o ∷ [])) (sym w.in-Some.is ∙ read) ∙ split in
          let marked : set marks new true ≡ c.match-get.marks.items = ap items (sym w.marks-is) in (
            marks-as all marked
                (marks-more before marks new c.loop-at.invariant.0 (omega (arith, below, c.loop-at.invariant.1))),
            ap length (sym marked) ∙ length-set marks new true ∙ c.loop-at.invariant.1,
          )
      | in_default w ↦
          let all = sym (append-nil before) ∙ ap (λ (o : Option ℕ). before ++ entries_among (o ∷ []))
          (sym w.in_default.is ∙ read) ∙ split in
          let same = ap items (sym w.marks-is) in (
            marks-as all same c.loop-at.invariant.0,
            ap length (sym same) ∙ c.loop-at.invariant.1,
          )
    ]

pub returns-clause-marks : goal.returns-clause-marks
returns-clause-marks c =
    rw (take_all c.loop-at.at-index c.args.types.now c.loop-at-test.false) at c.loop-at.invariant.0

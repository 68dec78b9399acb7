use Rattle.std.proofs.Common.{◌≡◌, ◌+◌, ◌-◌, ◌<◌, ◌∙◌, ap, arith, sym}
use Rattle.std.specs.Prelude.{option_and_then, option_copied}
use Rattle.dw_addresses.specs.Names.{most_origins, name_above}
use Rattle.dw_addresses.proofs.NameLemmas.{further, here, most_is}
use Rattle.dw_addresses.proofs.names.name_above.Goals as goal

pub returns-in-Some : goal.returns-in-Some
returns-in-Some c =
    let a = c.args in
    let l = c.loop-step in
    let below : l._step < most_origins = omega (arith, most_is) in
    sym
    (here a.entries.now a.attribute most_origins l._step a.id l.at below l.invariant.1 c.in-Some.text.now
    (sym c.in-Some.ensures))

pub returns-in_err-at : goal.returns-in_err-at
returns-in_err-at c =
    let a = c.args in
    let l = c.loop-step in
    let below : l._step < most_origins = omega (arith, most_is) in
    ap option_copied c.from_residual.ensures
    ∙ sym
    (further a.entries.now a.attribute most_origins l._step a.id l.at below l.invariant.1 (sym c.in_default.ensures)
    ∙ ap (option_and_then (name_above a.entries.now a.attribute (most_origins - (l._step + 1))))
    (sym c.in_err-at.ensures.exact))

pub loop-step-preserved : goal.loop-step-preserved
loop-step-preserved c =
    let a = c.args in
    let l = c.loop-step in
    let below : l._step < most_origins = omega (arith, most_is) in (
      c.in_ok-at.ensures.within,
      further a.entries.now a.attribute most_origins l._step a.id l.at below l.invariant.1 (sym c.in_default.ensures)
          ∙ ap (option_and_then (name_above a.entries.now a.attribute (most_origins - (l._step + 1))))
          (sym c.in_ok-at.ensures.exact),
    )

pub returns : goal.returns
returns c =
    let a = c.args in
    let l = c.loop-step in
    let none : most_origins - l._step ≡ 0 = omega (arith, most_is) in
    sym (l.invariant.1 ∙ ap (λ n. name_above a.entries.now a.attribute n l.at) none)

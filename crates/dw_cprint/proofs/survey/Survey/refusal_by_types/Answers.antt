use Rattle.std.proofs.Common.{◌≡◌, Bool, true, false, ap, sym, ◌∙◌}
use Rattle.std.specs.List.{list_any}
use Rattle.dw_cprint.specs.Refusals.{other_kind, cycle}
use Rattle.dw_cprint.specs.Shapes.{view_subject}
use Rattle.dw_cprint.specs.Steps.{ReachACycle, first_steps, types_declared}
use Rattle.dw_cprint.specs.Summaries.{lacks_summary}
use Rattle.dw_cprint.proofs.RefusalLemmas.{is-other, none-first, printable}
use Rattle.dw_cprint.proofs.SurveyLemmas.{cycle-told, types-known}
use Rattle.dw_cprint.proofs.survey.Survey.refusal_by_types.Goals as goal

apart : {b : Bool} → b ≡ true → b ≡ false → ⊥
apart t f = (let e : true ≡ false = sym t ∙ f in absurd (cc))

pub returns-in-Other : goal.returns-in-Other
returns-in-Other c = λ shapes roots survey among.
    record {
      holds = other_kind (ap view_subject c.in-Other.is);
      least = none-first shapes (view_subject c.args.subject.now);
    }

pub returns-then-reaches_cycle : goal.returns-then-reaches_cycle
returns-then-reaches_cycle c = λ shapes roots survey among.
    let told = cycle-told survey (types_declared (view_subject c.args.subject.now)) among
    in
    let (entry, r, round) = told.0 (sym (rw c.requires at c.reaches_cycle.ensures) ∙ c.if-reaches_cycle.true) in
    record { holds = cycle entry r round; least = none-first shapes (view_subject c.args.subject.now) }

pub returns : goal.returns
returns c = λ shapes roots survey among.
    let x = view_subject c.args.subject.now in
    let s = c.args.self.now in
    let none = ap (list_any (lacks_summary s)) (sym c.requires) ∙ sym c.reaches_cycle.ensures
    ∙ c.if-reaches_cycle.false in
    let clear : ReachACycle shapes (first_steps x)
    → ⊥ = λ r. apart ((cycle-told survey (types_declared x) among).1 r) none in
    c.first.ensures shapes x (printable shapes x
    (λ e. c.in_default.not-Other (is-other c.args.subject.now e)) clear)
    ((rw c.requires at c.findings_of.ensures) shapes
    (types-known survey (types_declared x) among clear))

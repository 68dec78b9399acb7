use Rattle.dw_entries.specs.Views.{sections_of, units_of}
use Rattle.dw_image.specs.StepsAndSizes.{AreMeasures}
use Rattle.std.proofs.lemmas.Result.{err_from_is_err_and}
use Rattle.dw_entries.proofs.StopLaws.{faulty_weaker}
use Rattle.std.proofs.Common.{rules, refl, arith}
use Rattle.dw_image.proofs.JoinLemmas.{wrong_class, wrong_link, wrong_size, image_of, pass_classes, pass_links, pass_ordered, pass_all}
use Rattle.dw_image.proofs.verifying.image_of.Goals as goal

pub returns-in_err-check_classes-clause-fault : goal.returns-in_err-check_classes-clause-fault
returns-in_err-check_classes-clause-fault c =
    let here = wrong_class c.args.entries c.in_err-check_classes.field-0.0 c.in_err-check_classes.ensures.fault in
    search (rules, err_from_is_err_and, here)

pub returns-then-group-eq3-clause-passed : goal.returns-then-group-eq3-clause-passed
returns-then-group-eq3-clause-passed c =
    pass_classes c.args.entries c.args.group (omega (arith, c.if-group-eq3.true)) c.in_ok-check_classes.ensures.ok

pub returns-in_err-links-clause-fault : goal.returns-in_err-links-clause-fault
returns-in_err-links-clause-fault c =
    let here = faulty_weaker c.in_err-links.field-0.0 (wrong_link c.args.entries) c.in_err-links.ensures.fault in
    search (rules, err_from_is_err_and, here)

pub returns-then-group-le5-clause-passed : goal.returns-then-group-le5-clause-passed
returns-then-group-le5-clause-passed c =
    let links = c.in_ok-links in
    rw links.ensures.entries at (pass_links links.links c.args.group (omega (arith, c.if-group-le5.true)))

pub returns-in_err-steps-clause-fault : goal.returns-in_err-steps-clause-fault
returns-in_err-steps-clause-fault c =
    let here = rw c.in_ok-links.ensures.entries at c.in_err-steps.ensures.fault in
    search (rules, err_from_is_err_and, here)

pub returns-then-group-le7-clause-passed : goal.returns-then-group-le7-clause-passed
returns-then-group-le7-clause-passed c =
    let links = c.in_ok-links in
    rw links.ensures.entries at (pass_ordered links.links c.args.group _ (omega (arith, c.if-group-le7.true))
    c.in_ok-steps.ensures.order)

pub returns-in_err-sizes-clause-fault : goal.returns-in_err-sizes-clause-fault
returns-in_err-sizes-clause-fault c =
    let links = c.in_ok-links in
    let ordered = c.in_ok-steps.ensures.order in
    let here = rw links.ensures.entries at (faulty_weaker c.in_err-sizes.field-0.0
    (λ fault. wrong_size links.links fault ordered.shapes ordered.contained) c.in_err-sizes.ensures.fault) in
    search (rules, err_from_is_err_and, here)

pub invariant_of-result-clause-classes : goal.invariant_of-result-clause-classes
invariant_of-result-clause-classes c = rw c.in_ok-links.ensures.entries at c.in_ok-links.links.classes

pub invariant_of-result-clause-strings : goal.invariant_of-result-clause-strings
invariant_of-result-clause-strings c = rw c.in_ok-links.ensures.entries at c.in_ok-links.links.strings

pub invariant_of-result-clause-measured : goal.invariant_of-result-clause-measured
invariant_of-result-clause-measured c =
    let ordered = c.in_ok-steps.ensures.order in
    let sized = c.in_ok-sizes.ensures in
    let here : AreMeasures (units_of c.in_ok-links.links.entries.now) c.in_ok-sizes.sizes =
    search (rules, ordered, sized) in
    rw c.in_ok-links.ensures.entries at here

pub returns-clause-sound : goal.returns-clause-sound
returns-clause-sound c = image_of (sections_of c.args.entries) _ refl

pub returns-clause-passed : goal.returns-clause-passed
returns-clause-passed c =
    let ordered = c.in_ok-steps.ensures.order in
    let sized = c.in_ok-sizes.ensures in
    rw c.in_ok-links.ensures.entries at
    (pass_all c.in_ok-links.links c.args.group c.in_ok-sizes.sizes (search (rules, ordered, sized)))

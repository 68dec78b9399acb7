use Rattle.std.proofs.Common.{rules, ◌≡◌, []}
use Rattle.dw_cprint.specs.EntryShapes.{shape_in, subject_in}
use Rattle.dw_cprint.specs.Shapes.{view_subject}
use Rattle.dw_cprint.specs.Steps.{types_declared}
use Rattle.dw_cprint.proofs.JudgementLemmas.{appended, judged-entry, written-entry}
use Rattle.dw_cprint.proofs.SameLemmas.{printed-one}
use Rattle.dw_cprint.proofs.WithinLemmas.{subject_within}
use Rattle.dw_cprint.proofs.listing.declare.Goals as goal

pub new-requires : goal.new-requires
new-requires c =
    let image = c.args.image.now in
    let types : c.put_declared_types.new.types.items ≡ types_declared (subject_in image c.args.id) = search rules in
    rw (c.in_ok-source.ensures, types) (subject_within image c.args.id).all

pub returns-in-Some-clause-refused : goal.returns-in-Some-clause-refused
returns-in-Some-clause-refused c = λ rule other same.
    let image = c.args.image.now in
    let is = rw c.in_ok-source.ensures at c.in_ok-subject.ensures in
    let surveyed = rw c.in_ok-source.ensures at c.in_ok-survey.ensures in
    let known = judged-entry image c.args.id c.in_ok-survey.survey (view_subject c.in_ok-subject.subject)
    c.put_declared_types.new.types.items is (search rules) surveyed _ c.in_ok-fault.ensures in
    let fault : c.in-Some.fault ≡ rule = cc in
    rw (c.in-Some.is, fault) at known

pub returns : goal.returns
returns c =
    let image = c.args.image.now in
    let x = view_subject c.in_ok-subject.subject in
    let types = c.put_declared_types.new.types.items in
    let is = rw c.in_ok-source.ensures at c.in_ok-subject.ensures in
    let surveyed = rw c.in_ok-source.ensures at c.in_ok-survey.ensures in
    let printed = rw c.in_default.is at (judged-entry image c.args.id c.in_ok-survey.survey x types is (search rules)
    surveyed _ c.in_ok-fault.ensures) in
    let written = written-entry image c.args.id c.in_ok-survey.survey x types is (search rules) surveyed []
    c.put_declaration.new.out.items printed (rw c.new-text.ensures.items at c.in_ok-put_declaration.ensures) in
    record {
      printed = printed;
      text =
          appended (shape_in image) (subject_in image c.args.id) c.args.out.now.items c.put_declaration.new.out.items
          c.deref.result.now c.extend_from_slice.new.self.items written c.deref.ensures.value
          c.in_ok-extend_from_slice.ensures.items;
      one = printed-one (shape_in image) (subject_in image c.args.id) printed;
      err = tt;
      refused = λ rule other same. absurd (cc);
    }

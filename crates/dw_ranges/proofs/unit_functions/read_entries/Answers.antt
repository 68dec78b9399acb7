use Rattle.std.proofs.Common.{◌≡◌, List, Err, inl, inr, sym, ap, ◌∙◌, subst, refl, arith}
use Rattle.dw_entries.specs.ByNumber.{entry_of, no_entry}
use Rattle.dw_entries.specs.Entries.{Entry}
use Rattle.dw_entries.specs.Views.{all_entries}
use Rattle.dw_ranges.specs.Functions.{Reads, Refuses, Takes, known_of}
use Rattle.dw_ranges.proofs.FunctionLemmas.{fault_then, slice_step}
use Rattle.dw_ranges.proofs.unit_functions.read_entries.Goals as goal

pub returns-in-Err-clause-fault : goal.returns-in-Err-clause-fault
returns-in-Err-clause-fault c =
    let a = c.args in
    let all = all_entries a.entries.now in
    let n = c.loop-number.number in
    let k = known_of c.loop-number.known in
    let e : c.at-entry.result ≡ entry_of all n = c.at-entry.ensures ∙ ap (entry_of all) c.id.ensures in
    let step = slice_step all n a.end no_entry (omega arith) c.requires.within in
    fault_then c.in-Err.stop c.in-Err.ensures.fault (λ f refuses.
    c.loop-number.invariant.2 (Err f)
    (subst (λ (l : List Entry). Reads a.sections.now a.unit.now a.code.now a.first k n l (Err f)) (sym step)
    (inl (f, subst (λ (x : Entry). Refuses a.sections.now a.unit.now a.code.now a.first k x f) e refuses, refl))))

pub loop-number-preserved : goal.loop-number-preserved
loop-number-preserved c =
    let a = c.args in
    let all = all_entries a.entries.now in
    let n = c.loop-number.number in
    let k = known_of c.loop-number.known in
    let after = known_of c.read_entry.new.known in
    let e : c.at-entry.result ≡ entry_of all n = c.at-entry.ensures ∙ ap (entry_of all) c.id.ensures in
    let step = slice_step all n a.end no_entry (omega arith) c.requires.within in (
      c.in-Ok.ensures.inside,
      omega (arith, c.loop-number.invariant.1, c.read_entry.ensures.less),
      λ r reads.
          c.loop-number.invariant.2 r
          (subst (λ (l : List Entry). Reads a.sections.now a.unit.now a.code.now a.first k n l r) (sym step)
          (inr (
            after,
            subst (λ (x : Entry). Takes a.sections.now a.unit.now a.code.now a.first k n x after) e
                c.in-Ok.ensures.found,
            reads,
          ))),
    )

-- What is written for the lines of an input, by what is found of the file.
use Rattle.std.proofs.Common.{◌≡◌, ◌≢◌, ℕ, ◌<◌, ◌≤◌, Bool, true, false, List, [], length, take, Option, Some, None, IfSome, Result, Ok, Err, sym, ap, ◌∙◌, subst, arith}
use Rattle.std.specs.Prelude.{IfOk}
use Rattle.std.specs.List.{list_all}
use Rattle.std.specs.Option.{is_some}
use Rattle.std.specs.Io.KnownBytes.{Appends}
use Rattle.dw_forms.specs.Stops.{IfFault}
use Rattle.dw_forms.specs.declared.fault.Stop.{Stop}
use Rattle.dw_forms.specs.declared.fault.Stop.TheVariants as stops
use Rattle.dw_io.specs.declared.transfer.RunFault.{RunFault}
use Rattle.dw_lookup.specs.Files.{FileFails, IsSound}
use Rattle.dw_lookup.specs.declared.first_fault.FirstFault.{FirstFault}
use Rattle.dw_lookup.specs.declared.first_fault.FirstFault.TheVariants.{File}
use Rattle.dw_lookup.specs.declared.known.Known.{Known}
use Rattle.dw_report.specs.Reports.{file_limit, too_large}
use Rattle.dwv_addr.specs.Addresses.{asked_by, asked_so_far}
use Rattle.dwv_addr.specs.Endings.{status_code}
use Rattle.dwv_addr.specs.Faults.{first_fault_text}
use Rattle.dwv_addr.specs.Reports.{Report, answered, asked_status, large, sound, status_if, violates, within}
use Rattle.dwv_addr.specs.Runs.{HasAnswered, WritesFirst, WritesReport}
use Rattle.dwv_addr.specs.Streams.{HasTaken, TakesAnswers, TakesFirst}
use Rattle.dwv_addr.specs.declared.request.Request.TheVariants.{Find}
use Rattle.dwv_addr.specs.declared.request.Status.{Status}
use Rattle.dwv_addr.specs.declared.request.Status.TheVariants.{Fault}

for_each : {X : Type 0} (known : Option X) (P : X → Type 0) → ((x : X) → P x) → IfSome known P
for_each None P all = tt
for_each (Some x) P all = all x

abbrev text_at : Bool → Stop FirstFault → List ℕ
text_at json stops.Memory = []
text_at json (stops.Fault fault) = first_fault_text json fault

never_fault : (are : Bool) → status_if are ≢ Fault
never_fault true is = let code = ap status_code is in omega (arith, code)
never_fault false is = let code = ap status_code is in omega (arith, code)

module _ (json : Bool) (bytes : List ℕ) where
  -- the fault is the report of the file, whatever is asked for
  abbrev pub IsReported : Stop FirstFault → Type 0
  IsReported stop = (fault : FirstFault) → stop ≡ stops.Fault fault → (asked : List (Option ℕ))
      → Report file_limit bytes (Find json) asked Fault (first_fault_text json fault)

  pub reported_within : (stop : Stop FirstFault) → length bytes ≤ file_limit → IfFault (FileFails bytes) stop
      → IsReported stop
  reported_within stop le fails fault is asked =
      within Fault (first_fault_text json fault) le (violates fault (subst (IfFault (FileFails bytes)) is fails))

  pub reported_large : (known : FirstFault) → file_limit < length bytes → known ≡ File too_large
      → IsReported (stops.Fault known)
  reported_large known lt same fault is asked =
      subst (Report file_limit bytes (Find json) asked Fault)
      (sym (ap (first_fault_text json) same) ∙ ap (text_at json) is) (large lt)

  -- a fault was written
  pub fault_written : (r : Result Status RunFault) (stop : Stop FirstFault) (input old new : Option (List ℕ))
      → IsReported stop
      → IfOk r (λ status. (status ≡ Fault) × ((fault : FirstFault) × (stop ≡ stops.Fault fault)
      × Appends old new (first_fault_text json fault)))
      → IfOk r (λ status. IfSome input (λ text. WritesReport (Find json) status old new bytes (asked_by text)))
  fault_written (Err e) stop input old new reported written = tt
  fault_written (Ok status) stop input old new reported (is, (fault, same, written)) =
      for_each input _ (λ text. (
        first_fault_text json fault,
        subst (λ s. Report file_limit bytes (Find json) (asked_by text) s (first_fault_text json fault)) (sym is)
            (reported fault same (asked_by text)),
        written,
      ))

  -- a prefix of a fault was written
  pub fault_cut : (stop : Stop FirstFault) (input old new : Option (List ℕ)) → IsReported stop
      → (fault : FirstFault) × (stop ≡ stops.Fault fault)
      × ((n : ℕ) × Appends old new (take n (first_fault_text json fault)))
      → IfSome input (λ text. WritesFirst (Find json) old new bytes (asked_by text))
  fault_cut stop input old new reported (fault, same, (n, written)) =
      for_each input _ (λ text.
      (0, (Fault, first_fault_text json fault, n, reported fault same (take 0 (asked_by text)), written)))

  module _ (known : Known) (is : IsSound bytes known) (le : length bytes ≤ file_limit) where
    -- the answers are the report
    pub answers_reported : (asked : List (Option ℕ)) (old new : Option (List ℕ)) → TakesAnswers json known asked old new
        → WritesReport (Find json) (asked_status asked) old new bytes asked
    answers_reported asked old new (text, written, are) = (
      text,
      within (asked_status asked) text le (sound known (asked_status asked) text is
          (answered json text (are is.functions_are.units is.functions_are.index))),
      written,
    )

    pub first_reported : (input : List ℕ) (old new : Option (List ℕ)) → TakesFirst json known old new input
        → WritesFirst (Find json) old new bytes (asked_by input)
    first_reported input old new (count, (text, n, written, are)) =
        let asked = take count (asked_by input) in (
          count,
          (
            asked_status asked,
            text,
            n,
            within (asked_status asked) text le (sound known (asked_status asked) text is
                (answered json text (are is.functions_are.units is.functions_are.index))),
            written,
          ),
        )

    pub taken_reported : {W : Type 0} (contents : W → Option (List ℕ)) (input rest : Option (List ℕ)) (old new : W)
        → HasTaken json known contents input rest old new
        → HasAnswered contents (Find json) bytes input rest old new
    taken_reported contents input rest old new has = record {
      part = has.part;
      read = has.read;
      status = asked_status (asked_so_far has.part);
      sound = never_fault (list_all is_some (asked_so_far has.part));
      written = answers_reported (asked_so_far has.part) (contents old) (contents new) has.taken;
      unbegun = has.unbegun;
    }

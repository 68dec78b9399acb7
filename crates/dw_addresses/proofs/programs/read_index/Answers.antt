use Rattle.std.proofs.Common.{◌≡◌, Some, inr}
use Rattle.std.proofs.lemmas.Result.{IfErr-weaker}
use Rattle.dw_forms.specs.Stops.{IfFault}
use Rattle.dw_lines.specs.Rows.{program_run}
use Rattle.dw_addresses.specs.LinePrograms.{IsInvalid}
use Rattle.dw_addresses.proofs.ReadingLemmas.{fault_then}
use Rattle.dw_addresses.proofs.programs.read_index.Goals as goal

pub returns-clause-fault : goal.returns-clause-fault
returns-clause-fault c =
    let p = c.in_ok-program.program in
    IfErr-weaker c.new.result (IfFault (λ fault. (program_run p).fault ≡ Some fault))
    (IfFault (IsInvalid c.args.sections.now c.args.at c.args.size)) (λ stop is.
    fault_then stop is (λ fault fails.
    inr (record {
      program = p;
      is_at = record { reads = c.in_ok-program.ensures.exact; ends = c.in_ok-program.ensures.end };
      is = fails;
    }))) c.new.ensures.fault

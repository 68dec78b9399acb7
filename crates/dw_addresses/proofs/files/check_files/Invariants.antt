use Rattle.std.proofs.Common.{◌≡◌, ℕ, ◌<◌, None}
use Rattle.dw_entries.specs.Views.{all_entries}
use Rattle.dw_addresses.specs.Lines.{no_file_at}
use Rattle.dw_addresses.proofs.files.check_files.Given as goal

abbrev pub invariant-loop-number : goal.invariant-loop-number
invariant-loop-number l = (k : ℕ) → k < l.number → no_file_at l.lines (all_entries l.entries) k ≡ None

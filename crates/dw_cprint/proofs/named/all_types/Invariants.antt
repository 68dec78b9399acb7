use Rattle.std.proofs.Common.{◌≡◌, ◌++◌, ℕ, List, drop}
use Rattle.std.specs.Prelude.{flat_map}
use Rattle.dw_cprint.specs.EntryShapes.{subject_in}
use Rattle.dw_cprint.specs.Steps.{entries_among, first_steps}
use Rattle.dw_cprint.proofs.named.all_types.Given as goal

abbrev pub invariant-loop-k : goal.invariant-loop-k
invariant-loop-k l =
    let f : ℕ → List ℕ = λ id. first_steps (subject_in l.image id) in
    entries_among l.types.items ++ flat_map f (drop l.k l.named.ids.items) ≡ flat_map f l.named.ids.items

use Rattle.std.proofs.Common.{rules, ℕ, ◌≡◌, ◌≢◌, List, Option, Some, None, All, ◌∙◌, arith, IfNone, IfSome}
use Rattle.std.proofs.lemmas.List.{get_or_default}
use Rattle.dw_entries.specs.EntriesAt.{IsEntryAt, entry_of, Entry}
use Rattle.dw_entries.proofs.FindLaws.{past_base}
use Rattle.dw_entries.proofs.entries.Entries.find.Goals as goal

all_elsewhere : (entries : List Entry) (offset : ℕ) (o : Option ℕ)
    → IfNone o ((id : ℕ) → IsEntryAt entries offset id → ⊥) → IfNone o (All (λ e. e.at ≢ offset) entries)
all_elsewhere entries offset None nowhere =
    λ k d lt same. nowhere k (record {
      within = lt;
      begins = search (rules, get_or_default);
    })
all_elsewhere entries offset (Some id) nowhere = tt

each_there : (entries : List Entry) (at offset : ℕ) → at ≡ offset → (o : Option ℕ) → IfSome o (IsEntryAt entries at)
    → IfSome o (λ id. (entry_of entries id).at ≡ offset)
each_there entries at offset same None there = tt
each_there entries at offset same (Some id) there = there.begins ∙ same

pub returns-in_err-past-clause-none : goal.returns-in_err-past-clause-none
returns-in_err-past-clause-none c =
    all_elsewhere _ _ _ (rw c.from_residual.ensures
    (λ id found. let low = past_base c.args.self.now.scanned id _ found in
    omega arith))

pub returns-clause-found : goal.returns-clause-found
returns-clause-found c = search (rules, each_there)

pub returns-clause-none : goal.returns-clause-none
returns-clause-none c = search (rules, all_elsewhere)

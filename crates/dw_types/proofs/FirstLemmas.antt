-- The first entry that violates a rule, where each is asked in its own turn.
use Rattle.std.proofs.Common.{rules, ◌≡◌, ℕ, ◌+◌, ◌<◌, ◌≤◌, Bool, true, List, None, length, refl}
use Rattle.std.proofs.lemmas.Bool.{cases_lt}
use Rattle.std.proofs.lemmas.Option.{slice_get-get_or}
use Rattle.dw_entries.specs.declared.fault.PlainFault.{PlainFault}
use Rattle.dw_entries.specs.declared.fault.Fault.{Fault as FaultOf}
use Rattle.dw_forms.specs.declared.fault.Stop.{Stop}
use Rattle.dw_forms.specs.declared.fault.Stop.TheVariants.{Fault, Memory}
use Rattle.dw_entries.specs.EntryRules.{AtPlace, OffsetsRise, Failure, Rule}
use Rattle.dw_entries.specs.ByNumber.{entry_of, no_entry, Entry}
use Rattle.dw_entries.specs.Stopped.{IfPlainFault}
use Rattle.dw_entries.proofs.FirstPlaces.{first_at_place, none_at_place}
use Rattle.dw_entries.proofs.Firsts.{first_of_list, none_of_list, HasNone, IsFirst, Precedes, at_entry}
use Rattle.dw_types.specs.TypeFailures.{plain_fault_at, EntryFailures, IsFirstAt, IsLeastAt, NoneFailsBefore}

-- the entries from one on up to another pass too
pub pass-on : (fails : ℕ → Rule → Bool) (node next : ℕ) → NoneFailsBefore fails node → IsLeastAt fails node None
    → ((k : ℕ) → node + 1 ≤ k → k < next → IsLeastAt fails k None) → NoneFailsBefore fails next
pass-on fails node next before here between k below = search (rules, cases_lt)

pub pass-more : (fails : ℕ → Rule → Bool) (node : ℕ) → NoneFailsBefore fails node → IsLeastAt fails node None
    → NoneFailsBefore fails (node + 1)
pass-more fails node before here = search (rules, pass-on)

entry_precedes_le : (a b : ℕ) (f g : Failure) → f.place ≡ at_entry a → g.place ≡ at_entry b → Precedes f g → a ≤ b
entry_precedes_le a b f g f_at g_at precedes = search rules

module _ (entries : List Entry) (fails : ℕ → Rule → Bool) where
  -- the first entry that violates a rule, with its least rule, has the first failure
  pub first-of_entries : OffsetsRise entries → (node : ℕ) (rule : Rule) → IsFirstAt entries fails node rule
      → IsFirst (EntryFailures entries fails) (plain_fault_at rule (entry_of entries node).at)
  first-of_entries rise node rule h =
      first_of_list entries (λ entry. entry.at)
      (λ number entry. AtPlace (at_entry entry.at) (λ r. fails number r ≡ true)) node (entry_of entries node)
      (plain_fault_at rule (entry_of entries node).at) rise
      (λ i j a b f g f_fails g_fails. entry_precedes_le a.at b.at f g f_fails.stands g_fails.stands)
      (slice_get-get_or entries node no_entry h.inside)
      (λ j entry before is. none_at_place (at_entry entry.at) (λ r. fails j r ≡ true) (h.before j before))
      (first_at_place (at_entry (entry_of entries node).at) (λ r. fails node r ≡ true) rule
      (plain_fault_at rule (entry_of entries node).at) h.least
      record { rule = refl; section = refl; at = refl; attribute = refl })

  -- where no entry violates a rule there is no failure
  pub none-of_entries : NoneFailsBefore fails (length entries) → HasNone (EntryFailures entries fails)
  none-of_entries pass = search (rules, none_of_list, none_at_place)

-- what holds of what is named holds of a fault that names it
pub plain-fault : (P : PlainFault → Type 0) (broken : PlainFault) (stop : Stop FaultOf) → P broken
    → IfPlainFault (λ named. named ≡ broken) stop → IfPlainFault P stop
plain-fault P broken Memory holds is = tt
plain-fault P broken (Fault f) holds is = search rules

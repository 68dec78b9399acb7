-- Chapter: failures of rules on entries, and the first entry that has one.
use Rattle.std.specs.Prelude.{◌≡◌, ℕ, ◌<◌, Bool, true, List, Option, None, Some, length}
use Rattle.dw_entries.specs.declared.fault.PlainFault.{PlainFault}
use Rattle.dw_entries.specs.declared.fault.Section.TheVariants.{Info}
use Rattle.dw_entries.specs.EntryRules.{AtPlace, InList}
use Rattle.dw_entries.specs.Failures.{Failure, IsLeast, Rule}
use Rattle.dw_entries.specs.Places.{at_entry}
use Rattle.dw_entries.specs.Entries.{Entry}

-- the failures of rules on each entry, by its number
abbrev pub EntryFailures : List Entry → (ℕ → Rule → Bool) → Failure → Type 0
EntryFailures entries fails =
    InList entries (λ node entry. AtPlace (at_entry entry.at) (λ rule. fails node rule ≡ true))

-- a rule that the entry with this offset violates, and none of its attributes
abbrev pub plain_fault_at : Rule → ℕ → PlainFault
plain_fault_at rule offset = record { rule = rule; section = Info; at = offset; attribute = 0 }

-- the least rule that an entry violates, if it violates one
abbrev pub IsLeastAt : (ℕ → Rule → Bool) → ℕ → Option Rule → Type 0
IsLeastAt fails node = IsLeast (λ rule. fails node rule ≡ true)

-- the entries before this number violate no rule
abbrev pub NoneFailsBefore : (ℕ → Rule → Bool) → ℕ → Type 0
NoneFailsBefore fails node = (k : ℕ) → k < node → IsLeastAt fails k None

-- the entry violates the rule and none of a lower number, and no entry before it violates any
pub record IsFirstAt (entries : List Entry) (fails : ℕ → Rule → Bool) (node : ℕ) (rule : Rule) : Type 0 where
  pub inside : node < length entries
  pub least : IsLeastAt fails node (Some rule)
  pub before : NoneFailsBefore fails node

-- the first entry that violates a rule, with its least rule; none if no entry violates one
abbrev pub IsFirstFound : List Entry → (ℕ → Rule → Bool) → Option (ℕ × Rule) → Type 0
IsFirstFound entries fails None = NoneFailsBefore fails (length entries)
IsFirstFound entries fails (Some found) = IsFirstAt entries fails found.0 found.1

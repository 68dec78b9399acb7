-- Chapter: rules on the attributes of entries, and the declarations at which none of them can fail.
use Rattle.std.specs.Prelude.{ℕ}
pub use Rattle.dw_entries.specs.declared.entry.EntryHead.{EntryHead}
pub use Rattle.dw_entries.specs.Grammar.{Context, Attribute, IsAttribute, Datum, AttributeSpec}
pub use Rattle.dw_entries.specs.EntryRules.{AtAttributes, AtEntries, Failure, Rule}
pub use Rattle.dw_entries.specs.Lookups.{entry_head, Entry}

-- which rules fail at an attribute with a value, by what is told of its entry
abbrev pub Rules : Type 1
Rules = EntryHead → ℕ → Datum → Rule → Type 0

-- the failures of the rules at the attributes of an entry
abbrev pub AtHead : Rules → Entry → Failure → Type 0
AtHead Fails = AtAttributes (λ e. Fails (entry_head e))

-- no rule fails at an attribute that is declared so
abbrev pub NeverFailsAt : Rules → AttributeSpec → Type 0
NeverFailsAt Fails spec = (x : Context) (a : Attribute) → IsAttribute x spec a → (head : EntryHead) (rule : Rule)
    → Fails head a.code a.value rule → ⊥

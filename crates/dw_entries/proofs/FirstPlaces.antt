-- The first failure at one place, and of groups that are asked at headers and at entries.
use Rattle.std.proofs.Common.{rules, ◌≡◌, ℕ, ◌≤◌, ◌⊎◌, Some, None, arith}
use Rattle.dw_entries.specs.Places.{Place, at_header, at_entry, at_attribute, IsBefore}
use Rattle.dw_entries.specs.Failures.{PlainFault, Rule, Failure, Precedes, Names, HasNone, IsFirst, IsLeast}
use Rattle.dw_entries.specs.EntryRules.{AtPlace}

-- no place comes before itself
pub not_before_itself : (p : Place) → IsBefore p p → ⊥
not_before_itself (at_header o) before = omega arith
not_before_itself (at_entry o) before = omega arith
not_before_itself (at_attribute o k) before = search (rules)

-- at one place the rule with the least number is named
pub first_at_place : (place : Place) (Fails : Rule → Type 0) (rule : Rule) (broken : PlainFault)
    → IsLeast Fails (Some rule)
    → Names broken (record { rule = rule; place = place; attribute = 0 }) → IsFirst (AtPlace place Fails) broken
first_at_place place Fails rule broken least named = search (rules, not_before_itself)

pub none_at_place : (place : Place) (Fails : Rule → Type 0) → IsLeast Fails None → HasNone (AtPlace place Fails)
none_at_place place Fails none f fails = search (rules)

-- of two headers' failures the one that precedes does not come after
pub header_precedes_le : (a b : ℕ) (f g : Failure) → f.place ≡ at_header a → g.place ≡ at_header b → Precedes f g
    → a ≤ b
header_precedes_le a b f g f_at g_at precedes = search (rules)

pub first_by_right : (P Q : Failure → Type 0) (broken : PlainFault) → HasNone P → IsFirst Q broken
    → IsFirst (λ f. P f ⊎ Q f) broken
first_by_right P Q broken none first = search (rules)

pub none_by_both : (P Q : Failure → Type 0) → HasNone P → HasNone Q → HasNone (λ f. P f ⊎ Q f)
none_by_both P Q p q f fails = search (rules)

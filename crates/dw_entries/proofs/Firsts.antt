-- The first failure of rules that are asked of entries one by one.
use Rattle.std.proofs.Common.{rules, ◌≡◌, ℕ, ◌+◌, ◌<◌, ◌≤◌, List, length, Option, Some, arith, eq-or-lt_of_le, inl, inr, ◌⊎◌, slice_get}
use Rattle.std.proofs.lemmas.Option.{slice_get_within}
use Rattle.dw_forms.specs.Value.{Datum}
use Rattle.dw_forms.specs.Rules.{number_of}
use Rattle.dw_entries.specs.Entries.{Entry}
pub use Rattle.dw_entries.specs.Places.{Place, at_header, at_entry, at_attribute, IsBefore, offset_of}
pub use Rattle.dw_entries.specs.Failures.{PlainFault, Rule, Failure, Precedes, Names, HasNone, IsFirst, IsLeast}
pub use Rattle.dw_entries.specs.EntryRules.{OffsetsRise, values_of, HasAttribute, AtAttributes, InList, AtEntries}
use Rattle.dw_entries.proofs.NumberOrder.{three_ways}

-- the place is the entry at this offset, or an attribute of it
abbrev pub IsAt : ℕ → Place → Type 0
IsAt offset (at_header at) = ⊥
IsAt offset (at_entry at) = at ≡ offset
IsAt offset (at_attribute at k) = at ≡ offset

before_le : (a b : ℕ) (p q : Place) → IsAt a p → IsAt b q → IsBefore p q → a ≤ b
before_le a b (at_header p) q at_p at_q before = absurd at_p
before_le a b (at_entry p) (at_header q) at_p at_q before = absurd at_q
before_le a b (at_entry p) (at_entry q) at_p at_q before = omega arith
before_le a b (at_entry p) (at_attribute q k) at_p at_q before = omega arith
before_le a b (at_attribute p j) (at_header q) at_p at_q before = absurd at_q
before_le a b (at_attribute p j) (at_entry q) at_p at_q before = omega arith
before_le a b (at_attribute p j) (at_attribute q k) at_p at_q before = search (rules)

at_offset : (a : ℕ) (p : Place) → IsAt a p → offset_of p ≡ a
at_offset a (at_header p) at = absurd at
at_offset a (at_entry p) at = at
at_offset a (at_attribute p k) at = at

same_place : (a b : ℕ) (p q : Place) → IsAt a p → IsAt b q → p ≡ q → a ≤ b
same_place a b p q at_p at_q same = search (rules, at_offset)

precedes_le : (a b : ℕ) (f g : Failure) → IsAt a f.place → IsAt b g.place → Precedes f g → a ≤ b
precedes_le a b f g at_f at_g precedes = search (rules, before_le, same_place)

pub same_some : {X : Type 0} (o : Option X) (x y : X) → o ≡ Some x → o ≡ Some y → x ≡ y
same_some o x y p q = cc

-- THE law of the order: where the items of a list rise in offset, and no failure of a later item precedes one of
-- an earlier item, the first failure of the first item that has one is the first of all
pub first_of_list : {X : Type 0} (xs : List X) (offset : X → ℕ) (Fails : ℕ → X → Failure → Type 0) (number : ℕ) (x : X)
    (broken : PlainFault)
    → ((i j : ℕ) (a b : X) → i < j → slice_get xs i ≡ Some a → slice_get xs j ≡ Some b → offset a < offset b)
    → ((i j : ℕ) (a b : X) (f g : Failure) → Fails i a f → Fails j b g → Precedes f g → offset a ≤ offset b)
    → slice_get xs number ≡ Some x
    → ((j : ℕ) (y : X) → j < number → slice_get xs j ≡ Some y → HasNone (Fails j y))
    → IsFirst (Fails number x) broken
    → IsFirst (InList xs Fails) broken
first_of_list {X} xs offset Fails number x broken rise stands is_x passed first = record {
  failure = first.failure;
  fails = record { number = number; item = x; is_item = is_x; fails = first.fails };
  named = first.named;
  first = λ g fails precedes.
      elim (three_ways fails.number number) [
        | inl (inl less) ↦ passed fails.number fails.item less fails.is_item g fails.fails
        | inl (inr same) ↦ search (rules, same_some)
        | inr more ↦
            let above = rise number fails.number x fails.item more is_x fails.is_item in
            let below = stands fails.number number fails.item x g first.failure fails.fails first.fails precedes in
            omega arith
      ];
}

pub none_of_list : {X : Type 0} (xs : List X) (Fails : ℕ → X → Failure → Type 0)
    → ((j : ℕ) (y : X) → j < length xs → slice_get xs j ≡ Some y → HasNone (Fails j y))
    → HasNone (InList xs Fails)
none_of_list xs Fails passed f fails = search (rules, slice_get_within)

pub more_of_list : {X : Type 0} (xs : List X) (Fails : ℕ → X → Failure → Type 0) (number : ℕ) (x : X)
    → slice_get xs number ≡ Some x
    → ((j : ℕ) (y : X) → j < number → slice_get xs j ≡ Some y → HasNone (Fails j y))
    → HasNone (Fails number x)
    → (j : ℕ) (y : X) → j < number + 1 → slice_get xs j ≡ Some y → HasNone (Fails j y)
more_of_list {X} xs Fails number x is_x passed here j y below is_y = search (rules, eq-or-lt_of_le, same_some)

-- the same for entries
pub first_of_entries : (entries : List Entry) (Fails : Entry → Failure → Type 0) (id : ℕ) (entry : Entry)
    (broken : PlainFault)
    → OffsetsRise entries
    → ((e : Entry) (f : Failure) → Fails e f → IsAt e.at f.place)
    → slice_get entries id ≡ Some entry
    → ((j : ℕ) (e : Entry) → j < id → slice_get entries j ≡ Some e → HasNone (Fails e))
    → IsFirst (Fails entry) broken
    → IsFirst (AtEntries entries Fails) broken
first_of_entries entries Fails id entry broken rise stands = search (rules, first_of_list, precedes_le)

pub none_of_entries : (entries : List Entry) (Fails : Entry → Failure → Type 0)
    → ((j : ℕ) (e : Entry) → j < length entries → slice_get entries j ≡ Some e → HasNone (Fails e))
    → HasNone (AtEntries entries Fails)
none_of_entries entries Fails = none_of_list entries (λ _. Fails)

-- where an entry's attribute does not precede another of it
abbrev pub Among : ℕ → ℕ → Failure → Failure → Type 0
Among j k f g = (j < k) ⊎ ((j ≡ k) × (number_of f.rule < number_of g.rule))

before_in : (o j k : ℕ) → IsBefore (at_attribute o j) (at_attribute o k) → j < k
before_in o j k before = search (rules)

precedes_in : (o j k : ℕ) (f g : Failure) → f.place ≡ at_attribute o j → g.place ≡ at_attribute o k → Precedes f g
    → Among j k f g
precedes_in o j k f g f_at g_at precedes = search (rules, before_in)

-- the first attribute at which a rule fails, by the least rule that does
pub first_of_attributes : (Fails : Entry → ℕ → Datum → Rule → Type 0) (entry : Entry) (k attribute : ℕ) (value : Datum)
    (rule : Rule) (broken : PlainFault)
    → HasAttribute entry k attribute value
    → ((j a : ℕ) (v : Datum) → j < k → HasAttribute entry j a v → (r : Rule) → Fails entry a v r → ⊥)
    → IsLeast (Fails entry attribute value) (Some rule)
    → Names broken (record { rule = rule; place = at_attribute entry.at k; attribute = attribute })
    → IsFirst (AtAttributes Fails entry) broken
first_of_attributes Fails entry k attribute value rule broken has passed least named =
    search (rules, precedes_in, same_some)

pub none_of_attributes : (Fails : Entry → ℕ → Datum → Rule → Type 0) (entry : Entry)
    → ((j a : ℕ) (v : Datum) → j < length (values_of entry.head) → HasAttribute entry j a v → (r : Rule)
    → Fails entry a v r → ⊥)
    → HasNone (AtAttributes Fails entry)
none_of_attributes Fails entry passed f fails = search (rules, slice_get_within)

pub attributes_stand : (Fails : Entry → ℕ → Datum → Rule → Type 0) (e : Entry) (f : Failure) → AtAttributes Fails e f
    → IsAt e.at f.place
attributes_stand Fails e f fails = search (rules)

-- Rules by what was read of a unit are the rules among all entries; what holds of a fault, unless memory ran out; and
-- one entry after the other, of one unit after another.
use Rattle.std.proofs.Common.{rules, ◌≡◌, ℕ, ◌+◌, ◌<◌, ◌≤◌, length, Option, None, Some, ap, sym, ◌∙◌, arith, inl, inr, suc, List, [], ◌∷◌, map, take, set, refl, zero, slice_get}
use Rattle.std.proofs.lemmas.Option.{slice_get-get_or, slice_get_cases, slice_get_within}
pub use Rattle.dw_entries.specs.declared.entries.Entries.{Entries}
use Rattle.dw_entries.specs.declared.fault.PlainFault.{PlainFault}
use Rattle.dw_entries.specs.declared.fault.Fault.{Fault as FaultOf}
use Rattle.dw_forms.specs.declared.fault.Stop.{Stop}
use Rattle.dw_forms.specs.declared.fault.Stop.TheVariants.{Memory, Fault}
pub use Rattle.dw_entries.specs.ByNumber.{no_entry, entry_of, end_in, placed_of}
use Rattle.dw_entries.specs.Failures.{plain_fault_of, HasNone, IsFirst, IsLeast, Rule}
use Rattle.dw_entries.specs.Stopped.{IfPlainFault}
pub use Rattle.dw_entries.specs.Views.{sections_of, all_entries, all_units, units_of}
pub use Rattle.dw_entries.proofs.EntryFacts.{entries_rise, first_entry, length-placed, Entry, entries_of, node_count, PlacedUnit, placed, start_of, placed_from}
use Rattle.dw_entries.proofs.FirstPlaces.{first_by_right, header_precedes_le}
use Rattle.dw_entries.proofs.Firsts.{same_some, first_of_entries, more_of_list, none_of_entries, attributes_stand, first_of_list, AtEntries}
use Rattle.dw_links.specs.declared.strings.UnitContributions.{UnitContributions}
use Rattle.dw_links.specs.RulesOfAttributes.{Rules, AtHead, EntryHead}
pub use Rattle.dw_links.specs.UnitAtHand.{FailsByText, FailsByTarget}
use Rattle.dw_links.specs.EntryLinks.{IsFirstAtEntry, IsFirstOfGroup}
pub use Rattle.dw_links.specs.References.{HeaderFailures, AttributeFailures, AtHeader, Datum}
pub use Rattle.dw_links.specs.UnitContributions.{AreContributions, FailsByTexts}
use Rattle.std.proofs.lemmas.List.{take_more_set}
use Rattle.dw_entries.proofs.UnitRanges.{next_first, last_ends}
use Rattle.dw_forms.specs.Codes.{DW_AT_str_offsets_base, DW_AT_addr_base}
use Rattle.dw_links.proofs.TableLemmas.{map_one_more, in_units, unit_there, language_of, Constant, target_of_type, base_in}
use Rattle.dw_entries.specs.UnitLaws.{unit_some, DebugUnit, unit_bytes, AreUnits}

-- what follows from it holds too
pub if_fault : {P Q : PlainFault → Type 0} → ((b : PlainFault) → P b → Q b) → (stop : Stop FaultOf)
    → IfPlainFault P stop
    → IfPlainFault Q stop
if_fault so Memory p = tt
if_fault so (Fault fault) p = record { holds = so (plain_fault_of fault) p.holds; cycle = p.cycle }

-- the rules by what was read of a unit are the rules on strings and addresses, at the unit's entries
module _ (entries : Entries) (texts : UnitContributions) (head : EntryHead) (read : AreContributions entries texts)
    (same : head.unit ≡ texts.unit) (a : ℕ) (v : Datum) where
  over : (r : Rule) → FailsByTexts texts head a v r → FailsByText entries head a v r
  over r fails = search (rules, unit_there)

  back : (r : Rule) → FailsByText entries head a v r → FailsByTexts texts head a v r
  back r fails = search (rules, same_some, unit_there)

  pub least_by_texts : (o : Option Rule) → IsLeast (FailsByTexts texts head a v) o
      → IsLeast (FailsByText entries head a v) o
  least_by_texts None least = λ r fails. least r (back r fails)
  least_by_texts (Some rule) least = (over rule least.0, λ r fails. least.1 r (back r fails))

-- an entry's unit is one of the units
pub unit_below : (entries : Entries) (id unit : ℕ) → id < length (all_entries entries)
    → unit ≡ (entry_of (all_entries entries) id).unit → unit < length (units_of entries)
unit_below entries id unit below same =
    omega (
      arith,
      same,
      in_units _ _ (units_of entries) id (entry_of (all_entries entries) id) entries.scanned.1.spells
          (slice_get-get_or (all_entries entries) id no_entry below),
    )

-- no rule fails at the entries below a number
abbrev pub NoneBelow : Entries → Rules → ℕ → Type 0
NoneBelow entries Fails number = (j : ℕ) (e : Entry) → j < number → slice_get (all_entries entries) j ≡ Some e
    → HasNone (AtHead Fails e)

module _ (entries : Entries) (Fails : Rules) (number id : ℕ) (same : id ≡ number)
    (passed : NoneBelow entries Fails number) (below : id < length (all_entries entries)) where
  here_is : slice_get (all_entries entries) number ≡ Some (entry_of (all_entries entries) id)
  here_is = ap (slice_get (all_entries entries)) (sym same) ∙ slice_get-get_or (all_entries entries) id no_entry below

  -- nor at this one
  pub more_below : HasNone (AtHead Fails (entry_of (all_entries entries) id)) → NoneBelow entries Fails (number + 1)
  more_below =
      more_of_list (all_entries entries) (λ j. AtHead Fails) number (entry_of (all_entries entries) id) here_is passed

  -- the first failure at this one is the first of all
  pub first_here : (broken : PlainFault) → IsFirst (AtHead Fails (entry_of (all_entries entries) id)) broken
      → IsFirst (AtEntries (all_entries entries) (AtHead Fails)) broken
  first_here broken = search (rules, first_of_entries, entries_rise, attributes_stand, here_is)

-- nor at any
pub none_fails : (entries : Entries) (Fails : Rules) (number : ℕ) → length (all_entries entries) ≤ number
    → NoneBelow entries Fails number → HasNone (AtEntries (all_entries entries) (AtHead Fails))
none_fails entries Fails number all passed =
    none_of_entries (all_entries entries) (AtHead Fails) (λ j e below. passed j e (omega (arith, below, all)))

-- the first failure of its group at this entry is the first of all
pub failed_first : (entries : Entries) (number id : ℕ) → id ≡ number → (broken : PlainFault)
    → NoneBelow entries (FailsByText entries) number → NoneBelow entries (FailsByTarget entries) number
    → HasNone (HeaderFailures (all_entries entries) (all_units entries)) → id < length (all_entries entries)
    → IsFirstAtEntry entries (entry_of (all_entries entries) id) broken
    → IsFirstOfGroup (sections_of entries) (units_of entries) broken
failed_first entries number id same broken strings references headers below first =
    elim first [
      | inl string ↦ inl (first_here entries (FailsByText entries) number id same strings below broken string)
      | inr reference ↦ inr (first_by_right (HeaderFailures (all_entries entries) (all_units entries))
          (AttributeFailures (all_entries entries) (all_units entries)) broken headers
          (first_here entries (FailsByTarget entries) number id same references below broken reference))
    ]

-- the entries before this number are those of the units before this one
pub record StartsAt (us : List DebugUnit) (unit number : ℕ) : Type 0 where
  pub begins : (p : PlacedUnit) → slice_get (placed us) unit ≡ Some p → number ≡ p.first
  pub ends : length us ≤ unit → length (entries_of us) ≤ number

-- a unit ends with one of the entries
pub ends_within : (us : List DebugUnit) (unit : ℕ) → unit < length us
    → end_in (placed us) unit ≤ length (entries_of us)
ends_within us unit below =
    let p = placed_of (placed us) unit in
    let is = unit_there us unit below in
    elim (slice_get_cases (placed us) (suc unit)).1 [
      | inl next ↦
          let has = first_entry us (suc unit) next.0 next.2 in
          omega (
            arith,
            next_first us unit p next.0 is next.2,
            slice_get_within (entries_of us) next.0.first has.entry has.is_entry,
          )
      | inr past ↦
          omega (arith, last_ends us unit p is (omega (arith, past.0, below, length-placed us)))
    ]

pub starts_first : (us : List DebugUnit) → StartsAt us 0 0
starts_first us = record { begins = λ p is. first us p is; ends = λ none. no_entries us none }
  where
    no_entries : (us : List DebugUnit) → length us ≤ 0 → length (entries_of us) ≤ 0
    no_entries [] none = omega arith
    no_entries (u ∷ us) none = absurd (omega (arith, none))

    first : (us : List DebugUnit) (p : PlacedUnit) → slice_get (placed us) 0 ≡ Some p → 0 ≡ p.first
    first [] p is = absurd cc
    first (u ∷ us) p is =
        let some : ◌≡◌ {A = Option PlacedUnit} (Some (record { at = u.at; first = 0; unit = u })) (Some p) = is in
        let same : ◌≡◌ {A = PlacedUnit} (record { at = u.at; first = 0; unit = u }) p = cc in
        ap (λ (q : PlacedUnit). q.first) same

pub starts_next : (us : List DebugUnit) (unit number : ℕ) (p : PlacedUnit) → slice_get (placed us) unit ≡ Some p
    → number ≡ p.first + node_count p.unit.root → StartsAt us (unit + 1) number
starts_next us unit number p is after = search (rules, slice_get_within, next_first, last_ends, length-placed)

-- no rule fails at the entries before this one, and these are the targets of their types
pub record LinkedBelow (entries : Entries) (types : List (Option ℕ)) (number : ℕ) : Type 0 where
  pub strings : NoneBelow entries (FailsByText entries) number
  pub references : NoneBelow entries (FailsByTarget entries) number
  pub long : length types ≡ length (all_entries entries)
  pub types_are : take number types
      ≡ map (target_of_type (all_entries entries) (all_units entries)) (take number (all_entries entries))

-- of the units before this one, these are the bases and the languages
pub record ReadBelow (entries : Entries) (str_bases addr_bases : List (Option ℕ)) (languages : List Constant)
    (number : ℕ) : Type 0 where
  pub str : str_bases ≡ map (λ unit. base_in (all_entries entries) unit DW_AT_str_offsets_base)
      (take number (all_units entries))
  pub addr : addr_bases ≡ map (λ unit. base_in (all_entries entries) unit DW_AT_addr_base)
      (take number (all_units entries))
  pub language : languages ≡ map language_of (take number (all_units entries))

pub none_below : (entries : Entries) (types : List (Option ℕ)) → length types ≡ length (all_entries entries)
    → LinkedBelow entries types 0
none_below entries types long =
    record {
      strings = λ j e below. absurd (omega (arith, below));
      references = λ j e below. absurd (omega (arith, below));
      long = long;
      types_are = refl;
    }

-- the target of one type more
pub types_more : (entries : Entries) (types : List (Option ℕ)) (number : ℕ) (e : Entry) (target : Option ℕ)
    → slice_get (all_entries entries) number ≡ Some e → length types ≡ length (all_entries entries)
    → take number types ≡ map (target_of_type (all_entries entries) (all_units entries))
    (take number (all_entries entries)) → target ≡ target_of_type (all_entries entries) (all_units entries) e
    → take (number + 1) (set types number target)
    ≡ map (target_of_type (all_entries entries) (all_units entries)) (take (number + 1) (all_entries entries))
types_more entries types number e target is long before here =
    search (rules, take_more_set, slice_get_within, map_one_more)

-- of the units, one after the other
abbrev pub UnitsRise : List PlacedUnit → Type 0
UnitsRise units =
    (i j : ℕ) (a b : PlacedUnit) → i < j → slice_get units i ≡ Some a → slice_get units j ≡ Some b → a.at < b.at

pub first_header : (entries : List Entry) (units : List PlacedUnit) (number : ℕ) (u : PlacedUnit) (broken : PlainFault)
    → UnitsRise units → slice_get units number ≡ Some u
    → ((j : ℕ) (v : PlacedUnit) → j < number → slice_get units j ≡ Some v → HasNone (AtHeader entries units j v))
    → IsFirst (AtHeader entries units number u) broken
    → IsFirst (HeaderFailures entries units) broken
first_header entries units number u broken rise is passed first =
    first_of_list units (λ u. u.at) (AtHeader entries units) number u broken rise
    (λ i j a b f g f_fails g_fails. header_precedes_le a.at b.at f g f_fails.stands g_fails.stands) is passed first

-- units stand in rising offset
placed_least : (at first : ℕ) (us : List DebugUnit) (j : ℕ) (b : PlacedUnit)
    → slice_get (placed_from at first us) j ≡ Some b → at ≤ b.at
placed_least at first [] j b is = absurd cc
placed_least at first (u ∷ us) zero b is = search (rules)
placed_least at first (u ∷ us) (suc j) b is =
    omega (arith, placed_least (at + length (unit_bytes u)) (first + node_count u.root) us j b is)

placed_from_rise : («abbrev» : List ℕ) (at first : ℕ) (us : List DebugUnit) → AreUnits «abbrev» us
    → (i j : ℕ) (a b : PlacedUnit) → i < j → slice_get (placed_from at first us) i ≡ Some a
    → slice_get (placed_from at first us) j ≡ Some b → a.at < b.at
placed_from_rise «abbrev» at first [] are i j a b lt is_a is_b = absurd cc
placed_from_rise «abbrev» at first (u ∷ us) are i zero a b lt is_a is_b = absurd (omega arith)
placed_from_rise «abbrev» at first (u ∷ us) are zero (suc j) a b lt is_a is_b =
    let here : at ≡ a.at = search (rules) in
    omega (
      arith,
      here,
      placed_least (at + length (unit_bytes u)) (first + node_count u.root) us j b is_b,
      unit_some «abbrev» u are.0,
    )
placed_from_rise «abbrev» at first (u ∷ us) are (suc i) (suc j) a b lt is_a is_b =
    placed_from_rise «abbrev» (at + length (unit_bytes u)) (first + node_count u.root) us are.1 i j a b (omega arith)
    is_a is_b

pub placed_rise : («abbrev» : List ℕ) (us : List DebugUnit) → AreUnits «abbrev» us → UnitsRise (placed us)
placed_rise «abbrev» us = placed_from_rise «abbrev» (start_of us) 0 us

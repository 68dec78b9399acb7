-- Where a string begins, and where the text of an attribute is. Where no rule on strings and addresses fails, each string
-- and each address is there.
use Rattle.std.proofs.Common.{rules, ◌≡◌, ◌≢◌, ℕ, suc, ◌<◌, ◌==◌, Bool, true, false, List, [], ◌∷◌, Some, refl, sym, ap, ◌∙◌, Option, None, IfSome, arith, inl, inr, get_or, drop, ◌+◌, ◌-◌, ◌≤◌, length, length-drop, ◌⊎◌, eq-eqb, slice_get, slice_index, get_or-drop}
use Rattle.std.proofs.lemmas.Option.{option_and_then_some}
use Rattle.std.proofs.lemmas.Bool.Decides.{nat_tests}
use Rattle.dw_forms.specs.Codes.{DW_AT_str_offsets_base, DW_AT_addr_base}
use Rattle.dw_forms.specs.Value.{Datum, sec_offset, str, line_str, str_index, addr_index}
use Rattle.dw_entries.specs.declared.header.UnitHeader.{UnitHeader}
use Rattle.dw_entries.specs.Header.{version_of}
use Rattle.dw_entries.specs.Entries.{Entry, PlacedUnit, entries_of, placed, DebugUnit}
pub use Rattle.dw_entries.specs.Lookups.{entry_head, value_in, value_at_entry}
use Rattle.dw_entries.proofs.EntryFacts.{first_entry}
use Rattle.dw_entries.proofs.Firsts.{same_some, HasNone, Rule, values_of, HasAttribute, at_attribute}
use Rattle.dw_links.specs.Contributions.{IsContribution, slot_count, slot_at, HasZeroFrom}
use Rattle.dw_links.specs.Bases.{section_offset_in, base_in}
use Rattle.dw_links.specs.Strings.{BaseFails, StringFailsIn, StringFailures, IsStringContribution, IsAddressContribution, StringIndexFails, AddressIndexFails, Sections}
use Rattle.dw_forms.specs.declared.rule.Rule.TheVariants.{BadStrBase, StrIndex, StringEnd, BadAddrBase, AddrIndex}
use Rattle.dw_links.specs.ValueTexts.{TextPlace}
use Rattle.dw_links.specs.declared.texts.TextPlace.TheVariants.{Info, Str, LineStr}
use Rattle.dw_links.specs.Slots.{BeginsString, IsTextPlace}
use Rattle.dw_links.specs.LinkLaws.{HasStringAt, HasAddressAt, HasItsText, HasTexts}
use Rattle.std.specs.List.{position_or_len}
use Rattle.std.proofs.lemmas.Bool.{cases_lt, eqb-true}
use Rattle.std.proofs.lemmas.List.Sums.{passes_at_first, fails_before_first}

-- a fact holds, or it does not
abbrev pub Decided : Type 0 → Type 0
Decided P = P ⊎ (P → ⊥)

pub decide_le : (a b : ℕ) → Decided (a ≤ b)
decide_le a b = grind arith

pub decide_lt : (a b : ℕ) → Decided (a < b)
decide_lt a b = grind arith

pub decide_eq : (a b : ℕ) → Decided (a ≡ b)
decide_eq a b = grind arith

-- a string begins at the offset, or none does
pub ends_or_not : (section : List ℕ) (offset : ℕ) → Decided (HasZeroFrom section offset)
ends_or_not section offset =
    let Z : ℕ → Bool = λ byte. byte == 0 in
    let left = drop offset section in
    let first : ℕ = position_or_len Z left in
    let long = length-drop offset section in
    elim (cases_lt first (length left)) [
      | inl here ↦
          inl (record {
            last = offset + first;
            behind = omega arith;
            within = omega (arith, here, long);
            is_zero =
                sym (get_or-drop offset section first 0)
                ∙ eqb-true (get_or left first 0) 0 (passes_at_first Z left 0 here);
          })
      | inr past ↦ inr (λ e.
          let p = e.behind in
          let q = e.within in
          let at : offset + (e.last - offset) ≡ e.last = omega (arith, p) in
          let byte = get_or-drop offset section (e.last - offset) 0 ∙ ap (slice_index section) at ∙ e.is_zero in
          let both : true ≡ false = sym (eq-eqb (get_or left (e.last - offset) 0) 0 byte)
          ∙ fails_before_first Z left (e.last - offset) 0 (omega (arith, past, p, q, long)) in cc)
    ]

-- what can be decided and is not refuted holds
pub sure : {P : Type 0} → Decided P → ((P → ⊥) → ⊥) → P
sure d not_not = elim d [ inl p ↦ p | inr against ↦ absurd (not_not against) ]

below_end : (section : List ℕ) (offset : ℕ) → HasZeroFrom section offset → offset ≤ length section
below_end section offset e = let p = e.behind in let q = e.within in omega (arith, p, q)

-- a string begins within its section
pub begins_within : (s : Sections) (place : TextPlace) → BeginsString s place → IsTextPlace s place
begins_within s (Info offset) begins = below_end s.info.now offset begins
begins_within s (Str offset) begins = below_end s.str.now offset begins
begins_within s (LineStr offset) begins = below_end s.line_str.now offset begins

-- ---- the attribute that a value is found at

-- at a position is an attribute with this code and value
abbrev pub At : List (ℕ × Datum) → ℕ → Datum → Type 0
At values attribute v = (position : ℕ) × (slice_get values position ≡ Some (attribute, v))

found_here : (x : ℕ × Datum) (xs : List (ℕ × Datum)) (attribute : ℕ) (v : Datum) → value_in (x ∷ xs) attribute ≡ Some v
    → (value_in xs attribute ≡ Some v → At xs attribute v)
    → (b : Bool) → (x.0 == attribute) ≡ b → At (x ∷ xs) attribute v
found_here x xs attribute v is more true here = search (rules, nat_tests)
found_here x xs attribute v is more false here =
    let behind = more (rw here at is) in
    (suc behind.0, behind.1)

-- an attribute that has a value is at a position
pub found_value : (values : List (ℕ × Datum)) (attribute : ℕ) (v : Datum) → value_in values attribute ≡ Some v
    → At values attribute v
found_value [] attribute v is = absurd cc
found_value (x ∷ values) attribute v is =
    found_here x values attribute v is (found_value values attribute v) (x.0 == attribute) refl

-- ---- what no failure says

-- a base is what the first entry of a unit of version 5 says
pub record SaysBase (es : List Entry) (p : PlacedUnit) (attribute base : ℕ) : Type 0 where
  pub version : version_of p.unit.header.kind ≢ 4
  pub first : Entry
  pub is_first : slice_get es p.first ≡ Some first
  pub value : value_at_entry first attribute ≡ Some (sec_offset base)

offset_said : (v : Datum) (base : ℕ) → section_offset_in v ≡ Some base → v ≡ sec_offset base
offset_said (sec_offset n) base is = ap sec_offset (same_some (Some n) n base refl is)
offset_said _ base is = absurd cc

base_said : (es : List Entry) (p : PlacedUnit) (attribute base : ℕ) → base_in es p attribute ≡ Some base
    → SaysBase es p attribute base
base_said es p attribute base is = search (rules, option_and_then_some, offset_said)

-- a contribution is at the base, or none is
contribution_or_not : (section : List ℕ) (slot mark base : ℕ) → Decided (IsContribution section slot mark base)
contribution_or_not section slot mark base = search (rules, decide_le, decide_lt, decide_eq)

if_each : (o : Option ℕ) (P : ℕ → Type 0) → ((n : ℕ) → o ≡ Some n → P n) → IfSome o P
if_each None P each = tt
if_each (Some n) P each = each n refl

string_held : (s : Sections) (base : Option ℕ) (index : ℕ) → IfSome base (IsStringContribution s)
    → ((rule : Rule) → StringIndexFails s base index rule → ⊥) → HasStringAt s base index
string_held s None index holds passes = passes BadStrBase tt
string_held s (Some base) index holds passes =
    let below : index < slot_count s.str_offsets.now 4 base =
    sure (decide_lt index (slot_count s.str_offsets.now 4 base))
    (λ above. passes StrIndex (holds, grind (arith, above))) in (
      holds,
      below,
      sure (ends_or_not s.str.now (slot_at s.str_offsets.now 4 base index))
          (λ endless. passes StringEnd (holds, below, endless)),
    )

address_held : (s : Sections) (header : UnitHeader) (base : Option ℕ) (index : ℕ)
    → IfSome base (IsAddressContribution s header)
    → ((rule : Rule) → AddressIndexFails s header base index rule → ⊥) → HasAddressAt s header base index
address_held s header None index holds passes = passes BadAddrBase tt
address_held s header (Some base) index holds passes = (
  holds,
  sure (decide_lt index (slot_count s.addr.now header.address_size base))
      (λ above. passes AddrIndex (holds, grind (arith, above))),
)

module _ (s : Sections) (us : List DebugUnit) (none : HasNone (StringFailures s us)) where
  abbrev Fails : Entry → PlacedUnit → ℕ → Datum → Rule → Type 0
  Fails e p = StringFailsIn s p.unit.header (base_in (entries_of us) p DW_AT_str_offsets_base)
      (base_in (entries_of us) p DW_AT_addr_base) (entry_head e)

  -- no rule fails at an attribute
  passes_at : (id : ℕ) (e : Entry) (p : PlacedUnit) → slice_get (entries_of us) id ≡ Some e
      → slice_get (placed us) e.unit ≡ Some p → (position attribute : ℕ) (v : Datum)
      → HasAttribute e position attribute v → (rule : Rule) → Fails e p attribute v rule → ⊥
  passes_at id e p is is_unit position attribute v has rule fails =
      none (record { rule = rule; place = at_attribute e.at position; attribute = attribute })
      (record {
        number = id;
        item = e;
        is_item = is;
        fails =
            record {
              position = position;
              value = v;
              has = has;
              place = refl;
              fails = record { unit = p; in_unit = is_unit; fails = fails };
            };
      })

  -- so no rule on bases fails at one
  sound : (k : ℕ) (p : PlacedUnit) (attribute base : ℕ) (rule : Rule) → slice_get (placed us) k ≡ Some p
      → base_in (entries_of us) p attribute ≡ Some base → BaseFails s p.unit.header attribute base rule → ⊥
  sound k p attribute base rule is said fails =
      let says = base_said (entries_of us) p attribute base said in
      let has = first_entry us k p is in
      let same = same_some (slice_get (entries_of us) p.first) has.entry says.first has.is_entry says.is_first in
      let unit = sym (ap (λ (e : Entry). e.unit) same) ∙ has.is_first.unit in
      let (position, here) = found_value (values_of says.first.head) attribute (sec_offset base) says.value in
      passes_at p.first says.first p says.is_first (ap (slice_get (placed us)) unit ∙ is) position attribute _ here rule
      (sym (ap (λ (e : Entry). e.parent) same) ∙ has.is_first.parent, says.version, fails)

  module _ (id : ℕ) (e : Entry) (p : PlacedUnit) (is : slice_get (entries_of us) id ≡ Some e)
      (in_unit : slice_get (placed us) e.unit ≡ Some p) where
    passes : (position attribute : ℕ) (v : Datum) → HasAttribute e position attribute v → (rule : Rule)
        → Fails e p attribute v rule → ⊥
    passes = passes_at id e p is in_unit

    held : (position attribute : ℕ) (v : Datum) → HasAttribute e position attribute v → HasItsText s (entries_of us) p v
    held position attribute (str offset) has =
        sure (ends_or_not s.str.now offset) (passes position attribute _ has StringEnd)
    held position attribute (line_str offset) has =
        sure (ends_or_not s.line_str.now offset) (passes position attribute _ has StringEnd)
    held position attribute (str_index index) has =
        string_held s (base_in (entries_of us) p DW_AT_str_offsets_base) index
        (if_each _ _ (λ base named. sure (contribution_or_not s.str_offsets.now 4 0 base)
        (λ broken. sound e.unit p DW_AT_str_offsets_base base BadStrBase in_unit named (inl (refl, refl, broken)))))
        (passes position attribute _ has)
    held position attribute (addr_index index) has =
        let size : ℕ = p.unit.header.address_size in
        address_held s p.unit.header (base_in (entries_of us) p DW_AT_addr_base) index
        (if_each _ _ (λ base named. sure (contribution_or_not s.addr.now size size base)
        (λ broken. sound e.unit p DW_AT_addr_base base BadAddrBase in_unit named (inr (refl, refl, broken)))))
        (passes position attribute _ has)
    held position attribute _ has = tt

    pub its_text : (attribute : ℕ) (v : Datum) → value_at_entry e attribute ≡ Some v → HasItsText s (entries_of us) p v
    its_text attribute v value =
        let (position, here) = found_value (values_of e.head) attribute v value in held position attribute v here

pub texts_of : (s : Sections) (units : List DebugUnit) → HasNone (StringFailures s units) → HasTexts s units
texts_of s units none id e is position attribute v has unit in_unit =
    held s units none id e unit is in_unit position attribute v has

-- What is read of the entries of a unit depends on the contents of its slots, and not on where they are in memory.
use Rattle.std.proofs.Common.{◌≡◌, ℕ, zero, suc, ◌+◌, ◌-◌, List, [], ◌∷◌, length, drop, Option, None, Some, Ok, Err}
use Rattle.std.proofs.Common.{refl, sym, ◌∙◌}
use Rattle.std.specs.Prelude.{pos, negsuc, ◌==◌, if◌then◌else◌, nat_lt, option_and_then}
use Rattle.dw_entries.specs.declared.entries.Entries.{Entries}
use Rattle.dw_entries.specs.Lookups.{value_at_entry, Entry}
use Rattle.dw_entries.specs.Views.{sections_of}
use Rattle.dw_forms.specs.Codes.{DW_AT_addr_base}
use Rattle.dw_forms.specs.Codes.{DW_AT_high_pc, DW_AT_low_pc, DW_AT_ranges}
use Rattle.dw_forms.specs.Formats.{Format, and_then, as_other, choose, failing, renamed}
use Rattle.dw_forms.specs.Steps.{◌>>=◌, on_option}
use Rattle.dw_forms.specs.Value.{Datum, unsigned, signed, sec_offset, rng_index}
use Rattle.dw_ranges.specs.Addresses.{based, bounded, indexed}
use Rattle.dw_ranges.specs.Bounds.{address_of, list_of, listed_ranges, range_between, range_up, ranges_of, rule_of}
use Rattle.dw_ranges.specs.Contributions.{indexed_list}
use Rattle.dw_ranges.specs.EntryRanges.{AreAddressesOf, base_address, entry_ranges, first_value, offset_in, slots_in}
use Rattle.dw_ranges.specs.ListEntries.{entry}
use Rattle.dw_ranges.specs.RangeLists.{known, list_at, meaning, meant, placed, ranges_from, ranges_with}
use Rattle.dw_ranges.specs.declared.addresses.UnitAddresses.{UnitAddresses}
use Rattle.dw_ranges.specs.declared.bounds.RangeSections.{RangeSections}
use Rattle.dw_ranges.specs.declared.fault.ListFault.{ListFault}
use Rattle.dw_ranges.specs.declared.list.Meaning.TheVariants.{Base, Bounded}
use Rattle.dw_ranges.specs.declared.list_entry.ListEntry.{ListEntry}
use Rattle.dw_ranges.specs.declared.list_entry.ListEntry.TheVariants.{EndOfList, BaseAddressx, StartxEndx, StartxLength}
use Rattle.dw_ranges.specs.declared.list_entry.ListEntry.TheVariants.{OffsetPair, BaseAddress, StartEnd, StartLength}
use Rattle.dw_ranges.specs.declared.range.Range.{Range}
use Rattle.dw_ranges.specs.declared.rule.RangeRule.TheVariants.{BadHigh, NoList}

module _ (u v : UnitAddresses) (version : u.version ≡ v.version) (size : u.address_size ≡ v.address_size)
    (slots : u.slots.now ≡ v.slots.now) (base : u.base ≡ v.base) (lists : u.lists_base ≡ v.lists_base) where
  same_meaning : (b : Option ℕ) (e : ListEntry) → meaning u b e ≡ meaning v b e
  unfolding meaning
  same_meaning b EndOfList = refl
  same_meaning b (BaseAddressx index) = λ t. indexed (size t) (slots t) index >>= λ a. Ok (Base a)
  same_meaning b (StartxEndx start end) =
      λ t. indexed (size t) (slots t) start >>= λ low. indexed (size t) (slots t) end >>= λ high.
      bounded (size t) low high >>= λ r. Ok (Bounded r)
  same_meaning b (StartxLength start len) =
      λ t. indexed (size t) (slots t) start >>= λ low. bounded (size t) low (low + len) >>= λ r. Ok (Bounded r)
  same_meaning b (OffsetPair start end) =
      λ t. based b >>= λ x. bounded (size t) (x + start) (x + end) >>= λ r. Ok (Bounded r)
  same_meaning b (BaseAddress a) = refl
  same_meaning b (StartEnd low high) = λ t. bounded (size t) low high >>= λ r. Ok (Bounded r)
  same_meaning b (StartLength low len) = λ t. bounded (size t) low (low + len) >>= λ r. Ok (Bounded r)

  same_meant : (b : Option ℕ) → meant u b ≡ meant v b
  unfolding meant
  same_meant b = λ t. and_then (entry (version t) (size t)) (λ e. known (same_meaning b e t))

  same_placed : (end : ℕ) (b : Option ℕ) → placed u end b ≡ placed v end b
  same_placed end b = λ t. renamed (λ bytes rule. record { rule = rule; at = end - length bytes }) (same_meant b t)

  same_from : (end bound : ℕ) (b : Option ℕ) → ranges_from u end bound b ≡ ranges_from v end bound b
  unfolding ranges_from
  same_from end zero b = refl
  same_from end (suc bound) b = λ t. and_then (same_placed end b t) (ranges_with (λ x. same_from end bound x t) b)

  same_at : (section : List ℕ) (offset : ℕ) → list_at u section offset ≡ list_at v section offset
  same_at section offset =
      let end = length section in
      let none : Format (List Range) ListFault = failing (record { rule = NoList; at = offset }) in
      λ t. (choose (nat_lt offset end) (same_from end (suc end) (base t) t) none).read (drop offset section)

  same_up : (low : ℕ) (d : Datum) → range_up u low d ≡ range_up v low d
  same_up low (unsigned len) = λ t. as_other (λ rule. BadHigh) (bounded (size t) low (low + len))
  same_up low (signed (pos len)) = λ t. as_other (λ rule. BadHigh) (bounded (size t) low (low + len))
  same_up low (signed (negsuc n)) = refl
  same_up low d =
      λ t. address_of (size t) (slots t) d >>= λ high. as_other (λ rule. BadHigh) (bounded (size t) low high)

  same_between : (low : Option Datum) (high : Datum) → range_between u low high ≡ range_between v low high
  same_between None high = refl
  same_between (Some low) high = λ t. address_of (size t) (slots t) low >>= λ a. same_up a high t

  module _ (sections : RangeSections) where
    same_list_of : (d : Datum) → list_of sections u d ≡ list_of sections v d
    same_list_of (sec_offset offset) =
        λ t. Ok ((if version t == 4 then sections.ranges.now else sections.rnglists.now), offset)
    same_list_of (rng_index index) =
        λ t. on_option (lists t) (Err NoList) (λ b. indexed_list (size t) sections.rnglists.now b index)
    same_list_of d = refl

    same_listed : (d : Datum) → listed_ranges sections u d ≡ listed_ranges sections v d
    same_listed d =
        λ t. same_list_of d t >>= λ p. as_other rule_of (same_at p.0 p.1 t) >>= λ x.
        Ok (x.0, length p.0 - length x.1 - p.1)

    same_ranges : (low high list : Option Datum)
        → ranges_of sections u low high list ≡ ranges_of sections v low high list
    unfolding ranges_of
    same_ranges low None None = refl
    same_ranges low (Some high) None = λ t. same_between low high t >>= λ r. Ok (r ∷ [], 0)
    same_ranges low None (Some list) = same_listed list
    same_ranges low (Some high) (Some list) = refl

    same_entry : (e : Entry) → entry_ranges sections u e ≡ entry_ranges sections v e
    unfolding entry_ranges
    same_entry e =
        λ t. as_other (λ rule. record { rule = rule; at = e.at })
        (same_ranges (value_at_entry e DW_AT_low_pc) (value_at_entry e DW_AT_high_pc) (value_at_entry e DW_AT_ranges) t)

-- two that are what header and first entry of one unit say
pub same_unit : (entries : Entries) (number : ℕ) (u v : UnitAddresses) → AreAddressesOf entries number u
    → AreAddressesOf entries number v → (sections : RangeSections) (e : Entry)
    → entry_ranges sections u e ≡ entry_ranges sections v e
same_unit entries number u v p q sections e =
    let version : u.version ≡ v.version = p.version ∙ sym q.version in
    let size : u.address_size ≡ v.address_size = p.address_size ∙ sym q.address_size in
    let at : Option ℕ = option_and_then offset_in (first_value entries number DW_AT_addr_base) in
    let slots : u.slots.now ≡ v.slots.now =
    p.slots ∙ (λ t. slots_in (size t) (sections_of entries).addr.now at) ∙ sym q.slots in
    let base : u.base ≡ v.base =
    p.base ∙ (λ t. base_address (size t) (slots t) (first_value entries number DW_AT_low_pc)) ∙ sym q.base in
    same_entry u v version size slots base (p.lists_base ∙ sym q.lists_base) sections e

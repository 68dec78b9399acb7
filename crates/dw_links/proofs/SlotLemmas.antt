-- Slots lie within their sections.
use Rattle.std.proofs.Common.{rules, ◌≡◌, ℕ, ◌+◌, ◌*◌, ◌<◌, ◌≤◌, List, length, Option, None, Some, refl, inl}
use Rattle.dw_entries.specs.Header.{IsSize}
use Rattle.dw_entries.specs.declared.header.UnitHeader.{UnitHeader}
use Rattle.dw_forms.specs.Value.{str_index}
use Rattle.dw_links.specs.Contributions.{IsContribution, slot_at, slot_count}
use Rattle.dw_links.specs.LinkLaws.{HasAddressAt, HasStringAt}
use Rattle.dw_elf.specs.declared.sections.Sections.{Sections}
use Rattle.dw_links.specs.Slots.{IsStringOf}
use Rattle.dw_links.specs.declared.texts.TextPlace.TheVariants.{Str}

-- a slot below the count lies within the section
pub slot_within : (section : List ℕ) (slot mark base index : ℕ) → IsSize slot → IsContribution section slot mark base
    → index < slot_count section slot base → base + slot * index + slot ≤ length section
slot_within section slot mark base index size is below = search (rules)

-- the slot of a string in a unit
module _ (s : Sections) (base : Option ℕ) (index : ℕ) (has : HasStringAt s base index) where
  pub string_based : base ≡ None → ⊥
  string_based none = rw none at has

  pub string_slot : (b : ℕ) → base ≡ Some b → b + 4 * index + 4 ≤ length s.str_offsets.now
  string_slot b is =
      let at = rw is at has in
      slot_within s.str_offsets.now 4 0 b index (inl refl) at.0 at.1

  pub string_there : (b n : ℕ) → base ≡ Some b → n ≡ slot_at s.str_offsets.now 4 b index
      → IsStringOf s base (str_index index) (Str n)
  string_there b n is told =
      let at = rw is at has in
      rw (is, told) (record { place = λ end. refl; text = refl; begins = at.2 })

-- the slot of an address
module _ (s : Sections) (header : UnitHeader) (base : Option ℕ) (index : ℕ) (has : HasAddressAt s header base index)
  where
    pub address_based : base ≡ None → ⊥
    address_based none = rw none at has

    pub address_slot : (b : ℕ) → IsSize header.address_size → base ≡ Some b
        → b + header.address_size * index + header.address_size ≤ length s.addr.now
    address_slot b size is =
        let at = rw is at has in
        slot_within s.addr.now header.address_size header.address_size b index size at.0 at.1

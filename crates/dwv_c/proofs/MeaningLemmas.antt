-- What the values of entries of an image mean.
use Rattle.std.proofs.Common.{◌≡◌, ℕ, ◌<◌, List, length, length-drop, Some, ap, ◌∙◌, arith}
use Rattle.std.specs.Prelude.{slice_get}
use Rattle.dw_forms.specs.Value.{Datum}
use Rattle.dw_entries.specs.declared.entries.Entries.{Entries}
use Rattle.dw_entries.specs.declared.units.UnitHead.{UnitHead}
use Rattle.dw_entries.specs.Entries.{Entry, placed}
use Rattle.dw_entries.specs.ByNumber.{entry_of, placed_of}
use Rattle.dw_entries.specs.Lookups.{unit_head}
use Rattle.dw_entries.specs.Views.{all_entries, all_units}
use Rattle.dw_entries.proofs.ScanLaws.{few_units}
use Rattle.dw_forms.specs.Codes.{DW_AT_str_offsets_base, DW_AT_addr_base}
use Rattle.dw_links.specs.Tables.{base_at}
use Rattle.dw_links.specs.ValueTexts.{address_of, text_of_value, text_place_of}
use Rattle.dw_links.specs.declared.texts.TextPlace.{TextPlace}
use Rattle.dw_links.proofs.ClassLemmas.{unit_there}
use Rattle.dw_links.proofs.TableLemmas.{first_within}
use Rattle.dw_links.proofs.UnitToAll.{unit_below}
use Rattle.dw_image.specs.declared.image.Image.{Image}
use Rattle.dw_image.specs.Images.{entries_in, entry_count, sections_in, unit_count, units_in}
use Rattle.dwv_c.specs.declared.meaning.Meaning.TheVariants.{Address, Text}
use Rattle.dwv_c.specs.declared.places.Span.{Span}
use Rattle.dwv_c.specs.Meanings.{MeansIn}
use Rattle.dwv_c.specs.TableState.{IsUnitOf}
use Rattle.dwv_c.specs.declared.places.Holders.{Holders}
use Rattle.dwv_c.specs.SectionPlaces.{IsTextSpan}
use Rattle.dwv_c.specs.ValueRows.{value_place, value_text}

module _ (h : Holders) (i : Image) (unit : ℕ) (below : unit < unit_count i) (end : ℕ) (v : Datum) where
  its_unit : (e : Entry) → e.unit ≡ unit
      → slice_get (placed (units_in i)) e.unit ≡ Some (placed_of (placed (units_in i)) unit)
  its_unit e in_unit = ap (slice_get (placed (units_in i))) in_unit ∙ unit_there (units_in i) unit below

  pub text_means : (t : List ℕ) (p : TextPlace) (s : Span)
      → text_of_value (sections_in i) (base_at i.entries unit DW_AT_str_offsets_base) v ≡ Some t
      → text_place_of (sections_in i) (base_at i.entries unit DW_AT_str_offsets_base) v end ≡ Some p
      → IsTextSpan h t p s → MeansIn h i unit end v (Text s)
  unfolding units_in
  text_means t p s told at there e in_unit =
      let value : value_text i e v ≡ Some t = rw (its_unit e in_unit) told in
      let place : value_place i e end v ≡ Some p = rw (its_unit e in_unit) at in
      (t, p, value, place, there)

  pub address_means : (n : ℕ) → address_of (sections_in i) (placed_of (all_units i.entries) unit).unit.header
      (base_at i.entries unit DW_AT_addr_base) v ≡ Some n → MeansIn h i unit end v (Address n)
  unfolding units_in
  address_means n told e in_unit = rw (its_unit e in_unit) told

-- ---- units

-- the number of a unit has 32 bits
pub unit_fits : (i : Image) (unit : ℕ) → unit < unit_count i → unit < 4294967296
unfolding units_in
unit_fits i unit below =
    omega (
      arith,
      below,
      few_units _ (units_in i) i.entries.scanned.1.spells.are,
      ap length i.entries.scanned.1.spells.parts,
      length-drop i.entries.sections.base i.entries.sections.info.now,
      i.entries.sections.info_fits,
    )

-- the unit of an entry that is looked up
pub unit_found : (i : Image) (es : Entries) (found : Entry) (number id unit : ℕ) → es ≡ i.entries
    → found ≡ entry_of (all_entries es) id → number < entry_count i → id ≡ number → unit ≡ found.unit
    → IsUnitOf i unit id
unfolding units_in
unit_found i es found number id unit same is below named told =
    let within : id < length (entries_in i) = rw named below in
    let its = told ∙ ap (λ (e : Entry). e.unit) (is ∙ ap (λ (x : Entries). entry_of (all_entries x) id) same) in
    record { known = unit_below i.entries id unit within its; within = within; in_unit = its }

-- the first entry of a unit is one of the entries
pub first_in : (i : Image) (number : ℕ) (told : UnitHead) → number < unit_count i
    → told ≡ unit_head (placed_of (all_units i.entries) number) → told.first < length (entries_in i)
unfolding units_in
first_in i number told below tells = first_within (units_in i) number told below tells

-- What is known of the values of entries of an image: each text and each address is there, and each reference has a
-- target, since no rule fails.
use Rattle.std.proofs.Common.{rules, ◌≡◌, ℕ, ◌<◌, None, slice_get, refl, true, inr, ap, ◌∙◌}
use Rattle.std.proofs.lemmas.Option.{slice_get-get_or}
use Rattle.dw_forms.specs.Value.{Datum, ref_info, ref_unit, ref_sig}
use Rattle.dw_forms.specs.declared.rule.Rule.TheVariants.{NoEntry, NoSignature}
use Rattle.dw_entries.specs.Lookups.{entry_head}
use Rattle.dw_entries.proofs.EntryFacts.{entries_rise}
use Rattle.dw_entries.proofs.Firsts.{OffsetsRise, Rule, HasNone}
use Rattle.dw_links.specs.LinkLaws.{HasItsText}
use Rattle.dw_links.specs.References.{ReferenceFails, ReferenceFailures, is_reference_value}
use Rattle.dw_links.proofs.LinkedEntries.{reach_of}
use Rattle.dw_links.proofs.TableLemmas.{entry_of, no_entry, placed, placed_of, unit_there}
use Rattle.dw_links.proofs.TargetLemmas.{type_is}
use Rattle.dw_image.specs.declared.image.Image.{Image}
use Rattle.dw_image.specs.Images.{entries_in, units_in, sections_in, unit_count}
use Rattle.dw_image.proofs.JoinLemmas.{none_at, sound_image}
use Rattle.dwv_c.specs.Meanings.{HasValue}

-- a text or an address is there
pub lies : (i : Image) (unit : ℕ) → unit < unit_count i → (v : Datum) → HasValue i unit v
    → HasItsText (sections_in i) (entries_in i) (placed_of (placed (units_in i)) unit) v
lies i unit below v x =
    (sound_image i).sound.texts x.id (entry_of (entries_in i) x.id)
    (slice_get-get_or (entries_in i) x.id no_entry x.within) x.position x.attribute v x.has _
    (ap (slice_get (placed (units_in i))) x.in_unit ∙ unit_there (units_in i) unit below)

image_rise : (i : Image) → OffsetsRise (entries_in i)
unfolding units_in
image_rise i = search (rules, entries_rise)

none_fails : (i : Image) → HasNone (ReferenceFailures (units_in i))
unfolding units_in
none_fails i = i.references

module _ (i : Image) (unit : ℕ) where
  -- no rule fails at a reference
  passes : (v : Datum) (x : HasValue i unit v) (rule : Rule)
      → ReferenceFails (entries_in i) (placed (units_in i)) (entry_head (entry_of (entries_in i) x.id)) x.attribute v
      rule
      → ⊥
  passes v x rule fails =
      none_at (entries_in i) (ReferenceFails (entries_in i) (placed (units_in i)))
      (λ f fails. none_fails i f (inr fails)) x.id _ (slice_get-get_or (entries_in i) x.id no_entry x.within) x.position
      x.attribute v x.has rule fails

  -- so each has a target
  no_target : (v : Datum) (x : HasValue i unit v) → is_reference_value v ≡ true
      → reach_of (entries_in i) (placed (units_in i)) (entry_of (entries_in i) x.id).unit v ≡ None → ⊥
  no_target (ref_info offset) x is none = passes _ x NoEntry (refl, (refl, none))
  no_target (ref_unit offset) x is none = passes _ x NoEntry (refl, (refl, none))
  no_target (ref_sig signature) x is none =
      passes _ x NoSignature (
        refl,
        λ number has.
            let types = (sound_image i).sound.references.types in
            let typed = types.types number signature has.type_offset has.unit has.is_unit has.signed in
            let reached = type_is (entries_in i) (placed (units_in i)) signature typed.id (image_rise i)
            types.distinct
            (record { number = number; has = has; target = typed.is_type }) in search (rules, reached, none),
      )
  no_target _ x is none = absurd cc

  pub has_target : (v : Datum) → HasValue i unit v → is_reference_value v ≡ true
      → None ≡ reach_of (entries_in i) (placed (units_in i)) unit v → ⊥
  has_target v x asked is = no_target v x asked (search (rules, x.in_unit))

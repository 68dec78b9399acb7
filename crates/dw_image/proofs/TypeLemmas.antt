-- What the entries of an image refer to: by the steps that it keeps, and by DW_AT_type.
use Rattle.std.proofs.Common.{rules, ◌≡◌, ℕ, ◌<◌, ◌≤◌, List, length, Some, None, slice_get, Option, refl, option_and_then}
use Rattle.std.proofs.lemmas.Option.{slice_get-get_or, slice_get_past}
use Rattle.dw_links.specs.Targets.{target_of}
use Rattle.dw_entries.specs.Units.{DebugUnit}
use Rattle.dw_types.specs.Graphs.{Graph, step_at, steps_of}
use Rattle.dw_types.specs.Steps.{by_value}
use Rattle.dw_types.proofs.StepLemmas.{by_value-leads, length-by_value}
use Rattle.dw_forms.specs.Codes.{DW_AT_type}
use Rattle.dw_forms.specs.Value.{Datum}
use Rattle.dw_forms.specs.declared.class.Class.TheVariants.{Reference}
use Rattle.dw_forms.specs.Classes.{class_of}
use Rattle.dw_entries.specs.Lookups.{value_at_entry}
use Rattle.dw_entries.proofs.Firsts.{same_some}
use Rattle.dw_links.specs.LinkLaws.{HaveTargets}
use Rattle.dw_links.proofs.LinkedEntries.{have_targets, reach_of}
use Rattle.dw_image.specs.declared.image.Image.{Image}
use Rattle.dw_image.specs.Images.{entries_in, units_in, type_in}
use Rattle.dw_image.specs.Lookups.{type_number}
use Rattle.dw_links.proofs.TableLemmas.{entry_of, no_entry, units_of, entries_of, placed}
use Rattle.dw_links.proofs.TargetLemmas.{Entry, PlacedUnit}

-- ---- the steps by value that an image keeps

module _ (us : List DebugUnit) (graph : Graph) (is : graph ≡ by_value us) where
  -- each entry is a node
  pub nodes-are : length graph ≡ length (entries_of us)
  nodes-are = search (rules, length-by_value)

  -- each step leads to an entry
  pub step-below : (node k : ℕ) → k < length (steps_of graph node) → step_at graph node k < length (entries_of us)
  step-below node k within = search (rules, length-by_value, by_value-leads)

  -- the k-th step, or none past the last
  pub step-there : (node k : ℕ) → k < length (steps_of graph node)
      → Some (step_at graph node k) ≡ slice_get (steps_of (by_value us) node) k
  step-there node k within = search (rules, slice_get-get_or)

  pub step-past : (node k : ℕ) → length (steps_of graph node) ≤ k
      → None ≡ slice_get (steps_of (by_value us) node) k
  step-past node k past = search (rules, slice_get_past)

-- ---- DW_AT_type: what it refers to is a type, since no rule on references fails

-- a value by which an entry is reached is a reference
is_reference : (entries : List Entry) (units : List PlacedUnit) (unit : ℕ) (v : Datum) (t : ℕ)
    → reach_of entries units unit v ≡ Some t → class_of v ≡ Reference
is_reference entries units unit v t reaches = search (rules)

-- the entry that this value of DW_AT_type leads to
typed : (us : List DebugUnit) (id : ℕ) (e : Entry) (value : Option Datum) (target : Option ℕ) → HaveTargets us
    → slice_get (entries_of us) id ≡ Some e → value_at_entry e DW_AT_type ≡ value
    → option_and_then (reach_of (entries_of us) (placed us) e.unit) value ≡ target
    → option_and_then (type_number (entries_of us)) target ≡ target
typed us id e value None have is has reaches = refl
typed us id e None (Some t) have is has reaches = absurd cc
typed us id e (Some v) (Some t) have is has reaches =
    let it = have id e is DW_AT_type v has (is_reference (entries_of us) (placed us) e.unit v t reaches) in
    let same = same_some _ it.id t it.reaches reaches in rw (rw same at it.is_entry, it.kind) refl

pub type_is_target : (i : Image) (id : ℕ) → id < length (entries_in i)
    → type_in i (entry_of (entries_in i) id)
    ≡ target_of (entries_in i) (placed (units_in i)) (entry_of (entries_in i) id) DW_AT_type
unfolding type_in units_in target_of
type_is_target i id below =
    let us = units_of i.entries in
    let e = entry_of (entries_of us) id in
    typed us id e (value_at_entry e DW_AT_type) _ (have_targets _ _ us i.entries.scanned.1.spells i.references)
    (slice_get-get_or (entries_of us) id no_entry below) refl refl

-- what `Image::step` is proved by
pub ruleset steps = (nodes-are, step-below, step-there, step-past)

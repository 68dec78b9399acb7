-- Chapter: how many units, entries and types sound sections have.
use Rattle.std.specs.Prelude.{◌≡◌, ◌+◌, List, length}
use Rattle.std.specs.List.{count_by}
use Rattle.dw_elf.specs.declared.sections.Sections.{Sections}
use Rattle.dw_entries.specs.Entries.{entries_of, DebugUnit}
use Rattle.dw_image.specs.declared.image.Image.{Image}
use Rattle.dw_image.specs.Headline.{IsSoundBy, IsFaultOf}
use Rattle.dw_image.specs.Images.{unit_count, entry_count, type_count}
use Rattle.dw_image.specs.Lookups.{is_type_entry}
use Rattle.dw_units.specs.declared.counts.Counts.{Counts}
use Rattle.dw_units.specs.declared.checking.Found.{Found}
use Rattle.dw_units.specs.declared.checking.Found.TheVariants as found

-- the sections are sound, and these are the counts of their units, entries and types
pub record AreCounts (s : Sections) (c : Counts) : Type 0 where
  pub units : List DebugUnit
  pub sound : IsSoundBy s units
  pub unit_count : c.units ≡ length units
  pub entry_count : c.entries ≡ length (entries_of units)
  pub type_count : c.types ≡ count_by is_type_entry (entries_of units)

-- the counts of an image
abbrev pub counts_in : Image → Counts
counts_in i = record { units = unit_count i; entries = entry_count i; types = type_count i }

-- the counts of some units and of others
abbrev pub sums : Counts → Counts → Counts
sums a b = record { units = a.units + b.units; entries = a.entries + b.entries; types = a.types + b.types }

-- the sections are sound, and these are their counts; or this is their first fault
abbrev pub IsFoundIn : Sections → Found → Type 0
IsFoundIn s (found.Sound c) = AreCounts s c
IsFoundIn s (found.Fault fault) = IsFaultOf s fault

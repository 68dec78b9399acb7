-- State: the abbreviation tables that were read of a section.
use Rattle.std.specs.Prelude.{ℕ, List}
use Rattle.dw_forms.specs.declared.abbrev_tables.AbbrevTables.{AbbrevTables}
use Rattle.dw_forms.specs.KeptDecls.{Tables, tables_of, AreReadable}
use Rattle.dw_forms.specs.ListOffsets.{AreListsOf}
use Rattle.dw_forms.specs.TableStarts.{AreStarts}

-- the tables by their numbers
abbrev pub tables_in : AbbrevTables → Tables
tables_in t = tables_of t.lists.lists.nodes.items t.kept.items

-- codes are found in the tables, and attributes in the declarations
abbrev pub AreSearchable : AbbrevTables → Type 0
AreSearchable t =
    AreReadable t.codes.links.items t.labels.long t.lists.lists.nodes.items t.places.items t.kept.items

-- the tables are those of this section
pub record AreTablesOf (section : List ℕ) (t : AbbrevTables) : Type 0 where
  pub searchable : AreSearchable t
  pub lists : AreListsOf section t.lists
  pub starts : AreStarts section (tables_in t) t.starts.starts.items

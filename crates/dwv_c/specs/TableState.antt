-- State: what is known of an entry before its row in a table is written.
use Rattle.std.specs.Prelude.{◌≡◌, ℕ, suc, ◌<◌, List, length, min, slice_get, Option, None, Some, option_map}
use Rattle.dw_entries.specs.ByNumber.{entry_of}
use Rattle.dw_image.specs.declared.image.Image.{Image}
use Rattle.dw_image.specs.Images.{entries_in, unit_count}
use Rattle.dwv_c.specs.declared.places.Holders.{Holders}
use Rattle.dwv_c.specs.declared.table_rows.Links.{Links}
use Rattle.dwv_c.specs.declared.table_rows.EntryRow.{EntryRow}
use Rattle.dwv_c.specs.declared.meaning.ValueRow.{ValueRow}
use Rattle.dwv_c.specs.Tables.{HaveEntries, HaveValues, greatest, row_of}

-- one more than the depth in a parent's row, or 0 if there is no parent
abbrev pub depth_by : List EntryRow → Option ℕ → Option ℕ
depth_by rows None = Some 0
depth_by rows (Some p) = option_map (λ (r : EntryRow). min (suc r.depth) greatest) (slice_get rows p)

-- a row has this place among the others, and these values
pub record HasLinks (l : Links) (r : EntryRow) : Type 0 where
  pub first_value : r.first_value ≡ l.first_value
  pub values : r.values ≡ min l.values greatest
  pub unit : r.unit ≡ l.unit
  pub parent : r.parent ≡ row_of l.parent
  pub next_sibling : r.next_sibling ≡ row_of l.next_sibling

-- the unit with this number is that of an entry
pub record IsUnitOf (i : Image) (unit id : ℕ) : Type 0 where
  pub known : unit < unit_count i
  pub within : id < length (entries_in i)
  pub in_unit : unit ≡ (entry_of (entries_in i) id).unit

-- the rows of the entries before a number are written, and those of so many values
pub record AreBefore (h : Holders) (i : Image) (number count : ℕ) (es : List EntryRow) (vs : List ValueRow)
    : Type 0 where
  pub entries : HaveEntries h i number es
  pub values : HaveValues h i count vs

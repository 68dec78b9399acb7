use Rattle.std.proofs.Common.{ℕ, length, min, sym, ap, ◌∙◌, arith}
use Rattle.std.proofs.lemmas.Option.{slice_get-get_or}
use Rattle.dw_entries.specs.ByNumber.{no_entry, entry_of}
use Rattle.dw_image.specs.Images.{entries_in, units_in}
use Rattle.dwv_c.specs.Tables.{greatest, row_of}
use Rattle.dwv_c.specs.TableState.{depth_by}
use Rattle.dwv_c.proofs.MeaningLemmas.{unit_fits}
use Rattle.dwv_c.proofs.TableLemmas.{counted_at}
use Rattle.dwv_c.proofs.TableRowLemmas.{depth_told, parent_before}
use Rattle.dwv_c.proofs.values.Resolver.entry_row.Goals as goal

pub depth_by_rows-depth-requires : goal.depth_by_rows-depth-requires
depth_by_rows-depth-requires c =
    let image = c.args.self.now.image.now in
    parent_before image c.args.id (length c.args.entries.now) c.parent.result c.requires.room c.requires.unit.within
    c.parent.ensures

pub overflow_sub-links : goal.overflow_sub-links
overflow_sub-links c =
    let i = c.args.self.now.image.now in
    let counted = counted_at i c.args.id _
    (slice_get-get_or (entries_in i) c.args.id no_entry c.requires.unit.within) in
    omega (arith, c.requires.from, c.requires.next, counted)

pub row_with-requires : goal.row_with-requires
row_with-requires c = unit_fits c.args.self.now.image.now c.args.unit c.requires.unit.known

pub returns : goal.returns
unfolding units_in
returns c =
    let i = c.args.self.now.image.now in
    let row = c.row_with.ensures in
    let e = entry_of (entries_in i) c.args.id in
    let there = slice_get-get_or (entries_in i) c.args.id no_entry c.requires.unit.within in
    let counted = counted_at i c.args.id e there in
    let deep = ap (depth_by c.args.entries.now) (sym c.parent.ensures) ∙ c.depth_by_rows-depth.ensures in
    record {
      offset = row.offset ∙ c.offset.ensures;
      depth =
          row.depth
          ∙ depth_told c.args.self.now.holders i c.args.id e c.args.entries.now _ there c.requires.before deep;
      tag = row.tag ∙ c.tag.ensures;
      size = rw c.size_of_entry-size.ensures at row.size;
      name = rw row.name c.requires.name;
      first_value = row.links.first_value ∙ c.requires.from;
      values =
          row.links.values ∙ ap (λ (n : ℕ). min n greatest) (omega (arith, c.requires.from, c.requires.next, counted));
      unit = row.links.unit ∙ c.requires.unit.in_unit;
      parent = row.links.parent ∙ ap row_of c.parent-2.ensures;
      next_sibling = row.links.next_sibling ∙ ap row_of (rw c.scanned.ensures at c.next_sibling.ensures);
    }

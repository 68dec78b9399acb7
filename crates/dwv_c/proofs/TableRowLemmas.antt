-- The rows of a table: how deep an entry is, the rows of entries and one more, and what a call returns.
use Rattle.std.proofs.Common.{◌≡◌, ℕ, suc, ◌+◌, ◌<◌, ◌≤◌, List, length, min, Option, Some, None, Err, IfSome, refl, sym, ap, subst, arith}
use Rattle.std.specs.Prelude.{slice_get, slice_set, option_map}
use Rattle.std.specs.Option.{IsSomeAnd}
use Rattle.std.proofs.lemmas.Option.{get_or_from_slice_get, same_Some, slice_get-get_or}
use Rattle.std.proofs.Math.Seq.{take-length}
use Rattle.dw_elf.proofs.PlaceLemmas.{bytes_there, info_within}
use Rattle.dw_elf.specs.Sections.{AreSections}
use Rattle.dw_entries.specs.Entries.{Entry}
use Rattle.dw_entries.specs.ByNumber.{no_entry, entry_of}
use Rattle.dw_entries.proofs.DepthLaws.{no_depth, one_deeper}
use Rattle.dw_forms.specs.Stops.{IfFault}
use Rattle.dw_forms.specs.declared.fault.Stop.{Stop}
use Rattle.dw_forms.specs.declared.fault.Stop.TheVariants.{Fault, Memory}
use Rattle.dw_image.specs.declared.image.Image.{Image}
use Rattle.dw_image.specs.Images.{entries_in, entry_count, sections_in, units_in}
use Rattle.dwv_c.specs.declared.table_rows.TableCounts.{TableCounts}
use Rattle.dwv_c.specs.declared.table_rows.EntryRow.{EntryRow}
use Rattle.dwv_c.specs.declared.verdict.Verdict.{Verdict}
use Rattle.dwv_c.specs.Checked.{status_of, verdict_after}
use Rattle.dwv_c.specs.Meanings.{AreThere}
use Rattle.dwv_c.specs.Tables.{AreHolders, Arrays, HaveEntries, IsEntryRow, PutsTable, greatest, fault, memory}
use Rattle.dwv_c.specs.TableState.{depth_by}
use Rattle.dwv_c.specs.declared.places.Holders.{Holders}
use Rattle.dwv_c.specs.Verdicts.{Given, IsFaultOfGiven, IsSound, of_file, of_six}
use Rattle.dwv_c.proofs.TableLemmas.{have_more}

-- the depth by the parent's row is the entry's
pub depth_told : (h : Holders) (i : Image) (k : ℕ) (e : Entry) (rows : List EntryRow) (d : ℕ)
    → slice_get (entries_in i) k ≡ Some e
    → HaveEntries h i k rows → depth_by rows e.parent ≡ Some d → d ≡ min e.depth greatest
depth_told h i k e rows d is so_far told = go e.parent refl told
  where
    by_row : (p : ℕ) (above : Entry) (o : Option EntryRow) → e.depth ≡ suc above.depth
        → IsSomeAnd o (IsEntryRow h i p above)
        → option_map (λ (r : EntryRow). min (suc r.depth) greatest) o ≡ Some d → d ≡ min e.depth greatest
    by_row p above None deeper row told = absurd row
    by_row p above (Some r) deeper row told = omega (arith, same_Some _ _ told, row.depth, deeper)

    go : (above : Option ℕ) → e.parent ≡ above → depth_by rows above ≡ Some d → d ≡ min e.depth greatest
    go None top told = omega (arith, same_Some _ _ told, no_depth (units_in i) k e is top)
    go (Some p) under told =
        let (above, at, deeper, less) = one_deeper (units_in i) k p e is under in
        by_row p above (slice_get rows p) deeper (so_far p above less at) told

-- a parent has an earlier number
pub parent_before : (i : Image) (k : ℕ) (room : ℕ) (parent : Option ℕ) → k ≤ room → k < entry_count i
    → parent ≡ (entry_of (entries_in i) k).parent → IfSome parent (λ p. p < room)
parent_before i k room parent le within is = go (entry_of (entries_in i) k).parent refl
  where
    go : (above : Option ℕ) → (entry_of (entries_in i) k).parent ≡ above → IfSome parent (λ p. p < room)
    go None top = rw (is, top) tt
    go (Some p) under =
        let (above, there, deeper, less) = one_deeper (units_in i) k p (entry_of (entries_in i) k)
        (slice_get-get_or (entries_in i) k no_entry within) under in
        rw (is, under) (omega (arith, less, le))

-- the rows of entries and that of the next one
pub entries_more : (h : Holders) (i : Image) (n : ℕ) (rows : List EntryRow) (r : EntryRow) → n < length rows
    → HaveEntries h i n rows
    → IsEntryRow h i n (entry_of (entries_in i) n) r → HaveEntries h i (n + 1) (slice_set rows n r)
entries_more h i n rows r room so_far says =
    have_more (IsEntryRow h i) (entries_in i) n rows r room so_far
    (λ e is. subst (λ (x : Entry). IsEntryRow h i n x r) (get_or_from_slice_get (entries_in i) n e no_entry is) says)

-- ---- what a call returns

-- it is not sound, or an allocation failed
pub puts_fault : (g : Given) (old : Arrays) (counts : TableCounts) (v v' : Verdict) (e : Stop Verdict) (status : ℕ)
    → status ≡ status_of (Err e) → v' ≡ verdict_after (Err e) v → IfFault (IsFaultOfGiven g) e
    → PutsTable g old counts v status old counts v'
puts_fault g old counts v v' (Fault f) status is_status is_v is = rw (is_status, is_v) (fault f is)
puts_fault g old counts v v' Memory status is_status is_v is = rw (is_status, is_v) memory

-- the sections of what is sound are where places are counted from
pub are_there : (g : Given) (i : Image) (h : Holders) → IsSound g i → AreHolders g i h → AreThere i h
are_there (of_file bytes) i h is are =
    let s = sections_in i in
    let there : AreSections bytes s = subst (AreSections bytes) (sym is.image.sections) is.given.are in
    record {
      info = rw are.info.bytes (bytes_there _ _ _ are.info.start _ there.info_is);
      info_within = rw are.info.bytes (info_within _ _ is.given.passes are.info.start _ there.info_is);
      str = rw are.str.bytes (bytes_there _ _ _ are.str.start _ there.str_is);
      line_str = rw are.line_str.bytes (bytes_there _ _ _ are.line_str.start _ there.line_str_is);
    }
are_there (of_six info abbrevs strs line_strs offsets addrs) i h is are = record {
  info = rw (are.info.bytes, are.info.start) (take-length _);
  info_within = omega (arith, ap length are.info.bytes, are.info.start);
  str = rw (are.str.bytes, are.str.start) (take-length _);
  line_str = rw (are.line_str.bytes, are.line_str.start) (take-length _);
}

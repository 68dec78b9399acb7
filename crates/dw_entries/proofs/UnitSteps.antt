-- What taking a unit rests on.
use Rattle.std.proofs.Common.{rules, ◌≡◌, ℕ, ◌+◌, ◌≤◌, List, [], ◌∷◌, ◌++◌, length, take, Ok, refl, sym, ap, ◌∙◌, append-nil, length-append, Result, subst}
use Rattle.dw_forms.specs.Abbrev.{Declaration}
use Rattle.dw_entries.specs.declared.records.UnitRecord.{UnitRecord}
use Rattle.dw_entries.specs.declared.records.Kept.{Kept}
use Rattle.dw_forms.specs.AbbrevTables.{tables_in, AreTablesOf}
use Rattle.dw_forms.specs.Chains.{chain_in}
use Rattle.dw_forms.specs.KeptDecls.{table_in, decl_number_in}
use Rattle.dw_forms.specs.TableStarts.{IsTableIn, Stay}
use Rattle.dw_entries.specs.Header.{UnitHeader, IsSize, unit_header_size, header_and_body, header_at, unit_at, Rule}
use Rattle.dw_forms.specs.Front.{Takes}
use Rattle.dw_entries.specs.HeaderLaws.{IsSized, Read, is_sized, unit_format}
use Rattle.dw_entries.specs.Tree.{node_bytes}
use Rattle.dw_entries.specs.Units.{context_by, nulls_bytes}
use Rattle.dw_entries.specs.Stopped.{TreeOf, UnitTaken}
use Rattle.dw_forms.specs.Steps.{◌>>=◌}
use Rattle.dw_forms.specs.WithBytes.{bind_ok, read_takes}
use Rattle.dw_forms.specs.Readers.{read_is}

-- ---- a unit's header

module _ (abbrev_size : ℕ) where
  -- a unit without the bytes after it
  abbrev unit_read : Read abbrev_size × List ℕ → Result (Read abbrev_size) Rule
  unit_read y = Ok y.0

  -- what is read is the header and the body of the unit
  header_is : (bytes : List ℕ) → header_at abbrev_size bytes ≡ ((header_and_body abbrev_size).read bytes >>= unit_read)
  unfolding header_at unit_at header_and_body
  header_is bytes = search (rules)

  -- a header that is read is spelled, and so is the body
  header_takes : (bytes : List ℕ) (x : Read abbrev_size) → header_at abbrev_size bytes ≡ Ok x
      → (after : List ℕ) × Takes (header_and_body abbrev_size).Spells bytes x after
  header_takes bytes x e = search (rules, bind_ok, header_is, read_is, read_takes)

  -- a header that is spelled is read, whatever follows its unit
  pub header_again : (text rest : List ℕ) (x : Read abbrev_size) → (unit_format abbrev_size).Spells text x
      → header_at abbrev_size (text ++ rest) ≡ Ok x
  header_again text rest x s =
      search (rules, header_is, ((unit_format abbrev_size).is_reader.again text rest x s))

-- ---- the unit

abbrev unit_record : ℕ → UnitHeader → ℕ → ℕ → UnitRecord
unit_record at h table first = record { at = at; header = h; table = table; first = first }

module _ (a rest : List ℕ) (h : UnitHeader) (body : List ℕ) (read : header_at (length a) rest ≡ Ok (h, body)) where
  abbrev after : List ℕ
  after = (header_takes (length a) rest (h, body) read).0

  abbrev found : Takes (header_and_body (length a)).Spells rest (h, body) after
  found = (header_takes (length a) rest (h, body) read).1

  is : IsSized (length a) found.text h body
  is = is_sized (length a) found.text h body found.spelled

  pub read_size : IsSize h.address_size
  read_size = is.size

  pub read_offset : h.abbrev_offset ≤ length a
  read_offset = search (rules, is)

  pub read_start : unit_header_size h.kind + length body ≤ length rest
  read_start = search (rules, is, length-append)

  pub unit_taken : (at start number first : ℕ) (old new : Kept)
      → start ≡ at + unit_header_size h.kind → first ≡ length old.records.items
      → IsTableIn a (tables_in new.tables) h.abbrev_offset number
      → AreTablesOf a new.tables → Stay (tables_in old.tables) (tables_in new.tables)
      → new.units.items ≡ old.units.items ++ unit_record at h number first ∷ []
      → TreeOf (context_by h (table_in (tables_in new.tables) number))
      (decl_number_in (chain_in (tables_in new.tables) number)) h.kind body [] start old.records.items new.records.items
      → UnitTaken a rest at old new (4 + h.unit_length)
  unit_taken at start number first old new s few there tables stay units tree =
      let table : List Declaration = table_in (tables_in new.tables) number in
      let numbers : ℕ → ℕ = decl_number_in (chain_in (tables_in new.tables) number) in
      let whole : body ≡ node_bytes tree.root ++ nulls_bytes tree.nulls = search (rules, append-nil) in
      let front : List ℕ = take (unit_header_size h.kind) found.text in
      let text : found.text ≡ front ++ (node_bytes tree.root ++ nulls_bytes tree.nulls) = search (rules, is) in
      let counted = is.whole in
      record {
        taken = record {
          at = at;
          header = h;
          header_bytes = front;
          table = table;
          root = tree.root;
          nulls = tree.nulls;
        };
        is =
            record {
              header = ∣ subst (λ (b : List ℕ). (header_and_body (length a)).Spells b
                  (h, node_bytes tree.root ++ nulls_bytes tree.nulls)) text
                  (subst (λ (b : List ℕ). (header_and_body (length a)).Spells found.text (h, b)) whole found.spelled)
                  ∣₁;
              table = there.table;
              root = tree.is;
              tag = tree.tag;
              nulls = tree.are_nulls;
            };
        begins = refl;
        after = after;
        parts = search rules;
        len_is = sym counted ∙ ap length text;
        record_is = unit_record at h number first;
        kept = search (rules);
        units = units;
        records = let made = tree.records (length old.units.items) in search rules;
        tables = tables;
        stay = stay;
      }

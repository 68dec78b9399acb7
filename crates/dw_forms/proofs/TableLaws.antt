-- A table is its declarations, one after another, up to the code 0, or it has the fault that reading gives.
use Rattle.std.proofs.Common.{◌≡◌, ℕ, ◌+◌, ◌-◌, ◌≤◌, List, length, drop, Result, Ok, Err, sym, ap, ◌∙◌, arith, IfOk, IfErr, length-append, length-drop, ◌++◌, take, refl, take-append-drop}
use Rattle.dw_forms.specs.declared.rule.Rule.TheVariants.{AbbrevCut}
use Rattle.dw_forms.specs.Faults.{fault_at, AbbrevFault}
use Rattle.dw_forms.specs.Steps.{◌>>=◌}
use Rattle.dw_forms.specs.Front.{BeginsWith, BeginsWithNone}
use Rattle.dw_forms.specs.Abbrev.{broken, Declaration, Decls, TableFails, code_of_decl, declarations, table}
use Rattle.dw_forms.specs.AbbrevReading.{placed_decl_at, decls_at, table_at}
use Rattle.dw_forms.specs.Elements.{SpellsElement, SpellsEnd}
use Rattle.dw_forms.specs.ListFormats.{ReadsNext, renamed_next, reads_renamed}
use Rattle.dw_forms.specs.Readers.{read_is, fault_is, not_both, reader_begins, reader_none, reader_fails}
use Rattle.dw_forms.specs.Stops.{IfFault, GivesOrMemory, Stop}
use Rattle.dw_forms.specs.TableGrammar.{IsTableAt, IsReadByGrammar}
use Rattle.dw_forms.specs.declared.fault.Stop.TheVariants as stops

-- ---- the declarations of a table

-- the declarations of a table at the end of a section of this length
pub reads_decls : (len : ℕ) → ReadsNext code_of_decl (SpellsElement declarations) (SpellsEnd declarations)
    (λ earlier. (renamed_next declarations (λ bytes. fault_at (len - length bytes)) earlier).Fails)
    (placed_decl_at len) (fault_at len (broken AbbrevCut 0))
reads_decls len = reads_renamed declarations (λ bytes. fault_at (len - length bytes)) _

abbrev pub DeclsFail : ℕ → List ℕ → AbbrevFault → Type 0
DeclsFail len = (table len).Fails

-- ---- the table at an offset

module _ (section : List ℕ) (offset : ℕ) where
  fails_at : offset ≤ length section → (fault : AbbrevFault) → DeclsFail (length section) (drop offset section) fault
      → TableFails section offset fault
  fails_at within fault f =
      let place : length section - length f.rest
      ≡ offset + length f.text = omega
      (arith, length-drop offset section, ap length f.parts, length-append f.text f.rest) in
      record {
        ds = f.items;
        text = f.text;
        rest = f.rest;
        parts = f.parts;
        spelled = f.spelled;
        distinct = f.distinct;
        reason = f.fails.0;
        fails = f.fails.1;
        is = f.fails.2 ∙ (λ i. fault_at (place i) f.fails.0);
      }

  pub table_result : (r : Result (List Declaration × List ℕ) AbbrevFault) (ds : List Declaration)
      → (r >>= λ x. Ok x.0) ≡ Ok ds → (rest : List ℕ) × (r ≡ Ok (ds, rest))
  table_result (Ok x) ds e = (x.1, ap (λ (d : List Declaration). Ok (d, x.1)) (read_is e))
  table_result (Err fault) ds e = absurd (not_both e)

  table_error : (r : Result (List Declaration × List ℕ) AbbrevFault) (fault : AbbrevFault)
      → (r >>= λ x. Ok x.0) ≡ Err fault → r ≡ Err fault
  table_error (Ok x) fault e = absurd (not_both (sym e))
  table_error (Err f) fault e = ap Err (fault_is e)

  pub table_found : (ds : List Declaration) → table_at section offset ≡ Ok ds
      → (len : ℕ) × BeginsWith Decls (drop offset section) ds len
  table_found ds e =
      let r = table_result (decls_at (length section) (drop offset section)) ds e in (
        length (drop offset section) - length r.0,
        reader_begins (decls_at (length section)) Decls
            (DeclsFail (length section)) (table (length section)).is_reader (drop offset section) ds r.0 r.1,
      )

  pub table_none : (fault : AbbrevFault) → table_at section offset ≡ Err fault
      → BeginsWithNone Decls (drop offset section)
  table_none fault e =
      reader_none (decls_at (length section)) Decls (DeclsFail (length section)) (table (length section)).is_reader
      (drop offset section) fault (table_error (decls_at (length section) (drop offset section)) fault e)

  pub table_fails : offset ≤ length section → (fault : AbbrevFault) → table_at section offset ≡ Err fault
      → TableFails section offset fault
  table_fails within fault e =
      fails_at within fault (reader_fails (decls_at (length section)) Decls (DeclsFail (length section))
      (table (length section)).is_reader (drop offset section) fault
      (table_error (decls_at (length section) (drop offset section)) fault e))

  -- ---- the clauses of the call

  pub table_found_by : (r : Result (List Declaration) (Stop AbbrevFault))
      → GivesOrMemory (λ t. t) r (table_at section offset)
      → IfOk r (λ ds. (len : ℕ) × BeginsWith Decls (drop offset section) ds len)
  table_found_by (Ok ds) e = table_found ds e
  table_found_by (Err error) e = tt

  pub table_none_by : (r : Result (List Declaration) (Stop AbbrevFault))
      → GivesOrMemory (λ t. t) r (table_at section offset)
      → IfErr r (IfFault (λ _. BeginsWithNone Decls (drop offset section)))
  table_none_by (Ok ds) e = tt
  table_none_by (Err stops.Memory) e = tt
  table_none_by (Err (stops.Fault f)) e = table_none f e

  pub table_fails_by : offset ≤ length section → (r : Result (List Declaration) (Stop AbbrevFault))
      → GivesOrMemory (λ t. t) r (table_at section offset) → IfErr r (IfFault (TableFails section offset))
  table_fails_by within (Ok ds) e = tt
  table_fails_by within (Err stops.Memory) e = tt
  table_fails_by within (Err (stops.Fault f)) e = table_fails within f e

-- ---- the faults of a table: the same bytes have one at most

pub table_refuses : (section : List ℕ) (offset : ℕ) (fault : AbbrevFault) → offset ≤ length section
    → TableFails section offset fault → table_at section offset ≡ Err fault
table_refuses section offset fault within f =
    let place : length section - length f.rest
    ≡ offset + length f.text = omega
    (arith, length-drop offset section, ap length f.parts, length-append f.text f.rest) in
    let read = (table (length section)).refuses (drop offset section) fault
    (record {
      items = f.ds;
      text = f.text;
      rest = f.rest;
      parts = f.parts;
      spelled = f.spelled;
      distinct = f.distinct;
      fails = (f.reason, f.fails, f.is ∙ (λ i. fault_at (sym place i) f.reason));
    }) in
    rw read refl

pub table_one_fault : (section : List ℕ) (offset : ℕ) (f g : AbbrevFault) → offset ≤ length section
    → TableFails section offset f → TableFails section offset g → f ≡ g
table_one_fault section offset f g within h k =
    fault_is (sym (table_refuses section offset f within h) ∙ table_refuses section offset g within k)

-- ---- reading a table, and its grammar

module _ (section : List ℕ) (offset : ℕ) where
  -- a table that is spelled is read
  table_read : (ds : List Declaration) → IsTableAt section offset ds → table_at section offset ≡ Ok ds
  table_read ds (len, b) =
      let text = take len (drop offset section) in
      let rest = drop len (drop offset section) in
      let parts : text ++ rest ≡ drop offset section = take-append-drop len (drop offset section) in
      rw (sym (ap (decls_at (length section)) parts) ∙ (table (length section)).is_reader.again text rest ds b.spelled)
      refl

  -- where no table is spelled, a fault is read
  fault_read : (r : Result (List Declaration) AbbrevFault) → table_at section offset ≡ r
      → BeginsWithNone Decls (drop offset section) → (fault : AbbrevFault) × (table_at section offset ≡ Err fault)
  fault_read (Ok ds) is none =
      let found = table_found section offset ds is in
      let b = found.1 in
      absurd (none (take found.0 (drop offset section)) (drop found.0 (drop offset section)) ds
      (sym (take-append-drop found.0 (drop offset section))) b.spelled)
  fault_read (Err fault) is none = (fault, is)

  pub table_by_grammar : IsReadByGrammar section offset
  table_by_grammar = record {
    table = λ ds. (table_found section offset ds, table_read ds);
    none = (λ f. table_none section offset f.0 f.1, fault_read (table_at section offset) refl);
    fault = λ within fault. (table_fails section offset within fault, table_refuses section offset fault within);
  }

-- How far the scan of a section has come.
use Rattle.std.proofs.Common.{rules, ◌≡◌, ℕ, zero, suc, ◌+◌, ◌-◌, ◌<◌, ◌≤◌, List, [], ◌∷◌, ◌++◌, length, map, take, drop, None, refl, sym, ap, ◌∙◌, append_assoc, append-nil, arith, length-append, length-drop, drop_at, drop-drop, drop_of_length-le, take_all, add-zero}
use Rattle.std.proofs.lemmas.List.Concat.{flat_map-append}
use Rattle.std.specs.List.{AllByRecursion, AllZip}
use Rattle.std.proofs.lemmas.List.{length-map, map-append}
use Rattle.dw_entries.specs.declared.records.Kept.{Kept}
use Rattle.dw_forms.specs.AbbrevTables.{tables_in, AreTablesOf}
use Rattle.dw_forms.specs.Chains.{chain_in}
use Rattle.dw_forms.specs.KeptDecls.{decl_number_in}
use Rattle.dw_forms.specs.TableStarts.{Stay}
use Rattle.dw_forms.proofs.StartLaws.{table_stays}
use Rattle.dw_entries.specs.declared.fault.PlainFault.{PlainFault}
use Rattle.dw_forms.specs.declared.fault.Stop.{Stop}
use Rattle.dw_forms.specs.declared.fault.Stop.TheVariants.{Memory, Fault as Breaks}
use Rattle.dw_forms.specs.Stops.{IfFault}
use Rattle.dw_entries.specs.UnitLaws.{unit_some, DebugUnit, unit_bytes, AreUnits, units_bytes, AreFrom}
use Rattle.dw_entries.specs.Records.{records_from}
use Rattle.dw_entries.specs.Scanned.{Tables, UnitRecord, Record, table_of, numbers_of, record_of, IsRecordOfUnit, Scanned}
use Rattle.dw_entries.specs.Stopped.{UnitTaken}
use Rattle.dw_entries.proofs.EntryFacts.{IsOfUnit, entries_from-append, length-entries_from, node_unit, units_count, Entry, node_count, node_entries, entries_from, start_of, PlacedUnit, placed_from, placed, unit_header_size}
use Rattle.dw_entries.proofs.HeadLaws.{all-append}
use Rattle.dw_entries.proofs.OrderLaws.{few_entries}

-- some units were taken, from one offset up to another, and these are their entries
pub record Upto (a info : List ℕ) (base header : ℕ) (kept : Kept) : Type 0 where
  pub units : List DebugUnit
  pub are : AreUnits a units
  pub are_from : AreFrom base units
  pub parts : drop base info ≡ units_bytes units ++ drop header info
  pub at : header ≡ base + length (units_bytes units)
  pub count : length kept.units.items ≡ length units
  pub unit_records : AllZip (IsRecordOfUnit (tables_in kept.tables)) kept.units.items (placed_from base 0 units)
  pub places : kept.records.items ≡ records_from (numbers_of (tables_in kept.tables) kept.units.items) 0 0 base units
  pub tables : AreTablesOf a kept.tables

-- the records of units depend on the numbers of these units alone
kept_in : (f g : ℕ → ℕ → ℕ) (unit : ℕ) (es : List Entry) → f unit ≡ g unit → AllByRecursion (IsOfUnit unit) es
    → map (record_of f) es ≡ map (record_of g) es
kept_in f g unit [] same of_unit = refl
kept_in f g unit (e ∷ es) same of_unit = search (rules, (kept_in f g unit es same of_unit.1))

records_same : (f g : ℕ → ℕ → ℕ) (unit id at : ℕ) (us : List DebugUnit) → ((n : ℕ) → n < unit + length us → f n ≡ g n)
    → records_from f unit id at us ≡ records_from g unit id at us
records_same f g unit id at [] same = refl
records_same f g unit id at (u ∷ us) same =
    search (
      rules,
      map-append,
      kept_in,
      (node_unit unit None 0 None id (at + unit_header_size u.header.kind) u.root),
      (same unit (omega arith)),
      (records_same f g (suc unit) (id + node_count u.root) (at + length (unit_bytes u)) us
          (λ n less. same n (omega arith))),
    )

units_bytes-push : (us : List DebugUnit) (u : DebugUnit) → units_bytes (us ++ u ∷ []) ≡ units_bytes us ++ unit_bytes u
units_bytes-push us u = search (rules, flat_map-append, append-nil)

IsRecordOfUnit-more : (old new : Tables) (r : UnitRecord) (p : PlacedUnit) → Stay old new → IsRecordOfUnit old r p
    → IsRecordOfUnit new r p
IsRecordOfUnit-more old new r p stay k = search (rules, length-append, table_stays)

-- the numbers of the units so far stay, and the next unit has those of its table
table_within : (tables : Tables) (rs : List UnitRecord) (ps : List PlacedUnit) (n : ℕ)
    → AllZip (IsRecordOfUnit tables) rs ps
    → n < length rs → table_of rs n < length tables
table_within tables [] ps n k less = absurd (omega arith)
table_within tables (r ∷ rs) [] n k less = absurd k
table_within tables (r ∷ rs) (p ∷ ps) zero k less = k.0.within
table_within tables (r ∷ rs) (p ∷ ps) (suc n) k less = table_within tables rs ps n k.1 (omega arith)

table_of-push : (rs : List UnitRecord) (r : UnitRecord) (n : ℕ) → n < length rs
    → table_of (rs ++ r ∷ []) n ≡ table_of rs n
table_of-push [] r n less = absurd (omega arith)
table_of-push (q ∷ rs) r zero less = refl
table_of-push (q ∷ rs) r (suc n) less = table_of-push rs r n (omega arith)

table_of-last : (rs : List UnitRecord) (r : UnitRecord) → table_of (rs ++ r ∷ []) (length rs) ≡ r.table
table_of-last [] r = refl
table_of-last (q ∷ rs) r = table_of-last rs r

numbers_stay : (old new : Tables) (rs : List UnitRecord) (ps : List PlacedUnit) (r : UnitRecord) (n : ℕ) → Stay old new
    → AllZip (IsRecordOfUnit old) rs ps → n < length rs
    → numbers_of old rs n ≡ numbers_of new (rs ++ r ∷ []) n
numbers_stay old new rs ps r n stay k less = search (rules, table_stays, table_within, table_of-push)

numbers_last : (tables : Tables) (rs : List UnitRecord) (r : UnitRecord) (n : ℕ) → n ≡ length rs
    → decl_number_in (chain_in tables r.table) ≡ numbers_of tables (rs ++ r ∷ []) n
numbers_last tables rs r n e = search (rules, table_of-last)

AllKept-push : (old new : Tables) (rs : List UnitRecord) (ps : List PlacedUnit) (r : UnitRecord) (p : PlacedUnit)
    → Stay old new → AllZip (IsRecordOfUnit old) rs ps → IsRecordOfUnit new r p
    → AllZip (IsRecordOfUnit new) (rs ++ r ∷ []) (ps ++ p ∷ [])
AllKept-push old new [] [] r p stay k one = (one, tt)
AllKept-push old new [] (q ∷ ps) r p stay k one = absurd k
AllKept-push old new (s ∷ rs) [] r p stay k one = absurd k
AllKept-push old new (s ∷ rs) (q ∷ ps) r p stay k one =
    (IsRecordOfUnit-more old new s q stay k.0, AllKept-push old new rs ps r p stay k.1 one)

abbrev placed_at : ℕ → ℕ → DebugUnit → PlacedUnit
placed_at at first u = record { at = at; first = first; unit = u }

placed_from-append : (at first : ℕ) (us vs : List DebugUnit) → placed_from at first (us ++ vs)
    ≡ placed_from at first us ++ placed_from (at + length (units_bytes us)) (first + units_count us) vs
placed_from-append at first [] vs = search (rules, add-zero)
placed_from-append at first (u ∷ us) vs =
    search (
      rules,
      length-append,
      (placed_from-append (at + length (unit_bytes u)) (first + node_count u.root) us vs),
    )

pub upto_start : (a info : List ℕ) (base : ℕ) (kept : Kept) → AreTablesOf a kept.tables → kept.units.items ≡ []
    → kept.records.items ≡ [] → Upto a info base base kept
upto_start a info base kept tables us e = search (rules, add-zero)

-- and one more
from_more : (at : ℕ) (us : List DebugUnit) (u : DebugUnit) → AreFrom at us → u.at ≡ at + length (units_bytes us)
    → AreFrom at (us ++ u ∷ [])
from_more at [] u from is = search (rules)
from_more at (v ∷ us) u (here, from) is = (
  here,
  from_more (at + length (unit_bytes v)) us u from (omega (arith, length-append (unit_bytes v) (units_bytes us))),
)

pub upto_next : (a info : List ℕ) (base header : ℕ) (old new : Kept) (len : ℕ) → Upto a info base header old
    → UnitTaken a (drop header info) header old new len → Upto a info base (header + len) new
upto_next a info base header old new len u t =
    let records : List Record = old.records.items in
    let unit : ℕ = length old.units.items in
    let v : DebugUnit = t.taken in
    let size : ℕ = unit_header_size v.header.kind in
    let tables : Tables = tables_in new.tables in
    let before : ℕ → ℕ → ℕ = numbers_of (tables_in old.tables) old.units.items in
    let numbers : ℕ → ℕ → ℕ = numbers_of tables (old.units.items ++ t.record_is ∷ []) in
    let left : drop (header + len) info
    ≡ t.after = search (rules, drop-drop, (drop_at (unit_bytes v) t.after len)) in
    let same : records ≡ records_from numbers 0 0 base u.units =
    u.places ∙ records_same before numbers 0 0 base u.units
    (λ n less. numbers_stay (tables_in old.tables) tables old.units.items (placed_from base 0 u.units) t.record_is n
    t.stay
    u.unit_records (omega arith)) in
    let n : unit ≡ 0 + length u.units = omega arith in
    let es : List Entry = entries_from 0 0 base u.units in
    let id : length records ≡ 0 + units_count u.units =
    omega (arith, ap length u.places, length-map es (record_of before), length-entries_from 0 0 base u.units) in
    let at : header ≡ base + length (units_bytes u.units) = u.at in
    let own : List Entry = node_entries unit None 0 None (length records) (header + size) v.root in
    let more : es ++ own ≡ entries_from 0 0 base (u.units ++ v ∷ []) =
    search (rules, append-nil, entries_from-append) in
    record {
      units = u.units ++ v ∷ [];
      are = search (rules, all-append);
      are_from = search (rules, from_more);
      parts = search (rules, append_assoc, units_bytes-push);
      at =
          omega (arith, ap length (units_bytes-push u.units v), length-append (units_bytes u.units) (unit_bytes v));
      count =
          omega (
            arith,
            ap length t.units,
            length-append old.units.items (t.record_is ∷ []),
            length-append u.units (v ∷ []),
          );
      unit_records = rw (t.units, placed_from-append base 0 u.units (v ∷ []), ← at, ← id)
          (AllKept-push (tables_in old.tables) tables old.units.items (placed_from base 0 u.units) t.record_is
          (placed_at header (length records) v) t.stay u.unit_records t.kept);
      tables = t.tables;
      places = rw t.units (t.records
          ∙ (λ i. same i ++ kept_in (λ _. decl_number_in (chain_in tables t.record_is.table)) numbers unit own
          (numbers_last tables old.units.items t.record_is unit refl)
          (node_unit unit None 0 None (length records) (header + size) v.root) i)
          ∙ sym (map-append (record_of numbers) es own) ∙ ap (map (record_of numbers)) more);
    }

pub few_units : (a : List ℕ) (us : List DebugUnit) → AreUnits a us → length us ≤ length (units_bytes us)
few_units a [] are = omega arith
few_units a (u ∷ us) are = search (rules, length-append, unit_some, (few_units a us are.1))

pub upto_few_entries : (a info : List ℕ) (base header : ℕ) (kept : Kept) → Upto a info base header kept
    → length kept.records.items ≤ header
upto_few_entries a info base header kept u = search (rules, few_entries)

-- units that begin at an offset are placed from there on
placed_there : (base : ℕ) (us : List DebugUnit) → AreFrom base us → placed us ≡ placed_from base 0 us
placed_there base [] from = refl
placed_there base (u ∷ us) from = search (rules)

records_there : (numbers : ℕ → ℕ → ℕ) (base : ℕ) (us : List DebugUnit) → AreFrom base us
    → records_from numbers 0 0 (start_of us) us ≡ records_from numbers 0 0 base us
records_there numbers base [] from = refl
records_there numbers base (u ∷ us) from = ap (λ (n : ℕ). records_from numbers 0 0 n (u ∷ us)) from.0

pub upto_end : (a info : List ℕ) (base header : ℕ) (kept : Kept) → Upto a info base header kept
    → length info ≤ header → Scanned base a info (tables_in kept.tables) kept.units.items kept.records.items
upto_end a info base header kept u e =
    let whole : drop base info ≡ units_bytes u.units = search (rules, drop_of_length-le, append-nil) in
    let numbers : ℕ → ℕ → ℕ = numbers_of (tables_in kept.tables) kept.units.items in (
      u.units,
      record {
        spells = record { are = u.are; parts = whole };
        are_from = u.are_from;
        kept = search (rules, placed_there);
        entries = search (rules, records_there);
      },
    )

-- the rest of a slice
pub rest_of : (n : ℕ) (s : List ℕ) → n ≤ length s → take (length s - n) (drop n s) ≡ drop n s
rest_of n s le = search (rules, take_all, length-drop)

-- ---- the same by the bytes that are left

pub record UptoRest (a info : List ℕ) (base : ℕ) (rest : List ℕ) (kept : Kept) : Type 0 where
  pub upto : Upto a info base (length info - length rest) kept
  pub rest_is : rest ≡ drop (length info - length rest) info
  pub long : length rest ≤ length info

pub rest_start : (a info : List ℕ) (base : ℕ) (kept : Kept) → base ≤ length info → Upto a info base base kept
    → UptoRest a info base (take (length info - base) (drop base info)) kept
rest_start a info base kept low u = search (rules, rest_of, length-drop)

-- a unit that was taken is within the rest, and has a byte
pub taken_within : (a rest : List ℕ) (at : ℕ) (old new : Kept) (len : ℕ) → UnitTaken a rest at old new len
    → (len ≤ length rest) × (0 < len)
taken_within a rest at old new len t = search (rules, length-append, unit_some)

pub rest_next : (a info : List ℕ) (base : ℕ) (rest : List ℕ) (old new : Kept) (len : ℕ)
    → UptoRest a info base rest old → UnitTaken a rest (length info - length rest) old new len
    → UptoRest a info base (take (length rest - len) (drop len rest)) new
rest_next a info base rest old new len u t =
    let header : ℕ = length info - length rest in
    let after : List ℕ = take (length rest - len) (drop len rest) in
    let within = (taken_within a rest header old new len t).0 in
    let cut : after ≡ drop len rest = rest_of len rest within in
    let at : header + len ≡ length info - length after =
    omega (arith, ap length cut, length-drop len rest) in
    record {
      upto = search (rules, upto_next);
      rest_is = search (rules, drop-drop);
      long = search (rules, cut, length-drop);
    }

pub rest_fewer : (a rest : List ℕ) (at : ℕ) (old new : Kept) (len : ℕ) → UnitTaken a rest at old new len
    → length (take (length rest - len) (drop len rest)) < length rest
rest_fewer a rest at old new len t =
    let (within, some) = taken_within a rest at old new len t in search (rules, rest_of, length-drop)

pub rest_end : (a info : List ℕ) (base : ℕ) (rest : List ℕ) (kept : Kept) → UptoRest a info base rest kept
    → length rest ≡ 0 → Scanned base a info (tables_in kept.tables) kept.units.items kept.records.items
rest_end a info base rest kept u none =
    upto_end a info base (length info - length rest) kept u.upto (omega arith)

pub none_broken : (P : PlainFault → Type 0) (e : Stop PlainFault) (b : PlainFault) → e ≡ Breaks b → IfFault P e → P b
none_broken P Memory b e p = absurd cc
none_broken P (Breaks a) b e p = search (rules)

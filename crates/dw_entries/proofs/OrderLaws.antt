-- The entries stand in rising offset.
use Rattle.std.proofs.Common.{rules, ℕ, suc, ◌+◌, ◌≤◌, List, [], ◌∷◌, ◌++◌, length, map, Option, Some, None, arith, length-append, length-drop}
use Rattle.std.proofs.lemmas.List.{map-append}
use Rattle.dw_entries.specs.Scanned.{Tables, UnitRecord, Record, record_of, Scanned}
use Rattle.dw_entries.specs.Header.{unit_header_size}
use Rattle.dw_entries.specs.UnitLaws.{unit_sized, nulls_bytes, DebugUnit, context_of, unit_bytes, AreUnits, units_bytes}
use Rattle.dw_entries.specs.Tree.{Node, Nodes, leaf, parent, none, ◌then◌, IsNode, AreNodes, node_bytes, nodes_bytes, Context, head_bytes}
use Rattle.dw_entries.specs.Entries.{Entry, node_count, first_id, node_entries, nodes_entries, entries_from}
use Rattle.dw_entries.specs.Records.{records_from}
use Rattle.dw_entries.specs.Items.{entry}
use Rattle.dw_entries.specs.ItemLaws.{item_some}

-- the offsets rise, from low on and below high
abbrev pub Rises : ℕ → ℕ → List Record → Type 0
Rises low high [] = low ≤ high
Rises low high (r ∷ rs) = (low ≤ r.at) × Rises (suc r.at) high rs

Rises-append : (low middle after high : ℕ) (rs qs : List Record) → middle ≤ after → Rises low middle rs
    → Rises after high qs → Rises low high (rs ++ qs)
Rises-append low middle after high [] [] le p q = omega arith
Rises-append low middle after high [] (r ∷ qs) le p q = search (rules)
Rises-append low middle after high (r ∷ rs) qs le p q = (p.0, Rises-append (suc r.at) middle after high rs qs le p.1 q)

Rises-within : (to low high end : ℕ) (rs : List Record) → to ≤ low → high ≤ end → Rises low high rs → Rises to end rs
Rises-within to low high end [] from up p = omega arith
Rises-within to low high end (r ∷ rs) from up p =
    search (rules, (Rises-within (suc r.at) (suc r.at) high end rs (omega arith) up p.1))

module _ (numbers : ℕ → ℕ → ℕ) where
  mutual
    node_rises : (t : Context) (unit : ℕ) (above : Option ℕ) (depth : ℕ) (next : Option ℕ) (id at : ℕ) (n : Node)
        → IsNode t n
        → Rises at (at + length (node_bytes n)) (map (record_of numbers) (node_entries unit above depth next id at n))
    node_rises t unit above depth next id at (leaf h) p =
        let some = item_some t (entry h) p.0 in (omega arith, omega arith)
    node_rises t unit above depth next id at (parent h ns z) p =
        let some = item_some t (entry h) p.0 in (
          omega arith,
          Rises-within (suc at) (at + length (head_bytes h)) _ _ _ (omega arith)
              (omega (arith, length-append (head_bytes h) (nodes_bytes ns ++ z), length-append (nodes_bytes ns) z))
              (nodes_rise t unit id (suc depth) (suc id) (at + length (head_bytes h)) ns p.2),
        )

    nodes_rise : (t : Context) (unit above depth id at : ℕ) (ns : Nodes) → AreNodes t ns
        → Rises at (at + length (nodes_bytes ns)) (map (record_of numbers) (nodes_entries unit above depth id at ns))
    nodes_rise t unit above depth id at none p = omega arith
    nodes_rise t unit above depth id at (n then ns) p =
        let es : List Entry = node_entries unit (Some above) depth (first_id ns (id + node_count n)) id at n in
        let fs : List Entry = nodes_entries unit above depth (id + node_count n) (at + length (node_bytes n)) ns in
        rw (map-append (record_of numbers) es fs) (Rises-within at at _ _ _ (omega arith)
        (omega (arith, length-append (node_bytes n) (nodes_bytes ns)))
        (Rises-append at _ _ _ _ _ (omega arith)
        (node_rises t unit (Some above) depth (first_id ns (id + node_count n)) id at n p.0)
        (nodes_rise t unit above depth (id + node_count n) (at + length (node_bytes n)) ns p.1)))

pub units_rise : (a : List ℕ) (numbers : ℕ → ℕ → ℕ) (unit id at : ℕ) (us : List DebugUnit) → AreUnits a us
    → Rises at (at + length (units_bytes us)) (records_from numbers unit id at us)
units_rise a numbers unit id at [] p = omega arith
units_rise a numbers unit id at (u ∷ us) p =
    let start : ℕ = at + unit_header_size u.header.kind in
    let long = (unit_sized a u p.0).header in
    let es : List Entry = node_entries unit None 0 None id start u.root in
    let fs : List Entry = entries_from (suc unit) (id + node_count u.root) (at + length (unit_bytes u)) us in
    rw (map-append (record_of numbers) es fs) (Rises-within at start _ _ _ (omega arith)
    (omega (arith, length-append (unit_bytes u) (units_bytes us)))
    (Rises-append start _ _ _ _ _ (omega (arith, length-append (node_bytes u.root) (nulls_bytes u.nulls)))
    (node_rises numbers (context_of u) unit None 0 None id start u.root p.0.root)
    (units_rise a numbers (suc unit) (id + node_count u.root) (at + length (unit_bytes u)) us p.1)))

Rises-few : (low high : ℕ) (rs : List Record) → Rises low high rs → low + length rs ≤ high
Rises-few low high [] p = omega arith
Rises-few low high (r ∷ rs) p = search (rules, (Rises-few (suc r.at) high rs p.1))

-- each entry takes a byte at least
pub few_entries : (a : List ℕ) (numbers : ℕ → ℕ → ℕ) (at : ℕ) (us : List DebugUnit) → AreUnits a us
    → length (records_from numbers 0 0 at us) ≤ length (units_bytes us)
few_entries a numbers at us p =
    let few = Rises-few at (at + length (units_bytes us)) _ (units_rise a numbers 0 0 at us p) in omega arith

pub scanned_few : {base : ℕ} (a info : List ℕ) (tables : Tables) (us : List UnitRecord) (records : List Record)
    → Scanned base a info tables us records → length records ≤ length info
scanned_few {base} a info tables us records e =
    search (rules, length-drop, few_entries)

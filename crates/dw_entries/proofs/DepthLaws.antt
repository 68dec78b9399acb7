-- How deep an entry is: one deeper than its parent, which is an earlier entry.
use Rattle.std.proofs.Common.{rules, ◌≡◌, ℕ, zero, suc, ◌+◌, ◌-◌, ◌<◌, ◌≤◌, List, [], ◌∷◌, ◌++◌, length, get_or, Option, Some, None, refl, sym, ◌∙◌, inl, inr, arith, ◌⊎◌, slice_get}
use Rattle.std.proofs.lemmas.Bool.{cases_lt}
use Rattle.std.proofs.lemmas.Option.{slice_get_within, slice_get-get_or}
use Rattle.dw_entries.specs.Tree.{Node, Nodes, leaf, parent, none, ◌then◌, node_bytes, head_bytes}
use Rattle.dw_entries.specs.Entries.{Entry, node_count, first_id, node_entries, nodes_entries, entries_from, entries_of, start_of, DebugUnit, unit_bytes}
use Rattle.dw_entries.specs.ByNumber.{entry_of}
use Rattle.dw_entries.proofs.EntryFacts.{length-node_entries, kept_get, unit_header_size}
use Rattle.dw_entries.proofs.FindLaws.{entries_counted}
use Rattle.dw_entries.proofs.UnitRanges.{get_front, get_behind, found_entry, kept_entry, one_some, Tables, UnitRecord, Record, found_units, Scanned}

-- one of these entries, numbered from id, is the parent, and is one less deep
pub record HasParent (es : List Entry) (id k : ℕ) (e : Entry) : Type 0 where
  pub place : ℕ
  pub above : Entry
  pub before : place < k
  pub is_above : slice_get es place ≡ Some above
  pub parent : e.parent ≡ Some (id + place)
  pub depth : e.depth ≡ suc above.depth

-- or its parent and its depth are those that all of them have
IsBelow : List Entry → ℕ → Option ℕ → ℕ → ℕ → Entry → Type 0
IsBelow es id above depth k e = ((e.parent ≡ above) × (e.depth ≡ depth)) ⊎ HasParent es id k e

-- the same of all of these entries
AllBelow : ℕ → Option ℕ → ℕ → List Entry → Type 0
AllBelow id above depth es = (k : ℕ) (e : Entry) → slice_get es k ≡ Some e → IsBelow es id above depth k e

-- the same where there are more entries before and after
in_front : (es fs : List Entry) (id : ℕ) (above : Option ℕ) (depth k : ℕ) (e : Entry) → k < length es
    → IsBelow es id above depth k e → IsBelow (es ++ fs) id above depth k e
unfolding IsBelow
in_front es fs id above depth k e lt (inl outer) = inl outer
in_front es fs id above depth k e lt (inr h) = search (rules, get_front)

in_back : (es fs : List Entry) (id first : ℕ) (above : Option ℕ) (depth k : ℕ) (e : Entry) → first ≡ id + length es
    → length es ≤ k → IsBelow fs first above depth (k - length es) e → IsBelow (es ++ fs) id above depth k e
unfolding IsBelow
in_back es fs id first above depth k e starts le (inl outer) = inl outer
in_back es fs id first above depth k e starts le (inr h) =
    let before = h.before in
    let place : (length es + h.place) - length es ≡ h.place = omega arith in
    let number : first + h.place ≡ id + (length es + h.place) = omega (arith, starts) in
    inr (record {
      place = length es + h.place;
      above = h.above;
      before = omega arith;
      is_above = search (rules, get_behind);
      parent = search rules;
      depth = h.depth;
    })

below-append : (es fs : List Entry) (id first : ℕ) (above : Option ℕ) (depth : ℕ) → first ≡ id + length es
    → AllBelow id above depth es → AllBelow first above depth fs → AllBelow id above depth (es ++ fs)
unfolding AllBelow
below-append es fs id first above depth starts p q k e is = elim (cases_lt k (length es)) [
  | inl lt ↦ in_front es fs id above depth k e lt (p k e (sym (get_front es fs k lt) ∙ is))
  | inr le ↦
      in_back es fs id first above depth k e starts le (q (k - length es) e (sym (get_behind es fs k le) ∙ is))
]

mutual
  unfolding IsBelow AllBelow

  node_below : (unit : ℕ) (above : Option ℕ) (depth : ℕ) (next : Option ℕ) (id at : ℕ) (n : Node)
      → AllBelow id above depth (node_entries unit above depth next id at n)
  node_below unit above depth next id at (leaf h) zero e is = inl (search rules)
  node_below unit above depth next id at (leaf h) (suc k) e is = absurd cc
  node_below unit above depth next id at (parent h ns z) zero e is = inl (search rules)
  node_below unit above depth next id at (parent h ns z) (suc k) e is =
      go (nodes_below unit id (suc depth) (suc id) (at + length (head_bytes h)) ns k e is)
    where
      go : IsBelow (nodes_entries unit id (suc depth) (suc id) (at + length (head_bytes h)) ns) (suc id) (Some id)
          (suc depth) k e
          → IsBelow (node_entries unit above depth next id at (parent h ns z)) id above depth (suc k) e
      go (inl outer) =
          inr (record {
            place = 0;
            above = _;
            before = omega arith;
            is_above = refl;
            parent = search rules;
            depth = outer.1;
          })
      go (inr h) =
          let before = h.before in
          inr (record {
            place = suc h.place;
            above = h.above;
            before = omega arith;
            is_above = h.is_above;
            parent = search rules;
            depth = h.depth;
          })

  nodes_below : (unit above depth id at : ℕ) (ns : Nodes)
      → AllBelow id (Some above) depth (nodes_entries unit above depth id at ns)
  nodes_below unit above depth id at none k e is = absurd cc
  nodes_below unit above depth id at (n then ns) k e is =
      below-append _ _ id (id + node_count n) (Some above) depth
      (omega (
        arith,
        length-node_entries unit (Some above) depth (first_id ns (id + node_count n)) id at n,
      ))
      (node_below unit (Some above) depth (first_id ns (id + node_count n)) id at n)
      (nodes_below unit above depth (id + node_count n) (at + length (node_bytes n)) ns) k e is

units_below : (unit id at : ℕ) (us : List DebugUnit) → AllBelow id None 0 (entries_from unit id at us)
unfolding AllBelow
units_below unit id at [] k e is = absurd cc
units_below unit id at (u ∷ us) k e is =
    let start : ℕ = at + unit_header_size u.header.kind in
    below-append _ _ id (id + node_count u.root) None 0
    (omega (arith, length-node_entries unit None 0 None id start u.root))
    (node_below unit None 0 None id start u.root)
    (units_below (suc unit) (id + node_count u.root) (at + length (unit_bytes u)) us) k e is

-- an entry without a parent is not deep
pub no_depth : (us : List DebugUnit) (k : ℕ) (e : Entry) → slice_get (entries_of us) k ≡ Some e → e.parent ≡ None
    → e.depth ≡ 0
unfolding IsBelow AllBelow
no_depth us k e is top = go (units_below 0 0 (start_of us) us k e is)
  where
    go : IsBelow (entries_of us) 0 None 0 k e → e.depth ≡ 0
    go (inl outer) = outer.1
    go (inr h) = absurd (search rules)

-- an entry with a parent is one deeper than that
pub one_deeper : (us : List DebugUnit) (k p : ℕ) (e : Entry) → slice_get (entries_of us) k ≡ Some e → e.parent ≡ Some p
    → (above : Entry) × (slice_get (entries_of us) p ≡ Some above) × (e.depth ≡ suc above.depth) × (p < k)
unfolding IsBelow AllBelow
one_deeper us k p e is under = go (units_below 0 0 (start_of us) us k e is)
  where
    go : IsBelow (entries_of us) 0 None 0 k e
        → (above : Entry) × (slice_get (entries_of us) p ≡ Some above) × (e.depth ≡ suc above.depth) × (p < k)
    go (inl outer) = absurd (search rules)
    go (inr h) =
        let both : Some (0 + h.place) ≡ Some p = sym h.parent ∙ under in
        let same : 0 + h.place ≡ p = cc in
        let place : h.place ≡ p = omega arith in
        search (rules, h)

-- ---- steps up from an entry

-- so many steps above an entry is one with this parent
pub record Climbs (es : List Entry) (id depth : ℕ) (above : Option ℕ) : Type 0 where
  pub place : ℕ
  pub here : Entry
  pub is_here : slice_get es place ≡ Some here
  pub parent : here.parent ≡ above
  pub sum : here.depth + depth ≡ (entry_of es id).depth
  pub fewer : place + depth ≤ id

-- how many entries may be above, by the number of the next
abbrev pub height : Option ℕ → ℕ
height None = 0
height (Some p) = suc p

module _ {base : ℕ} {a info : List ℕ} {tables : Tables} {rs : List UnitRecord} {records : List Record}
    (s : Scanned base a info tables rs records) where
  -- the record of an entry has its parent
  parent_kept : (id : ℕ) (r : Record) (e : Entry) → slice_get records id ≡ Some r
      → slice_get (entries_of (found_units s)) id ≡ Some e → r.parent ≡ e.parent
  parent_kept id r e read is = search (rules, kept_get, one_some)

  pub starts : (id : ℕ) (r : Record) → id < length (entries_of (found_units s)) → slice_get records id ≡ Some r
      → Climbs (entries_of (found_units s)) id 0 r.parent
  starts id r within read =
      let k = kept_entry s id within in search (rules, parent_kept)

  module _ (id depth p : ℕ) (c : Climbs (entries_of (found_units s)) id depth (Some p)) where
    pub above_within : p < length records
    above_within =
        let (above, is, deeper, less) = one_deeper (found_units s) c.place p c.here c.is_here c.parent in
        omega (
          arith,
          slice_get_within (entries_of (found_units s)) p above is,
          entries_counted a info tables rs records s,
        )

    pub depth_less : depth < id
    depth_less = search (rules, one_deeper)

    module _ (r : Record) (read : r ≡ get_or records p r) where
      stands : slice_get records p ≡ Some r
      stands = search (rules, slice_get-get_or, above_within)

      pub climbs : Climbs (entries_of (found_units s)) id (depth + 1) r.parent
      climbs =
          let (above, is, deeper, less) = one_deeper (found_units s) c.place p c.here c.is_here c.parent in
          search (rules, parent_kept, stands)

      pub lower : height r.parent < suc p
      lower = go r.parent refl
        where
          go : (o : Option ℕ) → r.parent ≡ o → height o < suc p
          go None at = omega arith
          go (Some q) at =
              let (above, is, deeper, less) = one_deeper (found_units s) c.place p c.here c.is_here c.parent in
              let (more, there, far, before) = one_deeper (found_units s) p q above is
              (sym (parent_kept p r above stands is) ∙ at) in
              omega arith

  pub is_deep : (id depth : ℕ) → Climbs (entries_of (found_units s)) id depth None
      → depth ≡ (found_entry s id).depth
  is_deep id depth c = search (rules, no_depth)

-- How far the pass over a unit's body has come.
use Rattle.std.proofs.Common.{rules, ◌≡◌, ◌≢◌, ℕ, suc, ◌+◌, ◌-◌, ◌<◌, ◌≤◌, Bool, map, true, false, cond, List, [], ◌∷◌, ◌++◌, length, Some, Ok, Err, refl, sym, ap, ◌∙◌, append_assoc, append-nil, arith, length-append, eqb, subst}
use Rattle.std.proofs.lemmas.List.{length-reverse}
use Rattle.dw_entries.specs.Header.{HeaderKind, fits_tag, unit_header_size}
use Rattle.dw_entries.specs.Grammar.{Declaration, Context, Head, head_bytes, IsHead, declared}
use Rattle.dw_entries.specs.Items.{IsItem, Item, entry, null, AreItems, entry_decl, item_bytes, items_bytes, node_items, depth_along, root_depth, tree_depth}
use Rattle.dw_forms.specs.Formats.{mapped, choose, failing}
use Rattle.dw_entries.specs.ItemFormats.{Failing, item, first_head, failing_by, head_by, fitting_head, code}
use Rattle.dw_entries.specs.Units.{nulls_bytes, head_of}
use Rattle.dw_entries.specs.Faults.{Front, in_unit, BodyFails, PlainFault}
use Rattle.dw_entries.specs.Walk.{Level, Walk, walk_of, open_list, enter, leave, step, walk_along, Record}
use Rattle.dw_entries.specs.Stopped.{TreeOf}
use Rattle.dw_entries.specs.Records.{tree_records}
use Rattle.dw_entries.specs.ItemLaws.{item_some, item_from, head_from}
use Rattle.dw_forms.specs.WithBytes.{read_fails, read_takes}
use Rattle.dw_entries.proofs.ItemLaws.{items_bytes-append, node_of, node_spelled, nulls_spelled, depth_along-append, all-append, Node, node_bytes, leaf, parent}
use Rattle.dw_entries.proofs.WalkLaws.{length-link_last, along_root}
use Rattle.dw_forms.specs.Leb.{Uleb}
use Rattle.dw_forms.specs.declared.rule.Rule.TheVariants.{NoUnitEntry}

-- ---- what is read

-- an item that is read is spelled so, whatever is kept of it
pub item_takes : {B : Type 0} (f : Item → B) (x : Context) (bytes : List ℕ) (y : B) (rest : List ℕ)
    → (mapped f (item x)).read bytes ≡ Ok (y, rest)
    → (i : Item) × (y ≡ f i) × (bytes ≡ item_bytes i ++ rest) × IsItem x i
item_takes f x bytes y rest e = search (rules, read_takes, item_from)

-- a first entry that is read is spelled so, and fits
pub first_takes : {B : Type 0} (f : Head → B) (x : Context) (kind : HeaderKind) (bytes : List ℕ) (y : B) (rest : List ℕ)
    → (mapped f (first_head x kind)).read bytes ≡ Ok (y, rest)
    → (h : Head) × (y ≡ f h) × (bytes ≡ head_bytes h ++ rest) × IsHead x h × (fits_tag kind h.decl.tag ≡ true)
unfolding first_head fitting_head code
first_takes f x kind bytes y rest e =
    let t = read_takes (mapped f (first_head x kind)) bytes y rest e in
    let (h, s, is) = t.spelled in
    let number = subst (λ (b : List ℕ). Uleb b s.value.0) s.is_first.1 s.is_first.0 in
    let from = go s.value.0 s.value.1 s.second h (eqb s.value.0 0) number refl s.is_second in (
      h,
      is,
      t.parts ∙ ap (λ (b : List ℕ). b ++ rest) (s.parts ∙ ap (λ (b : List ℕ). b ++ s.second) s.is_first.1 ∙ from.0),
      from.1,
      from.2,
    )
  where
    go : (n : ℕ) (spelling text : List ℕ) (h : Head) (b : Bool) → Uleb spelling n → eqb n 0 ≡ b
        → (choose b (failing (failing_by NoUnitEntry 0))
        (head_by x (fits_tag kind) (declared x n) spelling)).Spells text h
        → (spelling ++ text ≡ head_bytes h) × IsHead x h × (fits_tag kind h.decl.tag ≡ true)
    go n spelling text h true number zero s = absurd s
    go n spelling text h false number other s =
        head_from x (fits_tag kind) n (declared x n) spelling text h number other refl s

-- ---- how far the pass has come

-- some items of a tree were taken, and this is what is left and what was made of them
pub record Along (t : Context) (numbers : ℕ → ℕ) (kind : HeaderKind) (at : ℕ) (body : List ℕ) (old : List Record)
    (rest : List ℕ) (w : Walk) : Type 0 where
  pub first : Head
  pub others : List Item
  pub front : Front t kind body (entry first ∷ others) rest (length w.levels)
  pub walked : walk_along numbers at (entry first ∷ others) (record { records = old; levels = [] }) ≡ w

length-open_list : (b : Bool) (id : ℕ) (ls : List Level)
    → length (open_list b id ls) ≡ cond b (suc (length ls)) (length ls)
length-open_list true id ls = refl
length-open_list false id ls = refl

-- after the first entry
pub first_turn : (t : Context) (numbers : ℕ → ℕ) (kind : HeaderKind) (at : ℕ) (body : List ℕ) (old : List Record)
    (d : ℕ × Declaration) (rest : List ℕ) (w : Walk)
    → (mapped (entry_decl numbers) (first_head t kind)).read body ≡ Ok (d, rest)
    → w ≡ enter at d old [] → Along t numbers kind at body old rest w
first_turn t numbers kind at body old d rest w read e = search (rules, first_takes, length-open_list, append-nil)

-- a step changes the depth as its item does
step_depth : (numbers : ℕ → ℕ) (at : ℕ) (i : Item) (rs : List Record) (ls : List Level) → ls ≢ []
    → depth_along (length ls) (i ∷ []) ≡ Some (length (step numbers at i (record { records = rs; levels = ls })).levels)
step_depth numbers at i rs [] more = absurd (more refl)
step_depth numbers at (null z) rs (l ∷ ls) more = refl
step_depth numbers at (entry h) rs (l ∷ ls) more = search (rules, length-open_list)

walk_along-append : (numbers : ℕ → ℕ) (at : ℕ) (is js : List Item) (w : Walk)
    → walk_along numbers at (is ++ js) w
    ≡ walk_along numbers (at + length (items_bytes is)) js (walk_along numbers at is w)
walk_along-append numbers at [] js w = search (rules)
walk_along-append numbers at (i ∷ is) js w =
    search (rules, length-append, (walk_along-append numbers (at + length (item_bytes i)) is js (step numbers at i w)))

-- how many bytes the items so far took
taken : {t : Context} {numbers : ℕ → ℕ} {kind : HeaderKind} {at : ℕ} {body : List ℕ} {old : List Record}
    {rest : List ℕ} {w : Walk} (a : Along t numbers kind at body old rest w)
    → length (items_bytes (entry a.first ∷ a.others)) ≡ length body - length rest
taken a = search (rules, length-append)

-- after one more item
pub along_next : (t : Context) (numbers : ℕ → ℕ) (kind : HeaderKind) (at : ℕ) (body : List ℕ) (old : List Record)
    (rest : List ℕ) (records : List Record) (outer : List Level) (own : Level) (v : Walk) (after : List ℕ)
    → Along t numbers kind at body old rest (walk_of records outer (Some own))
    → (mapped (λ i. step numbers (at + length body - length rest) i (walk_of records outer (Some own)))
    (item t)).read rest ≡ Ok (v, after) → Along t numbers kind at body old after v
along_next t numbers kind at body old rest records outer own v after a read =
    let w : Walk = walk_of records outer (Some own) in
    let more : w.levels ≢ [] = λ e. absurd cc in
    let (i, is_step, parts, is_item) = item_takes (λ i. step numbers (at + length body - length rest) i w) t rest v
    after read in
    let e = sym is_step in
    let is : List Item = entry a.first ∷ a.others in
    let o : at + length (items_bytes is)
    ≡ at + length body - length rest = omega (arith, ap length a.front.parts, length-append (items_bytes is) rest) in
    let spelled : body ≡ items_bytes (is ++ i ∷ []) ++ after =
    search (rules, append-nil, append_assoc, items_bytes-append) in
    let deep : tree_depth (is ++ i ∷ []) ≡ Some (length v.levels) =
    depth_along-append (root_depth a.first) (length w.levels) a.others (i ∷ []) a.front.at_depth
    ∙ step_depth numbers (at + length body - length rest) i w.records w.levels more
    ∙ ap (λ (x : Walk). Some (length x.levels)) e in
    record {
      first = a.first;
      others = a.others ++ i ∷ [];
      front =
          record {
            are = search (rules, all-append);
            fits = a.front.fits;
            at_depth = deep;
            parts = spelled;
          };
      walked =
          walk_along-append numbers at is (i ∷ []) (record { records = old; levels = [] })
          ∙ ap (λ (k : ℕ). step numbers k i (walk_along numbers at is (record { records = old; levels = [] }))) o
          ∙ ap (step numbers (at + length body - length rest) i) a.walked ∙ e;
    }

head_is : (n : Node) (zs : List (List ℕ)) (h : Head) (is : List Item) → node_items n ++ map null zs ≡ entry h ∷ is
    → head_of n ≡ h
head_is (leaf k) zs h is e = search (rules)
head_is (parent k ns z) zs h is e = search (rules)

abbrev walk : List Record → List Level → Walk
walk rs ls = record { records = rs; levels = ls }

along_nulls : (numbers : ℕ → ℕ) (at : ℕ) (zs : List (List ℕ)) (rs : List Record)
    → walk_along numbers at (map null zs) (record { records = rs; levels = [] }) ≡ record { records = rs; levels = [] }
along_nulls numbers at [] rs = refl
along_nulls numbers at (z ∷ zs) rs = along_nulls numbers (at + length z) zs rs

-- at the end of the tree and its nulls
pub along_end : {t : Context} {numbers : ℕ → ℕ} {kind : HeaderKind} {at : ℕ} {body : List ℕ} {old : List Record}
    {rest : List ℕ} {w : Walk} → Along t numbers kind at body old rest w → w.levels ≡ []
    → TreeOf t numbers kind body rest at old w.records
along_end {t} {numbers} {at = at} {old = old} a e =
    let deep : tree_depth (entry a.first ∷ a.others)
    ≡ Some 0 = search rules in
    let (n, zs, is, nulls, items) = node_of t a.first a.others a.front.are.0 a.front.are.1 deep in
    let start : Walk = record { records = old; levels = [] } in
    let spelled : items_bytes (node_items n ++ map null zs)
    ≡ node_bytes n ++ nulls_bytes zs = search (rules, items_bytes-append, node_spelled, nulls_spelled) in
    let end : (unit : ℕ) → walk_along numbers at (node_items n ++ map null zs) start
    ≡ record { records = old ++ tree_records numbers unit (length old) at n; levels = [] } =
    λ unit. search (rules, walk_along-append, along_root, along_nulls) in
    record {
      root = n;
      is = is;
      tag = search (rules, head_is);
      nulls = zs;
      are_nulls = nulls;
      parts = search rules;
      records = λ unit. let made = end unit in search rules;
    }

pub first_fault : (t : Context) (numbers : ℕ → ℕ) (kind : HeaderKind) (header start : ℕ) (body : List ℕ) (f : Failing)
    (fault : PlainFault) → start ≡ header + unit_header_size kind
    → (mapped (entry_decl numbers) (first_head t kind)).read body ≡ Err f → fault ≡ in_unit f header start
    → BodyFails t kind header body fault
first_fault t numbers kind header start body f fault s read e = record {
  items = [];
  rest = body;
  depth = 1;
  failing = f;
  front = record { are = tt; fits = tt; at_depth = refl; parts = refl };
  stops = search (rules, read_fails);
  is = search rules;
}

pub turn_fault : {t : Context} {numbers : ℕ → ℕ} {kind : HeaderKind} {start : ℕ} {body : List ℕ} {old : List Record}
    {rest : List ℕ} (header : ℕ) (records : List Record) (outer : List Level) (own : Level) (f : Failing)
    (fault : PlainFault) → start ≡ header + unit_header_size kind
    → Along t numbers kind start body old rest (walk_of records outer (Some own)) → (item t).Fails rest f
    → fault ≡ in_unit f header (start + length body - length rest) → BodyFails t kind header body fault
turn_fault header records outer own f fault s a stops e = search (rules, length-append)

pub turn_shorter : {B : Type 0} (f : Item → B) (t : Context) (rest : List ℕ) (y : B) (after : List ℕ)
    → (mapped f (item t)).read rest ≡ Ok (y, after) → length after < length rest
turn_shorter f t rest y after read = search (rules, item_takes, length-append, item_some)

-- ---- how much was made: one entry and one list for each item at most, and each item takes a byte

step_records : (numbers : ℕ → ℕ) (at : ℕ) (i : Item) (w : Walk)
    → length (step numbers at i w).records ≤ suc (length w.records)
step_records numbers at (null z) w = omega arith
step_records numbers at (entry h) w = search (rules, length-append, length-link_last)

open_list_few : (b : Bool) (id : ℕ) (ls : List Level) → length (open_list b id ls) ≤ suc (length ls)
open_list_few true id ls = omega arith
open_list_few false id ls = omega arith

leave_few : (ls : List Level) → length (leave ls) ≤ length ls
leave_few [] = omega arith
leave_few (l ∷ ls) = omega arith

step_levels : (numbers : ℕ → ℕ) (at : ℕ) (i : Item) (w : Walk)
    → length (step numbers at i w).levels ≤ suc (length w.levels)
step_levels numbers at (null z) w = search (rules, leave_few)
step_levels numbers at (entry h) w = search (rules, open_list_few)

walk_few : (t : Context) (numbers : ℕ → ℕ) (at : ℕ) (is : List Item) (w : Walk) → AreItems t is
    → (length (walk_along numbers at is w).records ≤ length w.records + length (items_bytes is))
    × (length (walk_along numbers at is w).levels ≤ length w.levels + length (items_bytes is))
walk_few t numbers at [] w p = search (rules)
walk_few t numbers at (i ∷ is) w p =
    search (
      rules,
      item_some,
      length-append,
      step_records,
      step_levels,
      (walk_few t numbers (at + length (item_bytes i)) is (step numbers at i w) p.1),
    )

pub along_few : {t : Context} {numbers : ℕ → ℕ} {kind : HeaderKind} {at : ℕ} {body : List ℕ} {old : List Record}
    {rest : List ℕ} (records : List Record) (outer : List Level) (own : Level)
    → Along t numbers kind at body old rest (walk_of records outer (Some own))
    → (length records ≤ length old + (length body - length rest)) × (length outer < length body - length rest)
along_few {t} {numbers} {at = at} {old = old} records outer own a =
    let is : List Item = entry a.first ∷ a.others in
    let bytes = taken a in
    let (r, l) = walk_few t numbers at is (walk old []) a.front.are in (
      omega (arith, ap (λ (w : Walk). length w.records) a.walked),
      omega (arith, ap (λ (w : Walk). length w.levels) a.walked, length-reverse outer),
    )

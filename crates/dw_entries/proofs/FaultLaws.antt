-- One list of units at most, one fault at most, and never both.
use Rattle.std.proofs.Common.{rules, ◌≡◌, ℕ, zero, suc, ◌+◌, true, map, List, [], ◌∷◌, ◌++◌, length, Option, Some, inl, inr, refl, sym, ap, ◌∙◌, append_assoc, append-nil, arith, length-append, ◌⊎◌, Ok, flat_map}
use Rattle.std.specs.List.{AllByRecursion}
use Rattle.dw_entries.specs.Grammar.{Context, Head, head_bytes, IsHead, attribute_bytes}
use Rattle.dw_entries.specs.Header.{HeaderKind, fits_tag, header_at}
use Rattle.dw_entries.specs.Items.{Item, entry, null, item_bytes, IsItem, AreItems, items_bytes, node_items, tree_depth}
use Rattle.dw_forms.specs.Formats.{one_fault as one_fault_of}
use Rattle.dw_entries.specs.ItemFormats.{Failing, next_item, first_head, fitting_head, code}
use Rattle.dw_forms.specs.WithBytes.{value_or_fault}
use Rattle.dw_entries.specs.Units.{DebugUnit, head_of, nulls_bytes, AreNulls, unit_bytes, IsUnit, units_bytes, Spells, AreUnits, body_bytes}
use Rattle.dw_entries.specs.Faults.{FitsUnit, Stops, BodyFails, FailsHere, Fails, PlainFault}
use Rattle.dw_entries.specs.Joined.{IsUnique}
use Rattle.dw_entries.specs.ItemLaws.{item_some, item_to, item_unique, head_to}
use Rattle.dw_entries.specs.UnitLaws.{IsBare, bare, bytes_bare, are_bare, unit_unique}
use Rattle.dw_entries.proofs.NullLaws.{fits_node}
use Rattle.dw_entries.proofs.ItemLaws.{items_bytes-append, node_spelled, node_are_items, nulls_are_items, nulls_spelled, whole_depth, nothing_after, all-append, Node, IsNode, node_bytes}
use Rattle.dw_entries.proofs.UnitSteps.{header_again}

-- ---- two fronts of the same bytes

module _ {A : Type 0} (bytes : A → List ℕ) (Is : A → Type 0) where
  -- the second list goes on where the first ends
  record GoesOn (is js : List A) (x y : List ℕ) : Type 0 where
    more : List A
    are : AllByRecursion Is more
    items : js ≡ is ++ more
    rest : x ≡ flat_map bytes more ++ y

  -- of two lists that spell beginnings of the same bytes one goes on where the other ends
  begins : IsUnique bytes Is → (is js : List A) (x y : List ℕ) → AllByRecursion Is is → AllByRecursion Is js
      → flat_map bytes is ++ x ≡ flat_map bytes js ++ y → GoesOn is js x y ⊎ GoesOn js is y x
  begins unique [] js x y p q e = search (rules)
  begins unique (i ∷ is) [] x y p q e = search (rules)
  begins unique (i ∷ is) (j ∷ js) x y p q e =
      let u = unique i j (flat_map bytes is ++ x) (flat_map bytes js ++ y) p.0 q.0
      (sym (append_assoc (bytes i) (flat_map bytes is) x) ∙ e ∙ append_assoc (bytes j) (flat_map bytes js) y) in
      let same : i ≡ j = u.0 in
      elim (begins unique is js x y p.1 q.1 u.1) [
        | inl g ↦ let g_items : js ≡ is ++ g.more = g.items in
            inl (record { more = g.more; are = g.are; items = cc; rest = g.rest })
        | inr g ↦ let g_items : is ≡ js ++ g.more = g.items in
            inr (record { more = g.more; are = g.are; items = cc; rest = g.rest })
      ]

-- of two lists of units that spell beginnings of the same bytes one goes on where the other ends, but for their places
units_begin : (a : List ℕ) (us vs : List DebugUnit) (x y : List ℕ) → AreUnits a us → AreUnits a vs
    → units_bytes us ++ x ≡ units_bytes vs ++ y
    → GoesOn unit_bytes (IsBare a) (map bare us) (map bare vs) x y
    ⊎ GoesOn unit_bytes (IsBare a) (map bare vs) (map bare us) y x
units_begin a us vs x y p q e = search (rules, begins, unit_unique, are_bare, bytes_bare)

-- a joining of no bytes ends in no bytes
append-is-nil : (a b : List ℕ) → a ++ b ≡ [] → b ≡ []
append-is-nil [] b e = e
append-is-nil (x ∷ a) b e = absurd cc

-- ---- the row of items in a body

-- a first entry that is spelled and fits is read, whatever follows
first_to : (x : Context) (kind : HeaderKind) (h : Head) → IsHead x h → fits_tag kind h.decl.tag ≡ true
    → (first_head x kind).Spells (head_bytes h) h
unfolding first_head fitting_head code
first_to x kind h p fit = record {
  value = (h.decl.code, h.code);
  first = h.code;
  second = flat_map attribute_bytes h.attributes;
  parts = refl;
  is_first = (p.code, refl);
  is_second = search (rules, head_to);
}

-- the first of these items is the unit's first entry, or comes after others
next_to : (t : Context) (kind : HeaderKind) (is : List Item) (i : Item) (js : List Item) → IsItem t i
    → FitsUnit kind (is ++ i ∷ js) → (next_item t kind is).Spells (item_bytes i) i
next_to t kind [] (entry h) js p fits = search (rules, first_to)
next_to t kind [] (null z) js p fits = absurd fits
next_to t kind (j ∷ is) i js p fits = item_to t i p

-- where a front stops, no item follows
stops_there : (t : Context) (kind : HeaderKind) (is : List Item) (rest : List ℕ) (depth : ℕ) (f : Failing) (i : Item)
    (js : List Item) (after : List ℕ) (d : ℕ) → tree_depth is ≡ Some depth → Stops t kind is rest depth f → IsItem t i
    → FitsUnit kind (is ++ i ∷ js) → tree_depth (is ++ i ∷ js) ≡ Some d → rest ≡ item_bytes i ++ after → ⊥
stops_there t kind is rest zero f (entry k) js after d depth stops p fits deep e = nothing_after is k js d depth deep
stops_there t kind is rest zero f (null z) js after d depth stops p fits deep e = stops.1 z after p e
stops_there t kind is rest (suc k) f i js after d depth stops p fits deep e =
    value_or_fault (next_item t kind is) rest i after f
    (record { text = item_bytes i; parts = e; spelled = next_to t kind is i js p fits }) stops

no_items : (t : Context) (is : List Item) (rest : List ℕ) → AreItems t is → [] ≡ items_bytes is ++ rest → is ≡ []
no_items t [] rest p e = refl
no_items t (i ∷ is) rest p e =
    absurd (omega (
      arith,
      ap length e,
      item_some t i p.0,
      length-append (item_bytes i ++ items_bytes is) rest,
      length-append (item_bytes i) (items_bytes is),
    ))

-- a body that spells a node and nulls has no fault
pub node_or_fault : (t : Context) (kind : HeaderKind) (header : ℕ) (n : Node) (zs : List (List ℕ)) (f : PlainFault)
    → IsNode t n → AreNulls zs → fits_tag kind (head_of n).decl.tag ≡ true
    → BodyFails t kind header (node_bytes n ++ nulls_bytes zs) f → ⊥
node_or_fault t kind header n zs f p nulls tag b =
    elim (begins item_bytes (IsItem t) (item_unique t) b.items whole b.rest [] b.front.are
    (all-append (IsItem t) (node_items n) (map null zs) (node_are_items t n p) (nulls_are_items t zs nulls))
    (sym b.front.parts ∙ sym (append-nil (items_bytes whole) ∙ spelled))) [
      | inl g ↦ inside g.more g.are g.items g.rest
      | inr g ↦ inside [] tt (sym (g.items ∙ ap (λ (js : List Item). whole ++ js) (none_more g.more g.are g.rest)
          ∙ append-nil whole) ∙ sym (append-nil b.items))
          (sym (g.rest ∙ ap (λ (js : List Item). items_bytes js ++ b.rest) (none_more g.more g.are g.rest)))
    ]
  where
    whole : List Item
    whole = node_items n ++ map null zs

    spelled : items_bytes (node_items n ++ map null zs) ≡ node_bytes n ++ nulls_bytes zs
    spelled = search (rules, items_bytes-append, node_spelled, nulls_spelled)

    fits : FitsUnit kind (node_items n ++ map null zs)
    fits = search (rules, fits_node)

    none_more : (more : List Item) → AreItems t more → [] ≡ items_bytes more ++ b.rest → more ≡ []
    none_more more are e = no_items t more b.rest are e

    ended : (d : ℕ) → tree_depth b.items ≡ Some d → tree_depth b.items ≡ Some 0
        → Stops t kind b.items b.rest d b.failing → b.rest ≡ [] → ⊥
    ended zero e z stops r = stops.0 r
    ended (suc d) e z stops r = search rules

    inside : (more : List Item) → AreItems t more → whole ≡ b.items ++ more → b.rest ≡ items_bytes more ++ [] → ⊥
    inside [] are items rest =
        search (rules, ended, append-nil, (whole_depth t n zs p))
    inside (i ∷ more) are items rest =
        search (rules, stops_there, fits, (whole_depth t n zs p), append_assoc)

-- the header of a unit is read, and the bytes after it
unit_header : (a : List ℕ) (u : DebugUnit) (x : List ℕ) → IsUnit a u
    → header_at (length a) (unit_bytes u ++ x) ≡ Ok (u.header, body_bytes u)
unit_header a u x p = search (rules, header_again)

-- where a unit fails there is no unit
pub unit_or_fault : (a : List ℕ) (header : ℕ) (rest : List ℕ) (f : PlainFault) (u : DebugUnit) (x : List ℕ)
    → FailsHere a header rest f → IsUnit a u → rest ≡ unit_bytes u ++ x → ⊥
unit_or_fault a header rest f u x fails p e = search (rules, unit_header, node_or_fault)

-- a fault, and units for all of the bytes: not both
pub no_list : (a : List ℕ) (at : ℕ) (bytes : List ℕ) (us : List DebugUnit) (f : PlainFault) → Spells a us bytes
    → Fails a at bytes f → ⊥
no_list a at bytes us f p b =
    let e : units_bytes b.units ++ b.rest
    ≡ units_bytes us ++ [] = search (rules, append-nil) in
    elim (units_begin a b.units us b.rest [] b.are p.are e) [
      | inl g ↦ inside g.more g.are g.rest
      | inr g ↦ b.more (append-is-nil (units_bytes g.more) b.rest (sym g.rest))
    ]
  where
    inside : (more : List DebugUnit) → AllByRecursion (IsBare a) more → b.rest ≡ units_bytes more ++ [] → ⊥
    inside [] are rest = b.more rest
    inside (u ∷ more) are rest =
        search (rules, unit_or_fault, append_assoc)

-- ---- one fault at most

some_is : (a b : ℕ) → ◌≡◌ {A = Option ℕ} (Some a) (Some b) → a ≡ b
some_is a b e = cc

stops_same : (t : Context) (kind : HeaderKind) (is : List Item) (rest : List ℕ) (d : ℕ) (f g : Failing)
    → Stops t kind is rest d f → Stops t kind is rest d g → f ≡ g
stops_same t kind is rest zero f g p q = p.2 ∙ sym q.2
stops_same t kind is rest (suc d) f g p q = search (rules, one_fault_of)

-- a front that stops is the longest one
longest : (t : Context) (kind : HeaderKind) (header : ℕ) (body : List ℕ) (f g : PlainFault)
    (b : BodyFails t kind header body f) (c : BodyFails t kind header body g) (more : List Item) → AreItems t more
    → c.items ≡ b.items ++ more → b.rest ≡ items_bytes more ++ c.rest → f ≡ g
longest t kind header body f g b c [] are items rest = search (rules, append-nil, some_is, stops_same)
longest t kind header body f g b c (i ∷ more) are items rest = search (rules, stops_there, append_assoc)

-- two faults of one body are one
one_in_body : (t : Context) (kind : HeaderKind) (header : ℕ) (body : List ℕ) (f g : PlainFault)
    → BodyFails t kind header body f → BodyFails t kind header body g → f ≡ g
one_in_body t kind header body f g b c =
    let e : items_bytes b.items ++ b.rest ≡ items_bytes c.items ++ c.rest = sym b.front.parts ∙ c.front.parts in
    elim (begins item_bytes (IsItem t) (item_unique t) b.items c.items b.rest c.rest b.front.are c.front.are e) [
      | inl on ↦ longest t kind header body f g b c on.more on.are on.items on.rest
      | inr on ↦ sym (longest t kind header body g f c b on.more on.are on.items on.rest)
    ]

-- two faults of one header are one
one_here : (a : List ℕ) (header : ℕ) (rest : List ℕ) (f g : PlainFault) → FailsHere a header rest f
    → FailsHere a header rest g → f ≡ g
one_here a header rest f g p q = search (rules, one_in_body)

-- the units before a fault are all that stand there
last_units : (a : List ℕ) (at : ℕ) (bytes : List ℕ) (f g : PlainFault) (b : Fails a at bytes f) (c : Fails a at bytes g)
    (more : List DebugUnit) → AllByRecursion (IsBare a) more
    → map bare c.units ≡ map bare b.units ++ more → b.rest ≡ units_bytes more ++ c.rest → f ≡ g
last_units a at bytes f g b c [] are units rest = search (rules, bytes_bare, append-nil, one_here)
last_units a at bytes f g b c (u ∷ more) are units rest = search (rules, unit_or_fault, append_assoc)

-- there is one fault at most
pub one_fault : (a : List ℕ) (at : ℕ) (bytes : List ℕ) (f g : PlainFault) → Fails a at bytes f → Fails a at bytes g
    → f ≡ g
one_fault a at bytes f g b c =
    let e : units_bytes b.units ++ b.rest ≡ units_bytes c.units ++ c.rest = sym b.parts ∙ c.parts in
    elim (units_begin a b.units c.units b.rest c.rest b.are c.are e) [
      | inl on ↦ last_units a at bytes f g b c on.more on.are on.items on.rest
      | inr on ↦ sym (last_units a at bytes g f c b on.more on.are on.items on.rest)
    ]

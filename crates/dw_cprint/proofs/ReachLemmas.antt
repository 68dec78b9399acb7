-- Finding what is reached: the loop over the entries that are found.
use Rattle.std.proofs.lemmas.Grind.{common_steps}
use Rattle.std.proofs.Common.{rules, ◌≡◌, ◌≢◌, ℕ, suc, ◌+◌, ◌<◌, ◌≤◌, List, [], ◌∷◌, ◌++◌, Option, Some, None, refl, sym, ◌∙◌, ap, inl, inr, length, get_or, arith, length-append, set, length-set, get_or-set_other, get_or-set_same, take, map, append-nil, append_assoc}
use Rattle.std.specs.Prelude.{All, AllPairs, Contains, option_map}
use Rattle.std.specs.List.{cons_option, filter_map}
use Rattle.std.proofs.lemmas.List.{get_or_default, get_or-map, length-map, map-append, get_or_append_left, take_more, get_or-append_right, take_all, take-append-le}
use Rattle.std.proofs.lemmas.List.Elements.{All-contains, Contains-get_or, Contains-append_left, Contains-append_right, Contains-append_cases, filter_map-append}
use Rattle.std.proofs.Math.Seq.{get_or-append_seam}
use Rattle.std.proofs.lemmas.Bool.{cases_lt}
use Rattle.std.proofs.lemmas.Map.Steps.{length-le_from_distinct_below}
use Rattle.std.proofs.lemmas.Map.Made.{IsDistinct-from_AllPairs}
use Rattle.std.proofs.lemmas.Map.Views.{Contains-from_any}
use Rattle.std.proofs.lemmas.Bool.{eqb-true, eq-eqb}
use Rattle.dw_types.specs.Graphs.{Graph, steps_of}
use Rattle.dw_types.specs.Packing.{cut, LeadsBelow}
use Rattle.dw_types.specs.PackingLaws.{cut-more}
use Rattle.dw_types.proofs.PackingLemmas.{AreEnds, ends-more}
use Rattle.dw_cprint.specs.Steps.{entries_among, member_types, steps_reached, IsReachedFrom, root, further}
use Rattle.dw_cprint.specs.Reach.{ArePlaces, Grows, IsRowOfPlaces, FindsAll, FindsRoots, HasReached}
use Rattle.dw_cprint.specs.Shapes.{MemberOf, ShapeOf, view_shape}
use Rattle.dw_cprint.specs.declared.survey.Survey.{Survey}
use Rattle.dw_cprint.proofs.NumberLemmas.{each-more, picked-there}
use lib.Dec.{eqb}

-- an element of a mapped list comes from one of the list
pub from-map : (found row steps : List ℕ) (x : ℕ) → map (λ k. get_or found k 0) row ≡ steps → Contains steps x
    → (k : ℕ) × (k < length row) × (get_or found (get_or row k 0) 0 ≡ x)
from-map found row steps x e has = search (rules, length-map, get_or-map)

-- and the other way
pub into-map : (found row steps : List ℕ) (k : ℕ) → map (λ n. get_or found n 0) row ≡ steps → k < length row
    → Contains steps (get_or found (get_or row k 0) 0)
into-map found row steps k e w =
    let has = Contains-get_or (map (λ n. get_or found n 0) row) k 0
    (omega (arith, length-map row (λ n. get_or found n 0))) in
    rw (get_or-map (λ n. get_or found n 0) row k 0 0 w, e) at has

-- ---- more entries are found

pub keeps-places : {steps old new : List ℕ} → Grows steps old new → (k : ℕ) → k < length old
    → get_or new k 0 ≡ get_or old k 0
keeps-places {old = old} g k w = ap (λ (xs : List ℕ). get_or xs k 0) g.is ∙ get_or_append_left old g.more 0 k w

pub no-shorter : {steps old new : List ℕ} → Grows steps old new → length old ≤ length new
no-shorter {old = old} g = let long = ap length g.is in omega (arith, long, length-append old g.more)

map-same : (f g : ℕ → ℕ) (xs : List ℕ) → ((k : ℕ) → k < length xs → f (get_or xs k 0) ≡ g (get_or xs k 0))
    → map f xs ≡ map g xs
map-same f g [] same = refl
map-same f g (x ∷ xs) same = rw (same 0 (omega arith), map-same f g xs (λ k below. same (suc k) (omega arith))) refl

-- a row stays one
pub row-grows : {steps more old new row : List ℕ} → Grows more old new → IsRowOfPlaces old steps row
    → IsRowOfPlaces new steps row
row-grows grows r = grind (arith, common_steps, map-same, keeps-places, no-shorter)

grows-both : (a b o m n : List ℕ) → Grows a o m → Grows b m n → Grows (a ++ b) o n
grows-both a b o m n x y = record {
  more = x.more ++ y.more;
  is = rw (y.is, x.is) (append_assoc o x.more y.more);
  among =
      λ v has. elim (Contains-append_cases x.more y.more v has)
      [ inl p ↦ Contains-append_left a b v (x.among v p) | inr q ↦ Contains-append_right a b v (y.among v q) ];
}

row-both : (found a b p q : List ℕ) → IsRowOfPlaces found a p → IsRowOfPlaces found b q
    → IsRowOfPlaces found (a ++ b) (p ++ q)
row-both found a b p q x y = grind (arith, common_steps, map-append)

pub finds-both : {a b p0 p1 p2 f0 f1 f2 r s : List ℕ} → FindsAll a p0 p1 f0 f1 r → FindsAll b p1 p2 f1 f2 s
    → FindsAll (a ++ b) p0 p2 f0 f2 (r ++ s)
finds-both x y = search (rules, grows-both, row-both, row-grows)

-- ---- entries among types

-- they are those that are there
pub entries-are : (types : List (Option ℕ)) → entries_among types ≡ filter_map (λ (at : Option ℕ). at) types
entries-are [] = refl
entries-are (None ∷ types) = entries-are types
entries-are (Some x ∷ types) = ap (λ (u : List ℕ). x ∷ u) (entries-are types)

pub entries-append : (xs ys : List (Option ℕ)) → entries_among (xs ++ ys) ≡ entries_among xs ++ entries_among ys
entries-append xs ys =
    rw (entries-are (xs ++ ys), entries-are xs, entries-are ys) (filter_map-append (λ (at : Option ℕ). at) xs ys)

pub entries-take : (types : List (Option ℕ)) (i : ℕ) → i < length types
    → entries_among (take (i + 1) types) ≡ entries_among (take i types) ++ entries_among (get_or types i None ∷ [])
entries-take types i w =
    ap entries_among (take_more types i None w) ∙ entries-append (take i types) (get_or types i None ∷ [])

pub entry-among : (types : List (Option ℕ)) (entry : ℕ) → Contains types (Some entry)
    → Contains (entries_among types) entry
entry-among types entry has =
    rw (entries-are types) (picked-there (λ (at : Option ℕ). at) types (Some entry) entry has refl)

-- ---- one entry

pub finds-none : (places found : List ℕ) → ArePlaces places found → FindsAll [] places places found found []
finds-none places found placed = search (rules, append-nil)

pub finds-new : (places found : List ℕ) (entry : ℕ) → ArePlaces places found → entry < length places
    → ((k : ℕ) → k < length found → get_or found k 0 ≢ entry)
    → FindsAll (entry ∷ []) places (set places entry (length found)) found (found ++ entry ∷ []) (length found ∷ [])
finds-new places found entry placed w fresh =
    grind (
      arith,
      common_steps,
      length-set,
      get_or-append_seam,
      length-append,
      cases_lt,
      get_or_append_left,
      get_or-set_other,
      get_or-set_same,
    )

pub finds-as : {steps steps' p0 p p' f0 f f' r : List ℕ} → steps ≡ steps' → p ≡ p' → f ≡ f'
    → FindsAll steps p0 p f0 f r → FindsAll steps' p0 p' f0 f' r
finds-as es ep ef h = rw (← es, ← ep, ← ef) h

-- the steps of a row are found
pub found-in-row : {found steps row : List ℕ} → IsRowOfPlaces found steps row → (to : ℕ) → Contains steps to
    → Contains found to
found-in-row {found = found} {steps = steps} {row = row} r to has =
    let (k, w, is) = from-map found row steps to r.leads has in
    rw (← is) (Contains-get_or found (get_or row k 0) 0 (r.below k 0 w))

-- ---- finding what is reached: the loop over the entries that are found

-- the rows of the first entries that are found are made, and their shapes are read
pub record IsSoFar (shapes : ℕ → ShapeOf) (roots places found : List ℕ) (rows : Graph) (read : List ShapeOf) : Type 0
  where
    pub placed : ArePlaces places found
    pub made : length rows ≤ length found
    pub shapes_are : read ≡ map shapes (take (length rows) found)
    pub rows_are : (node : ℕ) → node < length rows
        → IsRowOfPlaces found (steps_reached shapes (get_or found node 0)) (steps_of rows node)
    pub roots_found : (to : ℕ) → Contains roots to → Contains found to
    pub reached : (entry : ℕ) → Contains found entry → IsReachedFrom shapes roots entry

pub so_far-start : (shapes : ℕ → ShapeOf) {roots places found : List ℕ} → FindsRoots roots places found
    → IsSoFar shapes roots places found [] []
so_far-start shapes f = record {
  placed = f.placed;
  made = omega arith;
  shapes_are = refl;
  rows_are = λ node w. absurd (omega arith);
  roots_found = λ to has. (f.each to).1 has;
  reached = λ entry has. root ((f.each entry).0 has);
}

module _ {shapes : ℕ → ShapeOf} {roots places places' found found' : List ℕ} {rows : Graph} {read : List ShapeOf}
    {r : List ℕ} where
  pub so_far-more : IsSoFar shapes roots places found rows read → length rows < length found
      → FindsAll (steps_reached shapes (get_or found (length rows) 0)) places places' found found' r
      → IsSoFar shapes roots places' found' (rows ++ r ∷ []) (read ++ shapes (get_or found (length rows) 0) ∷ [])
  so_far-more s more f = record {
    placed = f.placed;
    made = (let long = no-shorter f.grows in omega (arith, length-append rows (r ∷ [])));
    shapes_are = shapes_are;
    rows_are = rows_are;
    roots_found =
        λ to has. rw f.grows.is (Contains-append_left found f.grows.more to (s.roots_found to has));
    reached =
        λ entry has. elim (Contains-append_cases found f.grows.more entry
        (rw f.grows.is at has)) [
          | inl before ↦ s.reached entry before
          | inr new ↦ further (s.reached (get_or found (length rows) 0) (Contains-get_or found (length rows) 0 more))
              (f.grows.among entry new)
        ];
  }
    where
      steps : List ℕ
      steps = steps_reached shapes (get_or found (length rows) 0)

      shapes_are : read ++ shapes (get_or found (length rows) 0) ∷ []
          ≡ map shapes (take (length (rows ++ r ∷ [])) found')
      shapes_are =
          let front : take (length rows + 1) found' ≡ take (length rows) found ++ get_or found (length rows) 0 ∷ [] =
          ap (take (length rows + 1)) f.grows.is ∙ take-append-le (length rows + 1) found f.grows.more (omega arith)
          ∙ take_more found (length rows) 0 more in
          rw (s.shapes_are, length-append rows (r ∷ []), front)
          (sym (map-append shapes (take (length rows) found) (get_or found (length rows) 0 ∷ [])))

      moved : (node : ℕ) → node < length found → (row : List ℕ)
          → IsRowOfPlaces found' (steps_reached shapes (get_or found node 0)) row
          → IsRowOfPlaces found' (steps_reached shapes (get_or found' node 0)) row
      moved node w row i =
          rw (keeps-places f.grows node w) i

      rows_are : (node : ℕ) → node < length (rows ++ r ∷ [])
          → IsRowOfPlaces found' (steps_reached shapes (get_or found' node 0)) (steps_of (rows ++ r ∷ []) node)
      rows_are = each-more
          (λ node row. IsRowOfPlaces found' (steps_reached shapes (get_or found' node 0)) row) rows r []
          (λ node w. moved node (omega arith) (steps_of rows node)
          (row-grows f.grows (s.rows_are node w)))
          (moved (length rows) more r f.is_row)

pub so_far-done : (shapes : ℕ → ShapeOf) (roots : List ℕ) (s : Survey) (found : List ℕ) (rows : Graph)
    → IsSoFar shapes roots s.places.items found rows (map view_shape s.shapes.items)
    → length found ≤ length rows → HasReached shapes roots s rows
so_far-done shapes roots s found rows h over =
    record {
      found = found;
      reach = search (rules);
      are_shapes = h.shapes_are ∙ ap (map shapes) (take_all (length rows) found over);
    }

-- ---- the rows in one list

-- the places of the steps of the first entries are in one list, and where those of each end in another
pub record ArePacked (found steps ends : List ℕ) : Type 0 where
  pub are_ends : AreEnds steps ends
  pub leads : LeadsBelow steps (length found)

pub packed-start : (found : List ℕ) → ArePacked found [] []
packed-start found = search (rules)

pub packed-more : {reached places places' found found' steps ends row : List ℕ} → ArePacked found steps ends
    → FindsAll reached places places' found found' row
    → ArePacked found' (steps ++ row) (ends ++ length (steps ++ row) ∷ [])
packed-more h f =
    search (rules, ends-more, cases_lt, no-shorter, get_or_append_left, length-append, get_or-append_right)

-- one more row
pub rows-more : {found steps ends : List ℕ} (row : List ℕ) → ArePacked found steps ends
    → cut (steps ++ row) 0 (ends ++ length (steps ++ row) ∷ []) ≡ cut steps 0 ends ++ row ∷ []
rows-more {steps = steps} {ends = ends} row h = cut-more steps row ends h.are_ends.in_order h.are_ends.last

-- numbers below another that are apart are no more than that
pub few-apart : (xs : List ℕ) (n : ℕ) → AllPairs (λ a b. a ≢ b) xs → All (λ x. x < n) xs → length xs ≤ n
few-apart xs n apart below =
    length-le_from_distinct_below xs n (IsDistinct-from_AllPairs (λ a b. (eqb-true a b, eq-eqb a b)) xs apart)
    (λ q h. All-contains (λ x. x < n) xs q below (Contains-from_any {eq = eqb} eqb-true q xs h))

-- no more entries are found than there are places
pub room : (places found : List ℕ) → ArePlaces places found → length found ≤ length places
room places found placed =
    few-apart found (length places) (λ i j d less w same.
    let at = ap (λ x. get_or places x 0)
    (get_or_default found i 0 d (omega arith) ∙ same ∙ get_or_default found j d 0 w) in
    omega (arith, at, placed.back i (omega arith), placed.back j w)) placed.below

-- ---- the types of members

-- one child more, a member or not
pub types-here : (o : Option MemberOf) (at : Option ℕ) (members : List MemberOf)
    → Some at ≡ option_map (λ (m : MemberOf). m.type_at) o
    → member_types (cons_option o members) ≡ at ∷ member_types members
types-here None at members is = absurd cc
types-here (Some m) at members is = cc

pub types-none : (o : Option MemberOf) (members : List MemberOf) → None ≡ option_map (λ (m : MemberOf). m.type_at) o
    → member_types (cons_option o members) ≡ member_types members
types-none None members is = refl
types-none (Some m) members is = absurd cc

-- The children of an entry, by the look-ups: the entry behind it, if that is a child, and the next siblings from there
-- on; and a parent has a smaller number than its child.
use Rattle.std.proofs.Common.{rules, ◌≡◌, ℕ, zero, suc, ◌+◌, ◌<◌, ◌≤◌, Bool, true, false, List, [], ◌∷◌, length, drop, Option, Some, None, IfSome, inl, inr, refl, sym, ap, subst, ◌∙◌, arith, length-drop, ne_eqb}
use Rattle.std.specs.Prelude.{slice_get, All, Contains}
use Rattle.std.specs.List.{filter, range_with_len}
use Rattle.std.specs.Option.{ForSome}
use Rattle.std.proofs.lemmas.Bool.{cases_lt, eqb-true}
use Rattle.std.proofs.lemmas.List.{drop-drop, get_or_past}
use Rattle.std.proofs.lemmas.List.Elements.{All-cons, All-nil, Contains-append_right}
use Rattle.std.proofs.lemmas.Option.{get_or_from_slice_get, slice_get-get_or, slice_get_within}
use Rattle.std.proofs.Math.ListN.{drop_of_length-le}
use Rattle.dw_entries.specs.ByNumber.{no_entry}
use Rattle.dw_entries.specs.Entries.{Entry, start_of, entries_of, DebugUnit}
use Rattle.dw_types.specs.Children.{children_of, is_child, is_parent, siblings_from, IsChildOf}
use Rattle.dw_types.specs.Entries.{entry_in}
use Rattle.dw_types.proofs.ChildLemmas.{children_from, equals, skip_one, take_one, below_get, units_chained, After, Chained, First, Link}

-- the entry with this number, and those behind it
drop_get : (es : List Entry) (i : ℕ) (e : Entry) → slice_get es i ≡ Some e → drop i es ≡ e ∷ drop (suc i) es
drop_get [] i e is = absurd cc
drop_get (x ∷ es) zero e is = search rules
drop_get (x ∷ es) (suc i) e is = drop_get es i e is

get-drop : (es : List Entry) (m i : ℕ) → slice_get (drop m es) i ≡ slice_get es (m + i)
get-drop es zero i = search rules
get-drop [] (suc m) i = refl
get-drop (e ∷ es) (suc m) i = search (rules, (get-drop es m i))

get_drop : (es rest : List Entry) (i : ℕ) (e : Entry) → drop i es ≡ e ∷ rest → slice_get es i ≡ Some e
get_drop es rest i e is =
    let z : i ≡ i + 0 = omega arith in ap (slice_get es) z ∙ sym (get-drop es i 0) ∙ ap (λ xs. slice_get xs 0) is

chained_get : (k : ℕ) (es : List Entry) (i : ℕ) (e : Entry) → Chained k es → slice_get es i ≡ Some e
    → Link (k + i) e (drop (suc i) es)
chained_get k [] i e chained is = absurd cc
chained_get k (x ∷ es) zero e chained is =
    let there : Some x ≡ Some e = is in
    let same : x ≡ e = cc in
    subst (λ y. Link (k + 0) y es) same (subst (λ n. Link n x es) (let z : k ≡ k + 0 = omega arith in z) chained.0)
chained_get k (x ∷ es) (suc i) e chained is =
    subst (λ n. Link n e (drop (suc i) es)) (let z : suc k + i ≡ k + suc i = omega arith in z)
    (chained_get (suc k) es i e chained.1 is)

-- those from a number on, by the rest of the list
here-on : (all es : List Entry) (p k : ℕ) → drop k all ≡ es
    → filter (is_child all p) (range_with_len k (length es)) ≡ children_from es p k
here-on all [] p k there = refl
here-on all (e ∷ es) p k there =
    search (
      rules,
      get_or_from_slice_get,
      get_drop,
      drop-drop,
      (here-on all es p (k + 1) (sym (drop-drop 1 k all) ∙ ap (drop 1) there)),
    )

siblings-are : (all : List Entry) (p m : ℕ) → siblings_from all p (Some m) ≡ children_from (drop m all) p m
siblings-are all p m = search (rules, length-drop, here-on)

children-are : (all : List Entry) (p : ℕ) → children_of all p ≡ children_from all p 0
unfolding children_of
children-are all p = here-on all all p 0 refl

-- the parent is this entry
pub parent_is : (above : Option ℕ) (node : ℕ) → is_parent above node ≡ true → above ≡ Some node
parent_is above node is = search (rules, eqb-true)

-- those that are kept of a range are children
range-all : (es : List Entry) (p m n : ℕ) → m + n ≤ length es
    → All (IsChildOf es p) (filter (is_child es p) (range_with_len m n))
range-all es p m zero within = All-nil (IsChildOf es p)
range-all es p m (suc n) within =
    search (rules, All-cons, parent_is, (range-all es p (m + 1) n (omega (arith, within))))

pub children-all : (es : List Entry) (p : ℕ) → All (IsChildOf es p) (children_of es p)
unfolding children_of
children-all es p = search (rules, range-all)

-- and each child is one of them
range-has : (test : ℕ → Bool) (m n x : ℕ) → m ≤ x → x < m + n → test x ≡ true
    → Contains (filter test (range_with_len m n)) x
range-has test m zero x low high passes = absurd (omega (arith, low, high))
range-has test m (suc n) x low high passes = elim (cases_lt m x) [
  | inl later ↦ go (test m) refl (range-has test (m + 1) n x (omega (arith, later)) (omega (arith, high)) passes)
  | inr here ↦ let same : m ≡ x = omega (arith, low, here) in rw (same, passes) (0, (omega arith), refl)
]
  where
    go : (b : Bool) → test m ≡ b → Contains (filter test (range_with_len (m + 1) n)) x
        → Contains (filter test (range_with_len m (suc n))) x
    go true is more = rw is (Contains-append_right (m ∷ []) (filter test (range_with_len (m + 1) n)) x more)
    go false is more = rw is more

pub child-in : (es : List Entry) (p child : ℕ) → IsChildOf es p child → Contains (children_of es p) child
unfolding children_of
child-in es p child is = search (rules, equals, range-has)

-- entries up to a parent are none of its children
skip_before : (p n k : ℕ) (es : List Entry) → Chained k es → k + n ≤ suc p
    → children_from es p k ≡ children_from (drop n es) p (k + n)
skip_before p zero k es chained le = search rules
skip_before p (suc n) k [] chained le = refl
skip_before p (suc n) k (e ∷ es) chained le =
    search (rules, skip_one, ne_eqb, (skip_before p n (suc k) es chained.1 (omega (arith, le))))

-- a child, and its siblings from the next one on
pub record IsNextOf (es : List Entry) (p m : ℕ) (next : Option ℕ) : Type 0 where
  pub left : siblings_from es p (Some m) ≡ m ∷ siblings_from es p next
  pub child : ForSome next (IsChildOf es p)

module _ (us : List DebugUnit) where
  -- an entry, and those behind it
  from-entry : (id : ℕ) → id < length (entries_of us)
      → drop id (entries_of us) ≡ entry_in us id ∷ drop (suc id) (entries_of us)
  from-entry id below = search (rules, drop_get, slice_get-get_or)

  link-at : (id : ℕ) → id < length (entries_of us) → Link id (entry_in us id) (drop (suc id) (entries_of us))
  link-at id below =
      subst (λ n. Link n (entry_in us id) (drop (suc id) (entries_of us))) (let z : 0 + id ≡ id = omega arith in z)
      (chained_get 0 (entries_of us) id (entry_in us id) (units_chained 0 0 (start_of us) us)
      (slice_get-get_or (entries_of us) id no_entry below))

  -- a parent has a smaller number than its child
  pub parent-first : (child above : ℕ) → (entry_in us child).parent ≡ Some above → above < child
  parent-first child above is = elim (cases_lt child (length (entries_of us))) [
    | inl below ↦ below_get child (entry_in us child).parent above (link-at child below).below is
    | inr over ↦ let past : entry_in us child ≡ no_entry = get_or_past (entries_of us) child no_entry over in
        absurd (let gone : None ≡ Some above = rw past at is in cc)
  ]

  pub parent-earlier : (child : ℕ) (parent : Option ℕ) → parent ≡ (entry_in us child).parent
      → IfSome parent (λ above. above < child)
  parent-earlier child None is = tt
  parent-earlier child (Some above) is = parent-first child above (sym is)

  goes_on : (p m : ℕ) (next : Option ℕ) → After (suc m) (drop (suc m) (entries_of us)) (Some p) next
      → (children_from (drop (suc m) (entries_of us)) p (suc m) ≡ siblings_from (entries_of us) p next)
      × ForSome next (IsChildOf (entries_of us) p)
  goes_on p m None after = search rules
  goes_on p m (Some n) after =
      let es = entries_of us in
      let there : drop after.j (drop (suc m) es)
      ≡ drop n es = drop-drop after.j (suc m) es ∙ ap (λ i. drop i es) (sym after.number) in
      let get = get_drop es after.rest n after.child (sym there ∙ after.there) in (
        after.same ∙ ap (λ xs. children_from xs p n) there ∙ sym (siblings-are es p n),
        λ x found.
            let same : n ≡ x = cc in
            subst (IsChildOf es p) same (
              slice_get_within es n after.child get,
              ap (λ (e : Entry). e.parent)
                  (get_or_from_slice_get es n after.child no_entry get) ∙ after.parent,
            ),
      )

  -- a child and its next sibling
  pub next-sibling : (p m : ℕ) (next : Option ℕ) → IsChildOf (entries_of us) p m → next ≡ (entry_in us m).next
      → IsNextOf (entries_of us) p m next
  next-sibling p m next child is =
      let es = entries_of us in
      let e = entry_in us m in
      let after : After (suc m) (drop (suc m) es) (Some p) next = rw (is, ← child.1)
      (link-at m child.0).after in
      let on = goes_on p m next after in
      let test : is_parent e.parent p ≡ true = ap (λ (above : Option ℕ). is_parent above p) child.1 ∙ equals p in
      record {
        left =
            siblings-are es p m ∙ ap (λ xs. children_from xs p m) (from-entry m child.0)
            ∙ take_one e (drop (suc m) es) p m test ∙ ap (λ xs. m ∷ xs) on.0;
        child = on.1;
      }

  children_behind : (id : ℕ) → children_of (entries_of us) id
      ≡ children_from (drop (suc id) (entries_of us)) id (suc id)
  children_behind id =
      children-are (entries_of us) id
      ∙ skip_before id (suc id) 0 (entries_of us) (units_chained 0 0 (start_of us) us) (omega arith)
      ∙ ap (children_from (drop (suc id) (entries_of us)) id) (let z : 0 + suc id ≡ suc id = omega arith in z)

  -- the entry behind is the first child
  pub first_behind : (id behind : ℕ) → behind ≡ id + 1
      → siblings_from (entries_of us) id (Some behind) ≡ children_of (entries_of us) id
  first_behind id behind is =
      ap (λ n. siblings_from (entries_of us) id (Some n)) (let e : behind ≡ suc id = omega (arith, is) in e)
      ∙ siblings-are (entries_of us) id (suc id) ∙ sym (children_behind id)

  -- the entry behind is no child: there is none
  pub no_first : (id behind : ℕ) → behind ≡ id + 1 → behind < length (entries_of us)
      → is_parent (entry_in us behind).parent id ≡ false → children_of (entries_of us) id ≡ []
  no_first id behind is below isnt =
      let next : behind ≡ suc id = omega (arith, is) in
      let from = from-entry (suc id) (omega (arith, below, next)) in
      let first : First id (drop (suc id) (entries_of us)) = (link-at id (omega (arith, below, is))).first in
      children_behind id ∙ ap (λ xs. children_from xs id (suc id)) from
      ∙ (rw from at first) (rw next at isnt)

  -- no entry stands behind: there is no child
  pub none_behind : (id behind : ℕ) → behind ≡ id + 1 → length (entries_of us) ≤ behind
      → children_of (entries_of us) id ≡ []
  none_behind id behind is over = search (rules, children_behind, drop_of_length-le)

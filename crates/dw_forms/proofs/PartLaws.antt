-- Lists of attributes that go on as another list: where the next attribute of a kind is, and what comes before it.
use Rattle.std.proofs.Common.{rules, ◌≡◌, ℕ, zero, suc, ◌-◌, ◌<◌, ◌≤◌, Bool, true, false, List, [], ◌∷◌, ◌++◌, length, refl, sym, ap, subst, ◌∙◌, arith, ◌||◌, get_or}
use Rattle.std.specs.List.{list_any}
use Rattle.std.proofs.lemmas.List.{get_or_default}
use Rattle.dw_forms.specs.declared.abbrev.AttributeSpec.{AttributeSpec}
use Rattle.dw_forms.specs.Chains.{Numbered, items_of, number_where}
use Rattle.dw_forms.specs.AttributeLists.{spec_of, numbered_in, AreKnown, IsKnown, EndsWith, Node}
use Rattle.dw_forms.proofs.ChainLaws.{chain_none, where_first, where_later}
use Rattle.dw_forms.proofs.NodeLaws.{node_read}

-- ---- some list

pub first_is : {X : Type 0} → (x y : X) (xs ys : List X) → (x ∷ xs) ≡ (y ∷ ys) → (x ≡ y) × (xs ≡ ys)
first_is x y xs ys e = (cc, cc)

-- ---- numbers fall along a list

-- the numbers are above 0 and fall, the first one from this one at most
abbrev pub Falls : ℕ → List (Numbered AttributeSpec) → Type 0
Falls bound [] = Unit {0}
Falls bound (n ∷ list) = (n.number ≤ bound) × (0 < n.number) × Falls (n.number - 1) list

falls_less : (few many : ℕ) (list : List (Numbered AttributeSpec)) → few ≤ many → Falls few list → Falls many list
falls_less few many [] le falls = tt
falls_less few many (n ∷ list) le falls = search (rules, falls)

-- a list begins with its number
abbrev pub StartsAt : ℕ → List (Numbered AttributeSpec) → Type 0
StartsAt number [] = number ≡ 0
StartsAt number (n ∷ list) = n.number ≡ number

module _ (nodes : List Node) (known : AreKnown nodes) where
  -- what is known of the list of a number
  pub known_at : (number : ℕ) → 0 < number → number ≤ length nodes → (n : Node) × IsKnown nodes number n
  known_at number some within = at nodes refl
    where
      at : (all : List Node) → all ≡ nodes → (n : Node) × IsKnown nodes number n
      at [] e = absurd (let none : length nodes ≡ 0 = ap length (sym e) in omega (arith, within, none))
      at (d ∷ more) e =
          let n = get_or nodes (number - 1) d in (
            n,
            node_read nodes number n known some within
                (get_or_default nodes (number - 1) d n (omega (arith, within))),
          )

  falls_to : (bound number : ℕ) → number ≤ bound → number ≤ length nodes → Falls number (numbered_in nodes number)
  falls_to bound zero le within = rw (chain_none _) tt
  falls_to zero (suc k) le within = absurd (omega arith)
  falls_to (suc bound) (suc k) le within =
      let (n, is) = known_at _ (omega arith) within in
      let less = is.next in
      rw is.begins (
        omega arith,
        omega arith,
        falls_less n.next _ _
            (omega arith) (falls_to bound n.next (omega arith) (omega arith)),
      )

  pub falls : (number : ℕ) → number ≤ length nodes → Falls number (numbered_in nodes number)
  falls number within = search (rules, falls_to)

  pub starts : (number : ℕ) → number ≤ length nodes → StartsAt number (numbered_in nodes number)
  starts zero within = rw (chain_none _) refl
  starts (suc k) within = let (n, is) = known_at (suc k) (omega arith) within in rw is.begins refl

-- a number before a list is above the list's
pub head_above : (bound to : ℕ) (m : Numbered AttributeSpec) (before list : List (Numbered AttributeSpec))
    → Falls bound (m ∷ (before ++ list)) → StartsAt to list → to < m.number
head_above bound to m [] [] falls starts = omega (arith, starts, falls.1)
head_above bound to m [] (n ∷ list) falls starts = search (rules, starts, falls)
head_above bound to m (r ∷ before) list falls starts =
    search (rules, falls, starts, (head_above (m.number - 1) to r before list falls.2 starts))

-- a member of a list has a number of at most the list's
pub member_below : (bound : ℕ) (before : List (Numbered AttributeSpec)) (n : Numbered AttributeSpec)
    (list : List (Numbered AttributeSpec)) → Falls bound (before ++ n ∷ list) → n.number ≤ bound
member_below bound [] n list falls = falls.0
member_below bound (m ∷ before) n list falls =
    search (rules, falls, (member_below (m.number - 1) before n list falls.2))

-- ---- the next attribute of a kind

-- a list up to the first attribute that passes the test, and the list of its number
pub record IsSplit (test : AttributeSpec → Bool) (nodes : List Node) (number found : ℕ) : Type 0 where
  pub before : List (Numbered AttributeSpec)
  pub goes : EndsWith nodes number found before
  pub none : list_any test (items_of before) ≡ false
  pub within : found ≤ number
  pub passes : (m : Numbered AttributeSpec) (list : List (Numbered AttributeSpec)) → numbered_in nodes found ≡ m ∷ list
      → test m.item ≡ true

pub none_both : (a b : Bool) → a ≡ false → b ≡ false → (a || b) ≡ false
none_both true b e f = absurd cc
none_both false b e f = f

first_passes : (test : AttributeSpec → Bool) (n m : Numbered AttributeSpec) (xs ys : List (Numbered AttributeSpec))
    → n ∷ xs ≡ m ∷ ys → test n.item ≡ true → test m.item ≡ true
first_passes test n m xs ys e is = search (rules, first_is)

no_first : (m : Numbered AttributeSpec) (list : List (Numbered AttributeSpec)) → [] ≡ m ∷ list → ⊥
no_first m list e = cc

module _ (test : AttributeSpec → Bool) (nodes : List Node) (known : AreKnown nodes) where
  split_here : (number : ℕ) (n : Node) (b : Bool) → IsKnown nodes number n → test (spec_of n) ≡ b
      → IsSplit test nodes n.next (number_where test (numbered_in nodes n.next))
      → IsSplit test nodes number (number_where test (numbered_in nodes number))
  split_here number n true is here rest = search (rules, where_first, first_passes)
  split_here number n false is here rest =
      let found : number_where test (numbered_in nodes number)
      ≡ number_where test (numbered_in nodes n.next) = ap (number_where test) is.begins
      ∙ where_later test (record { number = number; item = spec_of n }) (numbered_in nodes n.next) here in
      let less = is.next in
      let w = rest.within in
      rw found (record {
        before = record { number = number; item = spec_of n } ∷ rest.before;
        goes =
            is.begins ∙ (λ i. record { number = number; item = spec_of n }
            ∷ rest.goes i);
        none = none_both (test (spec_of n)) (list_any test (items_of rest.before)) here rest.none;
        within = omega arith;
        passes = rest.passes;
      })

  split_to : (bound number : ℕ) → number ≤ bound → number ≤ length nodes
      → IsSplit test nodes number (number_where test (numbered_in nodes number))
  unfolding number_where
  split_to bound zero le within = search (rules, chain_none, no_first)
  split_to zero (suc k) le within = absurd (omega arith)
  split_to (suc bound) (suc k) le within =
      let (n, is) = known_at nodes known _ (omega arith) within in
      let less = is.next in
      split_here _ n (test (spec_of n)) is refl
      (split_to bound n.next (omega arith) (omega arith))

  -- the list up to the next attribute of the kind
  pub split : (number : ℕ) → number ≤ length nodes
      → IsSplit test nodes number (number_where test (numbered_in nodes number))
  split number within = search (rules, split_to)

-- where the next attribute of a kind is not before a list, none before it is of the kind
none_here : (test : AttributeSpec → Bool) (bound to : ℕ) (m : Numbered AttributeSpec)
    (before list : List (Numbered AttributeSpec)) (b : Bool) → test m.item ≡ b → Falls bound (m ∷ (before ++ list))
    → StartsAt to list
    → number_where test (m ∷ (before ++ list)) ≤ to
    → (number_where test (before ++ list) ≤ to → list_any test (items_of before) ≡ false)
    → list_any test (items_of (m ∷ before)) ≡ false
none_here test bound to m before list true is falls starts le rest =
    let found = where_first test m (before ++ list) is in
    let less = head_above bound to m before list falls starts in
    absurd (omega arith)
none_here test bound to m before list false is falls starts le rest = search (rules, where_later, none_both)

pub none_before : (test : AttributeSpec → Bool) (bound to : ℕ) (before list : List (Numbered AttributeSpec))
    → Falls bound (before ++ list) → StartsAt to list → number_where test (before ++ list) ≤ to
    → list_any test (items_of before) ≡ false
none_before test bound to [] list falls starts le = refl
none_before test bound to (m ∷ before) list falls starts le =
    none_here test bound to m before list (test m.item) refl falls starts le
    (λ less. none_before test (m.number - 1) to before list falls.2 starts less)

-- ---- an attribute before a list

-- so the attributes before the list are some, it, and others
pub record IsPart (z : Numbered AttributeSpec) (zs front before list : List (Numbered AttributeSpec)) : Type 0 where
  pub others : List (Numbered AttributeSpec)
  pub parts : before ≡ front ++ z ∷ others
  pub goes : zs ≡ others ++ list

pub part_at : (to : ℕ) (z : Numbered AttributeSpec) (zs front before list : List (Numbered AttributeSpec))
    → Falls to list → StartsAt to list → to < z.number → before ++ list ≡ front ++ z ∷ zs
    → IsPart z zs front before list
part_at to z zs [] [] list falls starts less e =
    absurd (let same : z.number ≡ to = subst (StartsAt to) e starts in omega arith)
part_at to z zs (x ∷ front) [] list falls starts less e = search (rules, member_below, falls)
part_at to z zs [] (y ∷ before) list falls starts less e = search (rules, first_is)
part_at to z zs (x ∷ front) (y ∷ before) list falls starts less e =
    let same = first_is y x (before ++ list) (front ++ z ∷ zs) e in
    let p = part_at to z zs front before list falls starts less same.1 in
    record {
      others = p.others;
      parts = search rules;
      goes = p.goes;
    }

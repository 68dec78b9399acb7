-- Codes are found in chains of links, also with one link more and its branches.
use Rattle.std.proofs.lemmas.Grind.{common_steps}
use Rattle.std.proofs.Common.{rules, ◌≡◌, ℕ, suc, ◌+◌, ◌-◌, ◌<◌, ◌≤◌, Bool, true, false, cond, List, [], ◌∷◌, ◌++◌, length, Some, refl, sym, ap, ◌∙◌, inl, inr, arith, get_or, length-append, ◌^◌, ◌⊎◌, bit_xor, eqb-true, ◌==◌, eq-eqb}
use Rattle.std.proofs.lemmas.Bool.{cases_eq, cases_lt}
use Rattle.std.proofs.lemmas.List.{length-map, map-append, get_or-map, get_or_append_left, get_or_at, get_or_default}
use Rattle.dw_forms.specs.Chains.{parts, same_bit, agrees, Numbered, item_of, number_where, number_in, codes_of, codes_in, AreNumbered, IsRun, AreBranches, AreBelow, IsFoundBy, AreFound, Link, AreMore}
use Rattle.dw_forms.proofs.RunLaws.{parts_self, run_more, parts_lowest, run_branch, agrees_less, agrees_same, agrees_all, agrees_on, parts_on, parts_later, parts_as, parts_turned}
use Rattle.dw_forms.proofs.ChainLaws.{chain_none, old_chain, new_chain, where_first, where_later, are_numbered, item_within, item_read, narrowed, where_same, where_passes}
use Rattle.std.specs.Int.{w64, trailing_zeros}
use Rattle.std.proofs.lemmas.Nat.{pow_pos}

-- ---- codes are found in chains of links, also with one link more

abbrev pub own : ℕ → Link → Numbered ℕ
own number l = record { number = number; item = l.code }

abbrev pub part : Link → ℕ × ℕ
part l = (l.code, l.rest)

pub codes_long : (links : List Link) → length (codes_of links) ≡ length links
codes_long links = length-map links part

pub codes_none : (links : List Link) → codes_in links 0 ≡ []
codes_none links = chain_none _

pub codes_more : (links : List Link) (k : Link) → codes_of (links ++ k ∷ []) ≡ codes_of links ++ part k ∷ []
codes_more links k = map-append part links (k ∷ [])

-- the old chains stay
pub old_codes : (links : List Link) (k : Link) (n : ℕ) → n ≤ length links
    → codes_in (links ++ k ∷ []) n ≡ codes_in links n
old_codes links k n within = search (rules, codes_more, old_chain, codes_long)

-- the new one is the link and the chain after it
pub new_codes : (links : List Link) (k : Link)
    → codes_in (links ++ k ∷ []) (suc (length links)) ≡ own (suc (length links)) k ∷ codes_in links k.rest
new_codes links k = search (rules, codes_more, codes_long, new_chain)

-- the link that is read at the place before a number
pub code_read : (links : List Link) (number : ℕ) (x : Link) → 0 < number → number ≤ length links
    → x ≡ get_or links (number - 1) x → item_of (codes_of links) number ≡ Some x.code
code_read links number x some within read =
    let at : get_or (codes_of links) (number - 1) (part x)
    ≡ part (get_or links (number - 1) x) = get_or-map part links (number - 1) x (part x)
    (omega arith) in
    item_read (codes_of links) number (part x) some (omega (arith, codes_long links))
    (sym (at ∙ ap part (sym read)))

-- the chain without links
pub none_number : (links : List Link) (chain code : ℕ) → chain ≡ 0 → 0 ≡ number_in (codes_in links chain) code
unfolding number_where
none_number links chain code none = rw (none, codes_none links) refl

-- ---- how codes are found, with one link more

-- none of the branches that are there changes
pub branches_stay : (branches : List ℕ) (more : ℕ) (from count code : ℕ) (chain : List (Numbered ℕ))
    → AreBranches branches from count code chain → AreBranches (branches ++ more ∷ []) from count code chain
branches_stay branches more from count code chain are = search (rules, length-append, get_or_append_left)

below_stay : (branches : List ℕ) (more : ℕ) (from count number : ℕ) → from + count ≤ length branches
    → AreBelow branches from count number → AreBelow (branches ++ more ∷ []) from count number
below_stay branches more from count number within are = search (rules, get_or_append_left)

pub found_stay : (branches : List ℕ) (more : ℕ) (links : List Link) → AreFound branches links
    → AreFound (branches ++ more ∷ []) links
found_stay branches more links are = grind (arith, common_steps, below_stay, branches_stay)

module _ (branches : List ℕ) (links : List Link) (k : Link) (are : AreFound branches links) where
  old_found : (n : ℕ) (x : Link) → n ≤ length links → IsFoundBy branches links n x
      → IsFoundBy branches (links ++ k ∷ []) n x
  old_found n x within is = search (rules, old_codes)

  module _ (short : k.run ≤ length links + 1)
      (run : IsRun (codes_in links k.rest) (k.run - 1) (k.code + 1) (length links))
      (below : AreBelow branches k.branches k.places (length links + 1))
      (is : AreBranches branches k.branches k.places k.code (codes_in links k.rest)) where
    later : (place : ℕ) → number_where (parts k.code place) (own (suc (length links)) k ∷ codes_in links k.rest)
        ≡ number_where (parts k.code place) (codes_in links k.rest)
    later place = search (rules, where_later, own, parts_self)

    new_found : IsFoundBy branches (links ++ k ∷ []) (suc (length links)) k
    new_found = search (rules, new_codes, where_first, own, run_more, later)

    pub found_more : AreFound branches (links ++ k ∷ [])
    found_more = λ n x within read. elim (cases_eq n (length links)) [
      | inl same ↦
          let x_is : x ≡ k = read ∙ get_or_at links k [] x n (sym same) in
          rw (x_is, same) new_found
      | inr other ↦
          let less : n < length links = omega (arith, length-append links (k ∷ [])) in
          old_found (suc n) x less (are n x less (read ∙ get_or_append_left links (k ∷ []) x n less))
    ]

-- ---- what is found

first_within : (number more bound : ℕ) (b : Bool) → number ≤ bound → more ≤ bound → cond b number more ≤ bound
first_within number more bound true here rest = here
first_within number more bound false here rest = rest

-- the number of a code is one of a link, or 0
first_number : (links : List Link) (chain : List (Numbered ℕ)) (code : ℕ) → AreNumbered (codes_of links) chain
    → number_in chain code ≤ length links
unfolding number_where
first_number links [] code are = omega arith
first_number links (n ∷ chain) code are =
    search (rules, first_within, item_within, codes_long, (first_number links chain code are.1))

pub number_within : (links : List Link) (chain code : ℕ) → number_in (codes_in links chain) code ≤ length links
number_within links chain code = search (rules, first_number, are_numbered)

-- a link more, if there was memory for it
pub found_either : (b : Bool) (branches : List ℕ) (old new : List Link) (k : Link)
    → new ≡ cond b (old ++ k ∷ []) old
    → AreFound branches old → AreFound branches (old ++ k ∷ []) → AreFound branches new
found_either true branches old new k is without with = rw is with
found_either false branches old new k is without with = rw is without

-- ---- how a search for a code goes on at a link

-- at a link that is read
module _ (branches : List ℕ) (links : List Link) (n : ℕ) (x : Link) (are : AreFound branches links) (some : 0 < n)
    (within : n ≤ length links) (read : x ≡ get_or links (n - 1) x) where
  pub is_found : IsFoundBy branches links n x
  is_found = search (rules)

  -- it has its own code
  pub first_passes : (p : ℕ → Bool) → p x.code ≡ true → number_where p (codes_in links n) ≡ n
  first_passes p is = is_found.first p is

  pub search_ends : (code : ℕ) → code ≡ x.code → n ≡ number_in (codes_in links n) code
  search_ends code same = search (rules, first_passes, eq-eqb)

  -- its branch at a place, by its distance or as it is kept
  module _ (place here : ℕ) (near_is : 2 ^ place < x.run → here ≡ n - 2 ^ place)
      (kept_is : x.run ≤ 2 ^ place → place < x.places → here ≡ get_or branches (x.branches + place) 0)
      (none_is : x.run ≤ 2 ^ place → x.places ≤ place → here ≡ 0) (fits : place < 64) where
    pub branch_is : here ≡ number_where (parts x.code place) (codes_in links n)
    branch_is = elim (cases_lt (2 ^ place) x.run) [
      | inl near ↦ near_is near ∙ run_branch (codes_in links n) x.run x.code n place is_found.run near
      | inr far ↦ elim (cases_lt place x.places) [
        | inl less ↦ kept_is far less ∙ is_found.codes.each place less
        | inr past ↦ none_is far past ∙ sym (is_found.codes.others place past fits)
      ]
    ]

    pub branch_below : here < n
    branch_below = search (rules, cases_lt, pow_pos, is_found)

    -- the search goes on there for a code that differs there and not below
    pub search_on : (code : ℕ) → parts x.code place code ≡ true
        → (here < n) × (number_in (codes_in links here) code ≡ number_in (codes_in links n) code)
    search_on code differs = search (rules, branch_below, branch_is, narrowed, eqb-true)

  -- a turn of a search
  pub turn : (code : ℕ) → x.code < 2 ^ 64 → code < 2 ^ 64 → (bit_xor x.code code ≡ 0 → ⊥) → (here : ℕ)
      → (2 ^ trailing_zeros w64 (bit_xor x.code code) < x.run
      → here ≡ n - 2 ^ trailing_zeros w64 (bit_xor x.code code))
      → (x.run ≤ 2 ^ trailing_zeros w64 (bit_xor x.code code) → trailing_zeros w64 (bit_xor x.code code) < x.places
      → here ≡ get_or branches (x.branches + trailing_zeros w64 (bit_xor x.code code)) 0)
      → (x.run ≤ 2 ^ trailing_zeros w64 (bit_xor x.code code) → x.places ≤ trailing_zeros w64 (bit_xor x.code code)
      → here ≡ 0)
      → (here < n) × (number_in (codes_in links here) code ≡ number_in (codes_in links n) code)
  turn code own_fits fits other here near_is kept_is none_is = search (rules, parts_lowest, search_on)

-- ---- the branches of a new link, as they are appended one after another

-- the branches below this place are appended, and the number is that of the first link whose code agrees there
pub record AreAppended (old branches : List ℕ) (links : List Link) (rest code place number : ℕ) : Type 0 where
  pub found : AreFound branches links
  pub within : number ≤ length links
  pub more : AreMore old branches
  pub long : length branches ≡ length old + place
  pub first : number ≡ number_where (agrees code place) (codes_in links rest)
  pub each : (i : ℕ) → i < place
      → get_or branches (length old + i) 0 ≡ number_where (parts code i) (codes_in links rest)
  pub below : AreBelow branches (length old) place (suc (length links))

-- every code agrees below the first place
agrees_none : (code other : ℕ) → agrees code 0 other ≡ true
unfolding agrees
agrees_none code other = refl

first_read : (branches : List ℕ) (links : List Link) (rest code : ℕ) → AreFound branches links
    → rest ≤ length links → 0 < rest → rest ≡ number_where (agrees code 0) (codes_in links rest)
first_read branches [] rest code are within some = absurd (omega arith)
first_read branches (y ∷ links) rest code are within some =
    let x = get_or (y ∷ links) (rest - 1) y in
    let read : x ≡ get_or (y ∷ links) (rest - 1) x = get_or_default (y ∷ links) (rest - 1) y x
    (omega (arith, within)) in
    sym (first_passes branches (y ∷ links) rest x are some within read (agrees code 0) (agrees_none code x.code))

pub none_where : (p : ℕ → Bool) (links : List Link) → number_where p (codes_in links 0) ≡ 0
unfolding number_where
none_where p links = rw (codes_none links) refl

first_of_all : (branches : List ℕ) (links : List Link) (rest code : ℕ) → AreFound branches links
    → rest ≤ length links → (rest ≡ 0) ⊎ (rest ≡ 0 → ⊥) → rest ≡ number_where (agrees code 0) (codes_in links rest)
first_of_all branches links rest code are within (inl none) = search (rules, none_where)
first_of_all branches links rest code are within (inr some) =
    first_read branches links rest code are within (omega arith)

-- before the first place
none_more : (branches : List ℕ) → AreMore branches branches
none_more branches = search rules

pub appended_none : (branches : List ℕ) (links : List Link) (rest code : ℕ) → AreFound branches links
    → rest ≤ length links → AreAppended branches branches links rest code 0 rest
appended_none branches links rest code are within = search (rules, none_more, first_of_all, cases_eq)

-- the branch at one place more
module _ (old branches : List ℕ) (links : List Link) (rest code place number new : ℕ)
    (are : AreAppended old branches links rest code place number) where
  more_kept : AreMore old (branches ++ new ∷ [])
  more_kept = search (rules, length-append, get_or_append_left)

  more_each : new ≡ number_where (parts code place) (codes_in links rest) → (i : ℕ) → i < place + 1
      → get_or (branches ++ new ∷ []) (length old + i) 0 ≡ number_where (parts code i) (codes_in links rest)
  more_each is i less = search (rules, cases_eq, get_or_at, get_or_append_left)

  more_below : new < suc (length links) → AreBelow (branches ++ new ∷ []) (length old) (place + 1) (suc (length links))
  more_below small i less = search (rules, cases_eq, get_or_at, get_or_append_left)

  pub one_more : (then : ℕ) → new ≡ number_where (parts code place) (codes_in links rest) → new < suc (length links)
      → then ≡ number_where (agrees code (suc place)) (codes_in links rest) → then ≤ length links
      → AreAppended old (branches ++ new ∷ []) links rest code (place + 1) then
  one_more then is small turn within =
      search (rules, common_steps, found_stay, length-append, more_kept, more_each, is, more_below, small)

-- at the first link whose code agrees below the place
module _ (old branches : List ℕ) (links : List Link) (rest code place number : ℕ) (x : Link)
    (are : AreAppended old branches links rest code place number) (some : 0 < number)
    (read : x ≡ get_or links (number - 1) x) where
  -- its code agrees
  agreeing : agrees code place x.code ≡ true
  agreeing = search (rules, where_passes, are_numbered, code_read)

  -- what is searched for in the chain from the link on
  from_there : (p : ℕ → Bool) → ((c : ℕ) → p c ≡ true → agrees code place c ≡ true)
      → number_where p (codes_in links number) ≡ number_where p (codes_in links rest)
  from_there p narrower = search (rules, narrowed)

  from_parts : number_where (parts code place) (codes_in links number)
      ≡ number_where (parts code place) (codes_in links rest)
  from_parts = search (rules, from_there, parts_later)

  from_agrees : number_where (agrees code (suc place)) (codes_in links number)
      ≡ number_where (agrees code (suc place)) (codes_in links rest)
  from_agrees = search (rules, from_there, agrees_less)

  -- it is the first one that passes what its code passes
  itself : (p : ℕ → Bool) → p x.code ≡ true → number ≡ number_where p (codes_in links number)
  itself p passes = search (rules, first_passes)

  -- if it agrees at all places, it is the code itself
  pub appended_same : place ≡ 64 → x.code < 2 ^ 64 → code < 2 ^ 64 → x.code ≡ code
  appended_same all lx lc = search (rules, agrees_all, agreeing)

  pub appended_twice : x.code ≡ code → number_in (codes_in links rest) code ≡ 0 → ⊥
  appended_twice same none =
      let there = from_there (λ c. c == code) (λ c e. agrees_same code place c (eqb-true c code e)) in
      let own = itself (λ c. c == code) (eq-eqb x.code code same) in
      omega arith

  module _ (here : ℕ) (near_is : 2 ^ place < x.run → here ≡ number - 2 ^ place)
      (kept_is : x.run ≤ 2 ^ place → place < x.places → here ≡ get_or branches (x.branches + place) 0)
      (none_is : x.run ≤ 2 ^ place → x.places ≤ place → here ≡ 0) (fits : place < 64) where
    here_is : here ≡ number_where (parts x.code place) (codes_in links number)
    here_is = search (rules, branch_is)

    here_within : here ≤ length links
    here_within = search (rules, branch_below)

    -- the new code's branch, and the link whose code agrees at the place too
    turned : (same : Bool) → same_bit code place x.code ≡ same
        → (cond same here number ≡ number_where (parts code place) (codes_in links rest))
        × (cond same number here ≡ number_where (agrees code (suc place)) (codes_in links rest))
    turned true e = search (rules, here_is, where_same, parts_as, agreeing, from_parts, itself, agrees_on, from_agrees)
    turned false e =
        search (rules, itself, parts_on, agreeing, from_parts, here_is, where_same, parts_turned, from_agrees)

    pub appended : (same : Bool) (new next : ℕ) → same ≡ same_bit code place x.code → new ≡ cond same here number
        → next ≡ cond same number here → AreAppended old (branches ++ new ∷ []) links rest code (place + 1) next
    appended same new next same_is new_is next_is =
        grind (arith, common_steps, turned, first_within, here_within, one_more)

-- no code agrees below a later place
pub appended_ends : (old branches : List ℕ) (links : List Link) (rest code place number : ℕ)
    → AreAppended old branches links rest code place number → number ≡ 0
    → AreBranches branches (length old) place code (codes_in links rest)
appended_ends old branches links rest code place number are none =
    let l = are.long in
    record {
      within = omega arith;
      each = are.each;
      others = λ later past fits.
          narrowed (parts code later) (agrees code place) (λ c e. parts_later code place later c past e)
          (codes_of links) rest
          ∙ (λ i. number_where (parts code later) (codes_in links ((sym are.first ∙ none) i)))
          ∙ none_where (parts code later) links;
    }

-- the code itself does not
pub appended_new : (old branches : List ℕ) (links : List Link) (rest code place number : ℕ)
    → AreAppended old branches links rest code place number → number ≡ 0 → number_in (codes_in links rest) code ≡ 0
appended_new old branches links rest code place number are none =
    narrowed (λ c. c == code) (agrees code place) (λ c e. agrees_same code place c (eqb-true c code e))
    (codes_of links) rest
    ∙ (λ i. number_in (codes_in links ((sym are.first ∙ none) i)) code)
    ∙ none_where (λ c. c == code) links

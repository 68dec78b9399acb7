-- Lists whose elements have different keys, and lists that are spelled element after element up to an end: one element
-- more, one less, and reading in a loop.
use Rattle.std.proofs.Common.{rules, ◌≡◌, ◌≢◌, ℕ, zero, suc, ◌<◌, eqb, List, [], ◌∷◌, length, get_or, Some, None, refl, sym, ◌∙◌, arith, find, eq-eqb, ne_eqb, ◌++◌, Option, Result, Ok, Err, ap, subst, append_assoc}
use Rattle.std.proofs.lemmas.List.Kept.{AllPairs-cons}
use Rattle.dw_forms.specs.Keys.{Apart, Lacks}
use Rattle.dw_forms.specs.Elements.{NextOf}
use Rattle.dw_forms.specs.Front.{Takes}
use Rattle.dw_forms.specs.ListFormats.{SpellsList, ReadsNext, list_from, list_of, list_again, list_format}
use Rattle.dw_forms.specs.Readers.{takes, joined}
use Rattle.dw_forms.specs.Stops.{FailsOrMemory, Stop}
use Rattle.dw_forms.specs.WithBytes.{ok_pair}
use Rattle.dw_forms.proofs.SizeLaws.{some_is, never_none}
use Rattle.dw_forms.specs.declared.fault.Stop.TheVariants as stops

-- ---- lists whose elements have different keys, and the first element with a key

module _ {X : Type 0} (key : X → ℕ) where
  pub apart_cons : (x : X) (xs : List X) → Lacks key (key x) xs → Apart key xs → Apart key (x ∷ xs)
  apart_cons x xs lacks apart = search (rules, AllPairs-cons)

  pub apart_first : (x : X) (xs : List X) → Apart key (x ∷ xs) → Lacks key (key x) xs
  apart_first x xs apart = λ k d lt same. apart 0 (suc k) d (omega arith) (omega arith) (sym same)

  pub apart_rest : (x : X) (xs : List X) → Apart key (x ∷ xs) → Apart key xs
  apart_rest x xs apart = λ i j d less long. apart (suc i) (suc j) d (omega arith) (omega arith)

  -- ---- the first with a key

  found_first : (n : ℕ) (x : X) (xs : List X) → key x ≡ n → find (λ y. eqb (key y) n) (x ∷ xs) ≡ Some x
  found_first n x xs e = rw (eq-eqb (key x) n e) refl

  found_later : (n : ℕ) (x : X) (xs : List X) → key x ≢ n
      → find (λ y. eqb (key y) n) (x ∷ xs) ≡ find (λ y. eqb (key y) n) xs
  found_later n x xs ne = rw (ne_eqb (key x) n ne) refl

  pub find_at : (n : ℕ) (xs : List X) (i : ℕ) (d : X) → Apart key xs → i < length xs → key (get_or xs i d) ≡ n
      → find (λ y. eqb (key y) n) xs ≡ Some (get_or xs i d)
  find_at n [] i d apart lt same = absurd (omega arith)
  find_at n (x ∷ xs) zero d apart lt same = found_first n x xs same
  find_at n (x ∷ xs) (suc i) d apart lt same =
      found_later n x xs (λ here. apart 0 (suc i) d (omega arith) lt (here ∙ sym same))
      ∙ find_at n xs i d (apart_rest x xs apart) (omega arith) same

  pub find_none : (n : ℕ) (xs : List X) → Lacks key n xs → find (λ y. eqb (key y) n) xs ≡ None
  find_none n [] lacks = refl
  find_none n (x ∷ xs) lacks =
      found_later n x xs (lacks 0 x (omega arith)) ∙ find_none n xs (λ k d lt. lacks (suc k) d (omega arith))

-- ---- lists that are spelled element after element up to an end, no key twice

-- the next element, or the end, is at the front of the bytes
pub taken : {X E : Type 0} {key : X → ℕ} {Spells : List ℕ → X → Type 0} {End : List ℕ → Type 0}
    {Fails : List X → List ℕ → E → Type 0} {next : List X → List ℕ → Result (Option X × List ℕ) E} {cut : E}
    → ReadsNext key Spells End Fails next cut → (bytes : List ℕ) (o : Option X) (rest : List ℕ)
    → next [] bytes ≡ Ok (o, rest) → Takes (NextOf key Spells End []) bytes o rest
taken {Fails = Fails} {next = next} h bytes o rest e = search (rules, takes)

module _ {X E : Type 0} {key : X → ℕ} {Spells : List ℕ → X → Type 0} {End : List ℕ → Type 0}
    {Fails : List X → List ℕ → E → Type 0} {next : List X → List ℕ → Result (Option X × List ℕ) E} {cut : E}
    (h : ReadsNext key Spells End Fails next cut) where
  abbrev Whole : List ℕ → List X → Type 0
  Whole = SpellsList key Spells End

  whole_at : (bytes : List ℕ) (xs : List X) (rest : List ℕ) → list_of next cut bytes ≡ Ok (xs, rest)
      → Takes Whole bytes xs rest
  whole_at = takes _ Whole _ (list_format h).is_reader

  pub list_more : (bytes after rest : List ℕ) (x : X) (xs : List X) → next [] bytes ≡ Ok (Some x, after)
      → list_of next cut after ≡ Ok (xs, rest) → Lacks key (key x) xs → list_of next cut bytes ≡ Ok (x ∷ xs, rest)
  list_more bytes after rest x xs e is lacks =
      let t = taken h bytes (Some x) after e in
      let u = whole_at after xs rest is in
      ap (list_of next cut) (joined t.text u.text rest bytes after t.parts u.parts)
      ∙ list_again h (t.text ++ u.text) rest (x ∷ xs) (record {
        spelled = (t.text, u.text, refl, t.spelled.0, u.spelled.spelled);
        distinct = apart_cons key x xs lacks u.spelled.distinct;
      })

  -- the list of an element is the element with the list after it
  pub record IsLess (x : X) (after rest : List ℕ) (all : List X) : Type 0 where
    pub items : List X
    pub parts : all ≡ x ∷ items
    pub lacks : Lacks key (key x) items
    pub list : list_of next cut after ≡ Ok (items, rest)

  less_by : (bytes after rest : List ℕ) (x : X) (all : List X) (text : List ℕ) → next [] bytes ≡ Ok (Some x, after)
      → bytes ≡ text ++ rest → Whole text all → IsLess x after rest all
  less_by bytes after rest x [] text e parts u =
      absurd (never_none
      (ok_pair _ _ _ _ (sym ((h.is_reader []).again text rest None u.spelled) ∙ sym (ap (next []) parts) ∙ e)).0)
  less_by bytes after rest x (y ∷ ys) text e parts u =
      let p = u.spelled in
      let regrouped : text ++ rest ≡ p.0 ++ (p.1 ++ rest) = (λ i. p.2 i ++ rest)
      ∙ append_assoc p.0 p.1 rest in
      let first = (h.is_reader []).again p.0 (p.1 ++ rest) (Some y) (p.3, λ k z lt. absurd (omega arith)) in
      let same = ok_pair _ _ _ _ (sym first ∙ ap (next []) (sym (parts ∙ regrouped)) ∙ e) in
      let is : y ≡ x = some_is same.0 in
      record {
        items = ys;
        parts = (λ i. is i ∷ ys);
        lacks = subst (λ (z : X). Lacks key (key z) ys) is (apart_first key y ys u.distinct);
        list =
            ap (list_of next cut) (sym same.1)
            ∙ list_again h p.1 rest ys (record { spelled = p.4; distinct = apart_rest key y ys u.distinct });
      }

  pub list_less : (bytes after rest : List ℕ) (x : X) (all : List X) → next [] bytes ≡ Ok (Some x, after)
      → list_of next cut bytes ≡ Ok (all, rest) → IsLess x after rest all
  list_less bytes after rest x all e is =
      let u = whole_at bytes all rest is in
      less_by bytes after rest x all u.text e u.parts u.spelled

  -- no list begins there
  abbrev pub NoList : List ℕ → Type 0
  NoList bytes = (xs : List X) (rest : List ℕ) → list_of next cut bytes ≡ Ok (xs, rest) → ⊥

  -- where no list begins after an element, none begins with it
  pub none_before : (bytes after : List ℕ) (x : X) → next [] bytes ≡ Ok (Some x, after) → NoList after → NoList bytes
  none_before bytes after x e none =
      λ all rest is. let l = list_less bytes after rest x all e is in none l.items rest l.list

  -- where the key is in the list after an element, no list begins with it
  pub none_twice : (bytes after rest : List ℕ) (x : X) (xs : List X) → next [] bytes ≡ Ok (Some x, after)
      → list_of next cut after ≡ Ok (xs, rest) → (Lacks key (key x) xs → ⊥) → NoList bytes
  none_twice bytes after rest x xs e is twice =
      λ all end whole. let l = list_less bytes after end x all e whole in
      twice (subst (Lacks key (key x)) (ok_pair _ _ _ _ (sym l.list ∙ is)).0 l.lacks)

module _ {X E : Type 0} (next : List X → List ℕ → Result (Option X × List ℕ) E) (cut : E) where
  -- at the end the list is empty
  pub list_end : (bytes after : List ℕ) → next [] bytes ≡ Ok (None, after) → list_of next cut bytes ≡ Ok ([], after)
  unfolding list_from
  list_end bytes after e = rw e refl

  list_fault : (bytes : List ℕ) (fault : E) → next [] bytes ≡ Err fault → list_of next cut bytes ≡ Err fault
  unfolding list_from
  list_fault bytes fault e = rw e refl

  -- where the first element is broken, no list begins
  pub none_broken : (bytes : List ℕ) (fault : E) → next [] bytes ≡ Err fault → (xs : List X) (rest : List ℕ)
      → list_of next cut bytes ≡ Ok (xs, rest) → ⊥
  none_broken bytes fault e xs rest is = search (rules, list_fault)

  -- ---- reading in a loop

  -- reading the rest, after the earlier elements, gives the total
  abbrev pub ReadsOn : List X → List ℕ → Result (List X × List ℕ) E → Type 0
  ReadsOn earlier rest total = (bound : ℕ) × (length rest < bound) × (list_from next cut bound earlier rest ≡ total)

  pub goes_to_end : (earlier : List X) (rest after : List ℕ) (total : Result (List X × List ℕ) E)
      → ReadsOn earlier rest total → next earlier rest ≡ Ok (None, after) → total ≡ Ok (earlier, after)
  unfolding list_from
  goes_to_end earlier rest after total (zero, lt, same) e = absurd (omega arith)
  goes_to_end earlier rest after total (suc bound, lt, same) e = sym same ∙ rw e refl

  pub goes_further : (earlier : List X) (rest after : List ℕ) (x : X) (total : Result (List X × List ℕ) E)
      → ReadsOn earlier rest total → next earlier rest ≡ Ok (Some x, after) → length after < length rest
      → ReadsOn (earlier ++ x ∷ []) after total
  unfolding list_from
  goes_further earlier rest after x total (zero, lt, same) e shorter = absurd (omega arith)
  goes_further earlier rest after x total (suc bound, lt, same) e shorter = search rules

  pub goes_wrong : (error : Stop E) (earlier : List X) (rest : List ℕ) (total : Result (List X × List ℕ) E)
      → ReadsOn earlier rest total → FailsOrMemory error (next earlier rest) → FailsOrMemory error total
  unfolding list_from
  goes_wrong stops.Memory earlier rest total go e = tt
  goes_wrong (stops.Fault fault) earlier rest total (zero, lt, same) e = absurd (omega arith)
  goes_wrong (stops.Fault fault) earlier rest total (suc bound, lt, same) e = sym same ∙ rw e refl

-- A range list, one entry after another.
use Rattle.std.proofs.Common.{◌≡◌, ℕ, zero, suc, ◌-◌, ◌<◌, List, [], ◌∷◌, ◌++◌, length, drop, Option, Some}
use Rattle.std.proofs.Common.{Result, Ok, Err, refl, sym, ap, ◌∙◌, append_assoc, arith, Bool, true}
use Rattle.std.specs.Prelude.{nat_lt}
use Rattle.std.proofs.lemmas.Bool.Decides.{nat_tests}
use Rattle.std.proofs.lemmas.List.{append-nil, length-drop, length-append, drop_at}
use Rattle.dw_forms.specs.Formats.{Format, choose, failing}
use Rattle.dw_forms.specs.Front.{BeginsWith}
use Rattle.dw_forms.specs.Readers.{takes, read_is, not_both, reader_begins}
use Rattle.dw_forms.specs.Steps.{◌>>=◌}
use Rattle.dw_ranges.specs.RangeLists.{meant, ranges_from, range_list, list_after}
use Rattle.dw_ranges.specs.declared.addresses.UnitAddresses.{UnitAddresses}
use Rattle.dw_ranges.specs.declared.fault.ListFault.{ListFault}
use Rattle.dw_ranges.specs.declared.list.Meaning.TheVariants.{End, Base, Bounded}
use Rattle.dw_ranges.specs.declared.range.Range.{Range}
use Rattle.dw_ranges.specs.declared.rule.RangeRule.{RangeRule}
use Rattle.dw_ranges.specs.declared.rule.RangeRule.TheVariants.{NoList}

-- the items are the old ones and some more
abbrev pub Extends : List Range → List Range → Type 0
Extends old items = (more : List Range) × (items ≡ old ++ more)

pub extends_more : (old items : List Range) (r : Range) → Extends old items → Extends old (items ++ r ∷ [])
extends_more old items r (more, e) =
    (more ++ r ∷ [], ap (λ (xs : List Range). xs ++ r ∷ []) e ∙ append_assoc old more (r ∷ []))

-- what is read, after earlier ranges, and the offset after it
abbrev pub finish : List ℕ → List Range → Result (List Range × List ℕ) ListFault → Result (List Range × ℕ) ListFault
finish section items r = r >>= λ x. Ok (items ++ x.0, length section - length x.1)

module _ (unit : UnitAddresses) (section : List ℕ) where
  finish_more : (items : List Range) (r : Range) (x : Result (List Range × List ℕ) ListFault)
      → finish section items (x >>= λ y. Ok (r ∷ y.0, y.1)) ≡ finish section (items ++ r ∷ []) x
  finish_more items r (Ok y) =
      ap (λ (all : List Range). let z : Result (List Range × ℕ) ListFault = Ok (all, length section - length y.1) in z)
      (sym (append_assoc items (r ∷ []) y.0))
  finish_more items r (Err e) = refl

  -- the total is what the entries from here on make, after the ranges so far
  abbrev pub GoesOn : List Range → Option ℕ → List ℕ → Result (List Range × ℕ) ListFault → Type 0
  GoesOn items base rest total =
      (bound : ℕ) × (length rest < bound)
      × (total ≡ finish section items ((ranges_from unit (length section) bound base).read rest))

  within_is : (offset : ℕ) → offset < length section → nat_lt offset (length section) ≡ true
  within_is offset within = grind (arith, nat_tests)

  -- the first entry is at the offset
  list_is : (offset : ℕ) → offset < length section
      → range_list unit (length section) offset ≡ ranges_from unit (length section) (suc (length section)) unit.base
  list_is offset within =
      ap (λ (b : Bool). choose b (ranges_from unit (length section) (suc (length section)) unit.base)
      (failing (record { rule = NoList; at = offset }))) (within_is offset within)

  pub begins : (items : List Range) (offset : ℕ) → offset < length section
      → GoesOn items unit.base (drop offset section) (list_after items unit section offset)
  begins items offset within = (
    suc (length section),
    omega (arith, length-drop offset section),
    ap (λ (f : Format (List Range) ListFault). finish section items (f.read (drop offset section)))
        (list_is offset within),
  )

  pub ends : (items : List Range) (base : Option ℕ) (rest after : List ℕ) (total : Result (List Range × ℕ) ListFault)
      → GoesOn items base rest total → (meant unit base).read rest ≡ Ok (End, after)
      → total ≡ Ok (items, length section - length after)
  unfolding ranges_from
  ends items base rest after total (zero, lt, same) e = absurd (omega arith)
  ends items base rest after total (suc bound, lt, same) e = same ∙ rw (e, append-nil items) refl

  pub rebased : (items : List Range) (base : Option ℕ) (rest after : List ℕ) (address : ℕ)
      (total : Result (List Range × ℕ) ListFault) → GoesOn items base rest total
      → (meant unit base).read rest ≡ Ok (Base address, after) → length after < length rest
      → GoesOn items (Some address) after total
  unfolding ranges_from
  rebased items base rest after address total (zero, lt, same) e shorter = absurd (omega arith)
  rebased items base rest after address total (suc bound, lt, same) e shorter = (bound, omega arith, same ∙ rw e refl)

  pub appended : (items : List Range) (base : Option ℕ) (rest after : List ℕ) (r : Range)
      (total : Result (List Range × ℕ) ListFault) → GoesOn items base rest total
      → (meant unit base).read rest ≡ Ok (Bounded r, after) → length after < length rest
      → GoesOn (items ++ r ∷ []) base after total
  unfolding ranges_from
  appended items base rest after r total (zero, lt, same) e shorter = absurd (omega arith)
  appended items base rest after r total (suc bound, lt, same) e shorter =
      let others = (ranges_from unit (length section) bound base).read after in
      (bound, omega arith, same ∙ rw e (finish_more items r others))

  pub fails : (items : List Range) (base : Option ℕ) (rest : List ℕ) (rule : RangeRule)
      (total : Result (List Range × ℕ) ListFault) → GoesOn items base rest total
      → (meant unit base).read rest ≡ Err rule
      → total ≡ Err (record { rule = rule; at = length section - length rest })
  unfolding ranges_from
  fails items base rest rule total (zero, lt, same) e = absurd (omega arith)
  fails items base rest rule total (suc bound, lt, same) e = same ∙ rw e refl

-- reading that gives ranges after earlier ones gives those that are at the front of the bytes
module _ (f : Format (List Range) ListFault) (section : List ℕ) (offset : ℕ) (old items : List Range) (end : ℕ) where
  abbrev Found : Type 0
  Found = BeginsWith f.Spells (drop offset section) (drop (length old) items) (end - offset)

  go : (r : Result (List Range × List ℕ) ListFault) → f.read (drop offset section) ≡ r → finish section old r
      ≡ Ok (items, end) → Found
  go (Ok x) is e =
      let same = read_is e in
      let t = takes f.read f.Spells f.Fails f.is_reader (drop offset section) x.0 x.1 is in
      let list : drop (length old) items ≡ x.0 =
      ap (λ (p : List Range × ℕ). drop (length old) p.0) (sym same) ∙ drop_at old x.0 (length old) refl in
      let after : end - offset ≡ length (drop offset section) - length x.1 = omega (
        arith,
        ap (λ (p : List Range × ℕ). p.1) same,
        length-drop offset section,
        ap length t.parts,
        length-append t.text x.1,
      ) in
      rw (list, after) (reader_begins f.read f.Spells f.Fails f.is_reader (drop offset section) x.0 x.1 is)
  go (Err d) is e = absurd (not_both e)

  pub found : finish section old (f.read (drop offset section)) ≡ Ok (items, end) → Found
  found e = go (f.read (drop offset section)) refl e

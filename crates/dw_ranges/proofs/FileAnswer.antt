-- A file has one list of functions of its units, or faults.
use Rattle.std.proofs.Common.{◌≡◌, ℕ, zero, suc, ◌<◌, ◌≤◌, List, length, refl, sym, ap, ◌∙◌, subst, arith, inl, inr}
use Rattle.std.specs.Prelude.{Option, Some, None}
use Rattle.std.proofs.lemmas.Bool.{cases_lt, cases_order}
use Rattle.std.proofs.lemmas.List.{get_or_default, same_lists}
use Rattle.dw_entries.specs.declared.entries.Entries.{Entries}
use Rattle.dw_ranges.specs.Files.{AreFunctionsAt, AreUnits, FileViolates, HasFile, known_at, no_known, totals_before}
use Rattle.dw_ranges.specs.Functions.{HasFunctions, Known, Violates}
use Rattle.dw_ranges.specs.declared.bounds.RangeSections.{RangeSections}
use Rattle.dw_ranges.specs.declared.fault.RangeFault.{RangeFault}
use Rattle.dw_ranges.specs.declared.file.FileFunctions.{FileFunctions}
use Rattle.dw_ranges.specs.declared.range.Range.{Range}
use Rattle.dw_ranges.specs.declared.totals.Totals.{Totals}
use Rattle.dw_ranges.proofs.UnitAnswer.{unit_fault_same, unit_functions_or_fault, unit_functions_same}

module _ (sections : RangeSections) (code : List Range) (entries : Entries) (budget : ℕ) where
  abbrev T : List Known → ℕ → Totals
  T = totals_before sections code entries budget

  module _ (xs ys : List Known) (are : AreUnits sections code entries budget xs)
      (others : AreUnits sections code entries budget ys) where
    abbrev SameBelow : ℕ → Type 0
    SameBelow n = (m : ℕ) → m < n → known_at xs m ≡ known_at ys m

    totals_same : (n : ℕ) → SameBelow n → T xs n ≡ T ys n
    totals_same zero same = refl
    totals_same (suc n) same = ap (λ (k : Known). k.totals) (same n (omega arith))

    units_same : (n : ℕ) → n ≤ length xs → n ≤ length ys → SameBelow n
    units_same zero le le2 m lt = absurd (omega (arith, lt))
    units_same (suc n) le le2 m lt = elim (cases_lt m n) [
      | inl less ↦ units_same n (omega arith) (omega arith) m less
      | inr more ↦
          let at : n ≡ m = omega arith in
          let before = totals_same n (units_same n (omega arith) (omega arith)) in
          let here : known_at xs n ≡ known_at ys n =
          unit_functions_same sections code entries n (T ys n) (known_at xs n) (known_at ys n)
          (subst (λ (t : Totals). HasFunctions sections code entries n t (known_at xs n)) before
          (are n (omega arith)))
          (others n (omega arith)) in
          subst (λ (k : ℕ). known_at xs k ≡ known_at ys k) at here
    ]

  pub file_or_fault : (file : FileFunctions) (f : RangeFault) → HasFile sections code entries budget file
      → FileViolates sections code entries budget f → ⊥
  file_or_fault file f p q =
      let n = length q.units in
      let within : n < length p.units = omega (arith, q.some, p.all) in
      let before =
      totals_same p.units q.units p.each q.each n
      (units_same p.units q.units p.each q.each n (omega arith) (omega arith))
      in
      unit_functions_or_fault sections code entries n (T q.units n) (known_at p.units n) f
      (subst (λ (t : Totals). HasFunctions sections code entries n t (known_at p.units n)) before (p.each n within))
      q.is

  -- a file has one list of units
  pub units_one : (file other : FileFunctions) (p : HasFile sections code entries budget file)
      (q : HasFile sections code entries budget other) → p.units ≡ q.units
  units_one file other p q =
      let n = length p.units in
      let long : n ≡ length q.units = p.all ∙ sym q.all in
      same_lists p.units q.units long (λ k d lt.
      get_or_default p.units k d no_known lt
      ∙ units_same p.units q.units p.each q.each n (omega arith) (omega (arith, long)) k lt
      ∙ get_or_default q.units k no_known d (omega (arith, long, lt)))

  pub totals_one : (file other : FileFunctions) → HasFile sections code entries budget file
      → HasFile sections code entries budget other → file.totals ≡ other.totals
  totals_one file other p q =
      p.totals ∙ ap (λ (units : List Known). T units (length units)) (units_one file other p q) ∙ sym q.totals

  -- the first fault is at one unit
  not_later : (f g : RangeFault) (p : FileViolates sections code entries budget f)
      (q : FileViolates sections code entries budget g) → length p.units < length q.units → ⊥
  not_later f g p q lt =
      let n = length p.units in
      let before =
      totals_same p.units q.units p.each q.each n
      (units_same p.units q.units p.each q.each n (omega arith) (omega arith))
      in
      unit_functions_or_fault sections code entries n (T q.units n) (known_at q.units n) f (q.each n lt)
      (subst (λ (t : Totals). Violates sections code entries n t f) before p.is)

  pub file_fault_same : (f g : RangeFault) → FileViolates sections code entries budget f
      → FileViolates sections code entries budget g → f ≡ g
  file_fault_same f g p q = elim (cases_order (length p.units) (length q.units)) [
    | inl long ↦
        let n = length p.units in
        let before =
        totals_same p.units q.units p.each q.each n
        (units_same p.units q.units p.each q.each n (omega arith) (omega (arith, long))) in
        unit_fault_same sections code entries n (T q.units n) f g
        (subst (λ (t : Totals). Violates sections code entries n t f) before p.is)
        (subst (λ (m : ℕ). Violates sections code entries m (T q.units m) g) (sym long) q.is)
    | inr other ↦ elim other [
      | inl lt ↦ absurd (not_later f g p q lt)
      | inr gt ↦ absurd (not_later g f q p gt)
    ]
  ]

-- an address is of one unit
pub unit_one : (units : List Known) (a : ℕ) (unit other : Option ℕ) (fs gs : List ℕ) → AreFunctionsAt units a unit fs
    → AreFunctionsAt units a other gs → unit ≡ other
unit_one units a None None fs gs p q = refl
unit_one units a None (Some n) fs gs p q = absurd (p.0 n q.0.0)
unit_one units a (Some m) None fs gs p q = absurd (q.0 m p.0.0)
unit_one units a (Some m) (Some n) fs gs p q =
    let low = p.0.1 n q.0.0 in
    let high = q.0.1 m p.0.0 in
    let same : m ≡ n = omega (arith, low, high) in ap (λ (k : ℕ). Some k) same

-- A unit has one list of functions, or faults.
use Rattle.std.proofs.Common.{◌≡◌, ℕ, List, get_or, ap, ◌∙◌, subst, inl, inr, sym}
use Rattle.std.specs.Prelude.{AllPairs, IsPermutation}
use Rattle.dw_entries.specs.declared.entries.Entries.{Entries}
use Rattle.dw_entries.specs.ByNumber.{end_in, entry_of, Entry}
use Rattle.dw_entries.specs.Views.{all_entries, all_units}
use Rattle.dw_ranges.specs.EntryRanges.{entry_ranges, head_in}
use Rattle.dw_ranges.specs.Functions.{AreInOrder, HasFunctions, HasMeeting, IsViolated, Known, Violates, meeting}
use Rattle.dw_ranges.specs.Spans.{Agree, IsFirstMeeting}
use Rattle.dw_ranges.specs.declared.addresses.UnitAddresses.{UnitAddresses}
use Rattle.dw_ranges.specs.declared.bounds.RangeSections.{RangeSections}
use Rattle.dw_ranges.specs.declared.fault.RangeFault.{RangeFault}
use Rattle.dw_ranges.specs.declared.range.Range.{Range}
use Rattle.dw_ranges.specs.declared.spans.Span.{Span}
use Rattle.dw_ranges.specs.declared.totals.Totals.{Totals}
use Rattle.dw_ranges.proofs.OneAnswer.{broken_same, fault_same, functions_or_broken, functions_same, started_or_fails}
use Rattle.dw_ranges.proofs.SameUnit.{same_unit}
use Rattle.dw_ranges.proofs.SpanLemmas.{no_span}
use Rattle.dw_ranges.proofs.SpanOrder.{first_same, ordered_same, sorted_same}

module _ (sections : RangeSections) (u v : UnitAddresses) (code : List Range)
    (same : (e : Entry) → entry_ranges sections u e ≡ entry_ranges sections v e) (first : ℕ) (entries : List Entry)
    (end : ℕ) (before : Totals) where
  in_order_same : (x y : Known) → AreInOrder sections u code first entries end before x
      → AreInOrder sections v code first entries end before y → x ≡ y
  in_order_same x y p q =
      let a : Known = record { scopes = x.scopes; spans = p.spans; totals = x.totals } in
      let b : Known = record { scopes = y.scopes; spans = q.spans; totals = y.totals } in
      let one : a ≡ b = functions_same sections u v code same first entries end before a b p.are q.are in
      let scopes : x.scopes ≡ y.scopes = ap (λ (k : Known). k.scopes) one in
      let totals : x.totals ≡ y.totals = ap (λ (k : Known). k.totals) one in
      let before_sort : p.spans ≡ q.spans = ap (λ (k : Known). k.spans) one in
      let spans : x.spans ≡ y.spans =
      ordered_same q.spans x.spans y.spans (subst (λ (l : List Span). IsPermutation l x.spans) before_sort p.same)
      q.same p.ordered q.ordered in
      λ i. record { scopes = scopes i; spans = spans i; totals = totals i }

  in_order_or_violated : (x : Known) (f : RangeFault) → AreInOrder sections u code first entries end before x
      → IsViolated sections v code first entries end before f → ⊥
  in_order_or_violated x f p (inl q) =
      started_or_fails sections u v code same first entries end before p.are.start f p.are.starts q
  in_order_or_violated x f p (inr (inl q)) =
      functions_or_broken sections u v code same first entries end before
      (record { scopes = x.scopes; spans = p.spans; totals = x.totals }) f p.are q
  in_order_or_violated x f p (inr (inr q)) =
      let a : Known = record { scopes = x.scopes; spans = p.spans; totals = x.totals } in
      let one = functions_same sections u v code same first entries end before a q.known p.are q.are in
      q.is.disagree (subst (AllPairs Agree) (ap (λ (k : Known). k.spans) one) p.agree)

  meeting_same : (f g : RangeFault) → HasMeeting sections u code first entries end before f
      → HasMeeting sections v code first entries end before g → f ≡ g
  meeting_same f g p q =
      let one = functions_same sections u v code same first entries end before p.known q.known p.are q.are in
      let ordered = sorted_same q.known.spans p.ordered q.ordered
      (subst (λ (l : List Span). IsPermutation l p.ordered) (ap (λ (k : Known). k.spans) one) p.same) q.same
      p.is.sorted q.is.sorted in
      let number = first_same q.ordered p.is.number q.is.number
      (subst (λ (l : List Span). IsFirstMeeting l p.is.number) ordered p.is.first) q.is.first in
      p.is.is no_span
      ∙ (λ i. record {
        rule = meeting (get_or (ordered i) (number i) no_span).group;
        at = (entry_of entries (get_or (ordered i) (number i) no_span).function).at;
      }) ∙ sym (q.is.is no_span)

module _ (sections : RangeSections) (u v : UnitAddresses) (code : List Range)
    (same : (e : Entry) → entry_ranges sections u e ≡ entry_ranges sections v e) (first : ℕ) (entries : List Entry)
    (end : ℕ) (before : Totals) where
  back : (e : Entry) → entry_ranges sections v e ≡ entry_ranges sections u e
  back e = sym (same e)

  violated_same : (f g : RangeFault) → IsViolated sections u code first entries end before f
      → IsViolated sections v code first entries end before g → f ≡ g
  violated_same f g (inl p) (inl q) =
      fault_same sections u v code same (entry_of entries first) before.left f g p q
  violated_same f g (inl p) (inr (inl q)) =
      absurd (started_or_fails sections v u code back first entries end before q.start f q.starts p)
  violated_same f g (inl p) (inr (inr q)) =
      absurd (started_or_fails sections v u code back first entries end before q.are.start f q.are.starts p)
  violated_same f g (inr (inl p)) (inl q) =
      absurd (started_or_fails sections u v code same first entries end before p.start g p.starts q)
  violated_same f g (inr (inl p)) (inr (inl q)) = broken_same sections u v code same first entries end before f g p q
  violated_same f g (inr (inl p)) (inr (inr q)) =
      absurd (functions_or_broken sections v u code back first entries end before q.known f q.are p)
  violated_same f g (inr (inr p)) (inl q) =
      absurd (started_or_fails sections u v code same first entries end before p.are.start g p.are.starts q)
  violated_same f g (inr (inr p)) (inr (inl q)) =
      absurd (functions_or_broken sections u v code same first entries end before p.known g p.are q)
  violated_same f g (inr (inr p)) (inr (inr q)) = meeting_same sections u v code same first entries end before f g p q

module _ (sections : RangeSections) (code : List Range) (entries : Entries) (number : ℕ) (before : Totals) where
  pub unit_functions_same : (x y : Known) → HasFunctions sections code entries number before x
      → HasFunctions sections code entries number before y → x ≡ y
  unit_functions_same x y p q =
      in_order_same sections p.unit q.unit code
      (same_unit entries number p.unit q.unit p.addresses q.addresses sections) (head_in entries number).first
      (all_entries entries) (end_in (all_units entries) number) before x y p.are q.are

  pub unit_functions_or_fault : (x : Known) (f : RangeFault) → HasFunctions sections code entries number before x
      → Violates sections code entries number before f → ⊥
  unit_functions_or_fault x f p q =
      in_order_or_violated sections p.unit q.unit code
      (same_unit entries number p.unit q.unit p.addresses q.addresses sections) (head_in entries number).first
      (all_entries entries) (end_in (all_units entries) number) before x f p.are q.is

  pub unit_fault_same : (f g : RangeFault) → Violates sections code entries number before f
      → Violates sections code entries number before g → f ≡ g
  unit_fault_same f g p q =
      violated_same sections p.unit q.unit code
      (same_unit entries number p.unit q.unit p.addresses q.addresses sections) (head_in entries number).first
      (all_entries entries) (end_in (all_units entries) number) before f g p.is q.is

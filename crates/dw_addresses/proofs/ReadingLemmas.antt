-- The programs that units name, of which the first in order are kept.
use Rattle.std.proofs.Common.{◌≡◌, ◌≢◌, ℕ, ◌+◌, ◌-◌, ◌<◌, ◌≤◌, ◌⊎◌, List, length, get_or, Option, Some, None}
use Rattle.std.proofs.Common.{refl, sym, ap, ◌∙◌, subst, arith, inl, inr}
use Rattle.std.specs.List.{AllAdjacentBelow}
use Rattle.std.specs.Prelude.{option_and_then, slice_get}
use Rattle.std.proofs.lemmas.Bool.{cases_lt, cases_order}
use Rattle.std.proofs.lemmas.List.{get_or_default}
use Rattle.dw_forms.specs.declared.fault.Stop.{Stop}
use Rattle.dw_forms.specs.Stops.{IfFault}
use Rattle.dw_forms.specs.declared.fault.Stop.TheVariants.{Fault, Memory}
use Rattle.dw_entries.specs.declared.entries.Entries.{Entries}
use Rattle.dw_entries.proofs.Firsts.{same_some}
use Rattle.dw_entries.specs.Views.{units_of}
use Rattle.dw_lines.specs.Programs.{program_end}
use Rattle.dw_lines.specs.declared.rule.LineFault.{LineFault}
use Rattle.dw_lines.specs.declared.program.Program.{Program}
use Rattle.dw_lines.specs.declared.program.LineSections.{LineSections}
use Rattle.dw_ranges.specs.EntryRanges.{head_in}
use Rattle.dw_addresses.specs.LinePrograms.{Fails, Holds, IsApart, IsValid, Names, ProgramsFail, offset_named}
use Rattle.dw_addresses.specs.Lines.{HasPrograms, IsProgramOf, program_of}
use Rattle.dw_addresses.specs.Reading.{AllNamed, AreKept, IsAfter, IsKept, IsNext, IsRead, IsUpTo, NextFails}
use Rattle.dw_addresses.specs.declared.lines.FileLines.{FileLines}
use Rattle.dw_addresses.specs.declared.named.Named.{Named}
use Rattle.dw_addresses.specs.declared.programs.Last.{Last}
use Rattle.dw_addresses.proofs.NamedLemmas.{all_up_to, offsets_rise}

-- what a fault is, by what else it is
pub fault_then : {F : Type 0} {P Q : F → Type 0} (stop : Stop F) → IfFault P stop → ((f : F) → P f → Q f)
    → IfFault Q stop
fault_then Memory p then = tt
fault_then (Fault f) p then = then f p

some_or_none : (o : Option ℕ) (at : ℕ) → o ≡ Some at → o ≡ None → ⊥
some_or_none o at p q = cc

-- a unit names one program, by one size of an address
names_one : (entries : Entries) (u a s b t : ℕ) → Names entries u a s → Names entries u b t → (a ≡ b) × (s ≡ t)
names_one entries u a s b t p q =
    (same_some (offset_named entries u) a b p.offset q.offset, sym p.sized ∙ q.sized)

module _ (sections : LineSections) (code : List (ℕ × ℕ)) (entries : Entries) (named : List Named)
    (all : AllNamed entries (length (units_of entries)) named)
    (sorted : AllAdjacentBelow IsUpTo named (length named)) where
  -- where a program that a unit names is in order
  place : (u a s : ℕ) (d : Named) → Names entries u a s → (k : ℕ) × (k < length named)
      × (get_or named k d ≡ record { at = a; size = s; unit = u })
  place u a s d n =
      let r : Named = record { at = a; size = s; unit = u } in
      let c = all.every r n.within n in
      (c.0, c.1, get_or_default named c.0 d r c.1 ∙ c.2)

  -- the programs before one in order, which end before it, are all that start before it
  apart_at : (j : ℕ) (d : Named) → j < length named
      → ((i : ℕ) → i < j → (get_or named i d).at < (get_or named j d).at
      → program_end sections (get_or named i d).at ≤ (get_or named j d).at)
      → IsApart sections entries (get_or named j d).at
  apart_at j d in' ends unit other size n less =
      let c = place unit other size d n in
      let at : (get_or named c.0 d).at ≡ other = ap (λ (x : Named). x.at) c.2 in
      elim (cases_lt c.0 j) [
        | inl lt ↦
            subst (λ (x : ℕ). program_end sections x ≤ (get_or named j d).at) at
            (ends c.0 lt (subst (λ (x : ℕ). x < (get_or named j d).at) (sym at) less))
        | inr ge ↦ absurd (omega (arith, offsets_rise named sorted j c.0 d ge c.1, at, less))
      ]

  module _ (k : ℕ) (lines : FileLines) (last : Last) (kept : AreKept sections code entries named k lines last) where
    -- each that is kept is apart from the others
    kept_apart : (j : ℕ) (d : Named) → j < k → k ≤ length named → IsApart sections entries (get_or named j d).at
    kept_apart j d lt le =
        apart_at j d (omega arith) (λ i li less. kept.apart i j d (omega arith) lt less)

    -- each that is kept violates no rule
    kept_holds : (u a s j : ℕ) (d : Named) → j < k → k ≤ length named
        → get_or named j d ≡ record { at = a; size = s; unit = u } → (p : Program) × Holds sections entries a s p
    kept_holds u a s j d lt le is =
        let c = kept.kept j d lt in
        let at : (get_or named j d).at ≡ a = ap (λ (x : Named). x.at) is in
        let size : (get_or named j d).size ≡ s = ap (λ (x : Named). x.size) is in (
          c.0.program,
          record {
            apart = subst (IsApart sections entries) at (kept_apart j d lt le);
            valid = subst (λ (x : ℕ). IsValid sections x s c.0.program) at
                (subst (λ (x : ℕ). IsValid sections (get_or named j d).at x c.0.program) size c.2.valid);
          },
        )

    -- all are kept
    pub all_kept : k ≡ length named → HasPrograms sections code entries lines
    all_kept whole = record {
      count = kept.long;
      each = λ unit within. each_of unit within (offset_named entries unit) refl;
    } where
      each_of : (unit : ℕ) → unit < length (units_of entries) → (o : Option ℕ) → offset_named entries unit ≡ o
          → IsProgramOf sections code entries unit (program_of lines unit)
      each_of unit within None e =
          subst (IsProgramOf sections code entries unit)
          (sym (ap (option_and_then (slice_get lines.programs.items)) (kept.none unit e))) e
      each_of unit within (Some at) e =
          let s = (head_in entries unit).header.address_size in
          let r : Named = record { at = at; size = s; unit = unit } in
          let n : Names entries unit at s = record { within = within; offset = e; sized = refl } in
          let c = place unit at s r n in
          let lt : c.0 < k = omega (arith, c.1, whole) in
          let found = kept.kept c.0 r lt in
          let is : program_of lines unit ≡ Some found.0 =
          sym (ap (λ (x : Named). program_of lines x.unit) c.2) ∙ found.1 in
          let valid : IsValid sections at s found.0.program =
          subst (λ (x : Named). IsValid sections x.at x.size found.0.program) c.2 found.2.valid in
          let apart : IsApart sections entries at =
          subst (λ (x : Named). IsApart sections entries x.at) c.2 (kept_apart c.0 r lt (omega (arith, whole))) in
          subst (IsProgramOf sections code entries unit) (sym is)
          (at, s, n, record { apart = apart; valid = valid }, found.2.code_is)

    module _ (d : Named) (below : k < length named) where
      -- the programs before the next one end before it, if the last one that was read does
      apart_next : IsAfter last (get_or named k d).at → (i : ℕ) → i < k
          → (get_or named i d).at < (get_or named k d).at
          → program_end sections (get_or named i d).at ≤ (get_or named k d).at
      apart_next after i lt less =
          let m = k - 1 in
          let is = kept.is_last m d (omega arith) in
          let rise = offsets_rise named sorted in
          let low = rise i m d (omega arith) (omega arith) in
          let high = rise m k d (omega arith) below in
          elim (cases_lt (get_or named i d).at (get_or named m d).at) [
            | inl more ↦ omega (arith, kept.apart i m d lt (omega arith) more, high)
            | inr ge ↦
                let same : (get_or named i d).at ≡ (get_or named m d).at = omega (arith, ge, low) in
                elim after [
                  | inl at ↦ absurd (omega (arith, is.0, at, same, less))
                  | inr end ↦ subst (λ (x : ℕ). x ≤ (get_or named k d).at) (is.1 ∙ ap (program_end sections) (sym same))
                      end
                ]
          ]

      -- all programs that come before the next one violate no rule
      all_before : (other a s : ℕ) → Names entries other a s
          → (a < (get_or named k d).at) ⊎ ((a ≡ (get_or named k d).at) × (s < (get_or named k d).size))
          → (p : Program) × Holds sections entries a s p
      all_before other a s n before =
          let c = place other a s d n in
          let at : (get_or named c.0 d).at ≡ a = ap (λ (x : Named). x.at) c.2 in
          let size : (get_or named c.0 d).size ≡ s = ap (λ (x : Named). x.size) c.2 in
          elim (cases_order c.0 k) [
            | inl same ↦
                let here : get_or named k d ≡ record { at = a; size = s; unit = other } =
                subst (λ (x : ℕ). get_or named x d ≡ record { at = a; size = s; unit = other }) same c.2 in
                let at' : (get_or named k d).at ≡ a = ap (λ (x : Named). x.at) here in
                let size' : (get_or named k d).size ≡ s = ap (λ (x : Named). x.size) here in
                elim before [
                  | inl less ↦ absurd (omega (arith, at', less))
                  | inr p ↦ absurd (omega (arith, size', p.1))
                ]
            | inr different ↦ elim different [
              | inl lt ↦ kept_holds other a s c.0 d lt (omega arith) c.2
              | inr more ↦ elim (all_up_to named sorted k c.0 d more c.1) [
                | inl up ↦ elim before [
                  | inl less ↦ absurd (omega (arith, at, up, less))
                  | inr p ↦ absurd (omega (arith, at, up, p.0))
                ]
                | inr up ↦ elim before [
                  | inl less ↦ absurd (omega (arith, at, up.0, less))
                  | inr p ↦ absurd (omega (arith, size, up.1, p.1))
                ]
              ]
            ]
          ]

      -- the rule that the next one violates
      why : (fault : LineFault) → NextFails sections (get_or named k d) last fault
          → Fails sections entries (get_or named k d).at (get_or named k d).size fault
      why fault (inl p) = elim (cases_lt 0 k) [
        | inl some ↦
            let m = k - 1 in
            let is = kept.is_last m d (omega arith) in
            let low = offsets_rise named sorted m k d (omega arith) below in
            let other : (get_or named m d).at ≢ (get_or named k d).at = λ same. p.0 (is.0 ∙ same) in
            inl (
              record {
                unit = (get_or named m d).unit;
                other = (get_or named m d).at;
                size = (get_or named m d).size;
                names = all.each m d (omega arith);
                starts = strict (get_or named m d).at (get_or named k d).at low other;
                ends = subst (λ (x : ℕ). (get_or named k d).at < x) is.1 p.1;
              },
              p.2,
            )
        | inr none ↦ absurd (omega (arith, kept.first (omega arith), p.1))
      ] where
        strict : (x y : ℕ) → x ≤ y → x ≢ y → x < y
        strict x y le ne = elim (cases_lt x y) [ inl lt ↦ lt | inr ge ↦ absurd (ne (omega arith)) ]
      why fault (inr p) = inr (apart_at k d below (apart_next p.0), p.1)

      -- the first rule that is violated is one of the next
      pub first_fails : (fault : LineFault) → NextFails sections (get_or named k d) last fault
          → ProgramsFail sections entries fault
      first_fails fault fails = record {
        unit = (get_or named k d).unit;
        at = (get_or named k d).at;
        size = (get_or named k d).size;
        names = all.each k d below;
        is = why fault fails;
        first = all_before;
      }

      module _ (new_last : Last) (new : FileLines)
          (next : IsNext sections code (get_or named k d) last lines new_last new) where
        -- one that was kept is kept
        still_kept : (j : ℕ) (e : Named) → j < k → IsKept sections code new (get_or named j e)
        still_kept j e lt =
            let y = get_or named j e in
            let one = get_or named k d in
            elim (cases_order y.unit one.unit) [
              | inl same ↦
                  let n : Names entries one.unit y.at y.size =
                  subst (λ (u : ℕ). Names entries u y.at y.size) same (all.each j e (omega arith)) in
                  let is = names_one entries one.unit one.at one.size y.at y.size (all.each k d below) n in (
                    next.kept.0,
                    ap (program_of new) same ∙ next.kept.1,
                    subst (λ (x : ℕ). IsRead sections code x y.size next.kept.0) is.0
                        (subst (λ (x : ℕ). IsRead sections code one.at x next.kept.0) is.1 next.kept.2),
                  )
              | inr other ↦
                  let c = kept.kept j e lt in
                  let ne : y.unit ≢ one.unit = λ same. elim other [
                    | inl less ↦ omega (arith, same, less)
                    | inr more ↦ omega (arith, same, more)
                  ] in
                  (c.0, next.others y.unit c.0 ne c.1, c.2)
            ]

        -- so is the next one
        pub one_more : AreKept sections code entries named (k + 1) new new_last
        one_more = record {
          long = next.count ∙ kept.long;
          kept = λ j e lt. elim (cases_lt j k) [
            | inl less ↦ still_kept j e less
            | inr ge ↦
                let same : j ≡ k = omega (arith, lt, ge) in
                subst (IsKept sections code new)
                (get_or_default named k d e below ∙ ap (λ (x : ℕ). get_or named x e) (sym same)) next.kept
          ];
          none = λ unit e.
              next.none unit (λ same.
              some_or_none (offset_named entries unit) (get_or named k d).at
              (subst (λ (u : ℕ). offset_named entries u ≡ Some (get_or named k d).at) (sym same)
              (all.each k d below).offset) e) (kept.none unit e);
          apart = λ i j e li lj less. elim (cases_lt j k) [
            | inl lj' ↦ elim (cases_lt i k) [
              | inl li' ↦ kept.apart i j e li' lj' less
              | inr ge ↦
                  let rise = offsets_rise named sorted j i e (omega (arith, lj', ge)) (omega (arith, li, below)) in
                  absurd (omega (arith, rise, less))
            ]
            | inr ge ↦
                let same : j ≡ k = omega (arith, lj, ge) in
                let is : get_or named k d ≡ get_or named j e =
                get_or_default named k d e below ∙ ap (λ (x : ℕ). get_or named x e) (sym same) in
                elim (cases_lt i k) [
                  | inl li' ↦
                      let is_i : get_or named i d ≡ get_or named i e = get_or_default named i d e (omega arith) in
                      subst (λ (x : Named). program_end sections (get_or named i e).at ≤ x.at) is
                      (subst (λ (x : Named). program_end sections x.at ≤ (get_or named k d).at) is_i
                      (apart_next next.after i li'
                      (subst (λ (x : Named). x.at < (get_or named k d).at) (sym is_i)
                      (subst (λ (x : Named). (get_or named i e).at < x.at) (sym is) less))))
                  | inr ge' ↦
                      let here : i ≡ j = omega (arith, li, ge', same) in
                      absurd (omega (arith, ap (λ (x : ℕ). (get_or named x e).at) here, less))
                ]
          ];
          has_last = next.is_last;
          first = λ e. absurd (omega (arith, e));
          is_last = λ j e more.
              let same : j ≡ k = omega (arith, more) in
              let is : get_or named k d ≡ get_or named j e =
              get_or_default named k d e below ∙ ap (λ (x : ℕ). get_or named x e) (sym same) in (
                next.at ∙ ap (λ (x : Named). x.at) is,
                next.end ∙ ap (λ (x : Named). program_end sections x.at) is,
              );
        }

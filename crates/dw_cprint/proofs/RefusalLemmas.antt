-- The least refusal that holds, by the tests of each.
use Rattle.std.proofs.Common.{rules, ◌≡◌, ℕ, suc, ◌<◌, ◌≤◌, List, [], ◌∷◌, ◌++◌, Some, ◌∙◌, ap, append_assoc, arith, refl}
use Rattle.std.specs.Prelude.{All, length}
use Rattle.std.proofs.lemmas.Bool.{cases_lt}
use Rattle.dw_cprint.specs.Declarations.{declaration_by, declaration_of, term_at}
use Rattle.dw_cprint.specs.Kept.{WritesDeclaration}
use Rattle.dw_cprint.specs.Listings.{text_if}
use Rattle.dw_cprint.specs.Refusals.{PrintFault, NotPrintable, TooDeep, TooLong, Memory, IsLonger, Holds, other_kind, cycle, deep, long, AppendsDeclaration, HoldsNoneBelow, Refuses, IsPrinted, number_of}
use Rattle.dw_cprint.specs.Shapes.{ShapeOf, SubjectOf, other_subject, view_subject}
use Rattle.dw_cprint.specs.Steps.{first_steps, types_declared, ReachACycle}
use Rattle.dw_cprint.specs.Summaries.{KnowsType, known_of, AreAmong, IsSurveyOf}
use Rattle.dw_cprint.specs.Terms.{CDeclaration}
use Rattle.dw_cprint.specs.Writing.{written}
use Rattle.dw_cprint.specs.declared.shape.Subject.{Subject}
use Rattle.dw_cprint.specs.declared.shape.Subject.TheVariants as subject
use Rattle.dw_cprint.specs.declared.survey.Survey.{Survey}
use Rattle.dw_cprint.specs.Lengths.{capped, declared_bytes}
use Rattle.dw_cprint.proofs.LegibleLemmas.{subject_some}
use Rattle.dw_cprint.proofs.SameLemmas.{declaration-kept}
use Rattle.dw_cprint.proofs.LengthLemmas.{declared-length}
use Rattle.dw_cprint.proofs.OptionLemmas.{some_value}
use Rattle.dw_cprint.proofs.SummaryLemmas.{knows-lengths}

-- the code tells an entry of another kind as such
pub is-other : (s : Subject) → view_subject s ≡ other_subject → s ≡ subject.Other
is-other subject.Other same = refl
is-other _ same = absurd (cc)

-- ---- one refusal

one-number : (a b : PrintFault) → number_of a ≡ number_of b → a ≡ b
one-number a b same = grind arith

module _ (shapes : ℕ → ShapeOf) (subject : SubjectOf) where
  -- no declaration is refused for want of memory
  below-seven : (rule : PrintFault) → Holds shapes subject rule → number_of rule < 7
  below-seven Memory h = elim h [ ]
  below-seven _ h = omega arith

  -- what is printed is not refused
  pub printed-or-refused : (rule : PrintFault) → IsPrinted shapes subject → Refuses shapes subject rule → ⊥
  printed-or-refused rule printed refused = printed rule (below-seven rule refused.holds) refused.holds

  -- and is refused by one rule
  pub one-rule : (a b : PrintFault) → Refuses shapes subject a → Refuses shapes subject b → a ≡ b
  one-rule a b x y = search (rules, cases_lt, one-number)

  -- ---- one rule after another

  -- no rule comes before the first
  pub none-first : HoldsNoneBelow 1 shapes subject
  none-first NotPrintable less holds = absurd (omega arith)
  none-first _ less holds = absurd (omega arith)

  -- the next one does not hold either
  pub none-more : (rule : PrintFault) → HoldsNoneBelow (number_of rule) shapes subject → (Holds shapes subject rule → ⊥)
      → HoldsNoneBelow (suc (number_of rule)) shapes subject
  none-more rule none not other less holds = search (rules, cases_lt, one-number)

  -- neither another kind of entry nor a cycle that is reached
  pub printable : (subject ≡ other_subject → ⊥) → (ReachACycle shapes (first_steps subject) → ⊥)
      → HoldsNoneBelow 2 shapes subject
  printable kind none =
      none-more NotPrintable none-first
      (λ h. elim h [ other_kind e ↦ kind e | cycle entry r round ↦ none (entry, r, round) ])

  -- there is a declaration, where none of the first five refusals holds
  there-declared : HoldsNoneBelow 6 shapes subject → (d : CDeclaration) × (declaration_of shapes subject ≡ Some d)
  unfolding declaration_of
  there-declared none =
      let there = subject_some 65 shapes subject (λ rule below holds. none rule (omega arith) holds)
      (λ path. none TooDeep (omega arith) (deep path)) in
      some_value (declaration_by (term_at 65 shapes) subject) there

  -- ---- the length of its text

  -- the text has as many bytes as are counted, up to the limit
  counted : (s : Survey) → All (KnowsType shapes s) (types_declared subject) → HoldsNoneBelow 6 shapes subject
      → (d : CDeclaration) × (declaration_of shapes subject ≡ Some d)
      × (capped (declared_bytes (known_of s) subject) ≡ capped (length (written d)))
  unfolding declaration_of
  counted s known none =
      let (d, is) = there-declared none in (
        d,
        is,
        declared-length (term_at 65 shapes) (known_of s) subject d
            (knows-lengths shapes s 65 (types_declared subject) known) is,
      )

  -- it is too long, if a number of bytes above the limit is counted
  pub too-long : (s : Survey) (n : ℕ) → All (KnowsType shapes s) (types_declared subject)
      → n ≡ capped (declared_bytes (known_of s) subject) → 65536 < n
      → HoldsNoneBelow 6 shapes subject → Refuses shapes subject TooLong
  too-long s n known same over none =
      let (d, is, count) = counted s known none in
      record { holds = long (d, is, omega (arith, same, count, over)); least = none }

  -- and else it is printed
  pub not-too-long : (s : Survey) (n : ℕ) → All (KnowsType shapes s) (types_declared subject)
      → n ≡ capped (declared_bytes (known_of s) subject) → n ≤ 65536 → HoldsNoneBelow 6 shapes subject
      → IsPrinted shapes subject
  not-too-long s n known same under none =
      let (d, is, count) = counted s known none in
      let short : length (written d) ≤ 65536 = omega (arith, same, count, under) in
      none-more TooLong none (λ h. elim h [ long far ↦ fits d is short far ])
    where
      fits : (d : CDeclaration) → declaration_of shapes subject ≡ Some d → length (written d) ≤ 65536
          → IsLonger 65536 shapes subject → ⊥
      fits d is short (e, is_e, over) =
          let same : d ≡ e = cc in
          omega (arith, short, over, ap (λ (x : CDeclaration). length (written x)) same)

  -- what is written of one that is printed is its declaration
  pub writes-printed : (roots : List ℕ) (s : Survey) (old new : List ℕ) → IsSurveyOf shapes roots s
      → AreAmong (first_steps subject) roots → IsPrinted shapes subject → WritesDeclaration s subject old new
      → AppendsDeclaration shapes subject old new
  writes-printed roots s old new survey among printed writes =
      let (d, is) = there-declared (λ rule less holds. printed rule (omega arith) holds) in
      (d, is, writes d (declaration-kept shapes roots s subject survey among ∙ is))

  -- and its line, with a line feed after it
  pub writes-line : (roots : List ℕ) (s : Survey) (old mid new : List ℕ) → IsSurveyOf shapes roots s
      → AreAmong (first_steps subject) roots → IsPrinted shapes subject → WritesDeclaration s subject old mid
      → new ≡ mid ++ 10 ∷ [] → new ≡ old ++ (text_if (declaration_of shapes subject) ++ 10 ∷ [])
  writes-line roots s old mid new survey among printed writes ended =
      let (d, is, text) = writes-printed roots s old mid survey among printed writes in
      rw (ended, text, is) (append_assoc old (written d) (10 ∷ []))

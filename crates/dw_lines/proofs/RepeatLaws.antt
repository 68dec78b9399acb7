-- Values read one after another in a loop: so many, or up to an end.
use Rattle.std.proofs.Common.{◌≡◌, ℕ, zero, suc, ◌<◌, List, [], ◌∷◌, ◌++◌, length, Option, Some, None, Result, Ok, Err}
use Rattle.std.proofs.Common.{refl, sym, ap, ◌∙◌, append_assoc, arith}
use Rattle.std.proofs.lemmas.List.{append-nil}
use Rattle.dw_forms.specs.declared.fault.Stop.{Stop}
use Rattle.dw_forms.specs.declared.fault.Stop.TheVariants as stops
use Rattle.dw_forms.specs.Formats.{Format}
use Rattle.dw_forms.specs.Steps.{◌>>=◌}
use Rattle.dw_forms.specs.Stops.{FailsOrMemory}
use Rattle.dw_lines.specs.Repeats.{times, up_to_end}

-- what is read, with the earlier values before it
abbrev pub after : {X E : Type 0} → List X → Result (List X × List ℕ) E → Result (List X × List ℕ) E
after earlier r = r >>= λ x. Ok (earlier ++ x.0, x.1)

pub after_none : {X E : Type 0} (r : Result (List X × List ℕ) E) → r ≡ after [] r
after_none (Ok x) = refl
after_none (Err e) = refl

pub after_more : {X E : Type 0} (earlier : List X) (x : X) (r : Result (List X × List ℕ) E)
    → after earlier (r >>= λ xs. Ok (x ∷ xs.0, xs.1)) ≡ after (earlier ++ x ∷ []) r
after_more {X} {E} earlier x (Ok xs) =
    ap (λ (all : List X). let r : Result (List X × List ℕ) E = Ok (all, xs.1) in r)
    (sym (append_assoc earlier (x ∷ []) xs.0))
after_more earlier x (Err e) = refl

-- reading gives this fault, whatever comes before
pub after_fault : {X Y E : Type 0} (error : Stop E) (earlier : List X) (r : Result Y E)
    (f : Y → Result (List X × List ℕ) E) → FailsOrMemory error r → FailsOrMemory error (after earlier (r >>= f))
after_fault stops.Memory earlier r f e = tt
after_fault (stops.Fault fault) earlier r f e = rw e refl

-- ---- so many

module _ {X E : Type 0} (value : Format X E) where
  -- the total is what so many values make of the rest, after the earlier ones
  abbrev pub ReadsTimes : ℕ → List X → List ℕ → Result (List X × List ℕ) E → Type 0
  ReadsTimes left earlier rest total = total ≡ after earlier ((times left value).read rest)

  pub times_begin : (count left : ℕ) (earlier : List X) (rest : List ℕ) → left ≡ count → earlier ≡ []
      → ReadsTimes left earlier rest ((times count value).read rest)
  times_begin count left earlier rest is none = rw (is, none) (after_none ((times count value).read rest))

  pub times_all : (left : ℕ) (earlier : List X) (rest : List ℕ) (total : Result (List X × List ℕ) E) → left ≡ 0
      → ReadsTimes left earlier rest total → total ≡ Ok (earlier, rest)
  unfolding times
  times_all left earlier rest total is go = rw (is, append-nil earlier) at go

  pub times_more : (left next : ℕ) (earlier : List X) (rest others : List ℕ) (x : X)
      (total : Result (List X × List ℕ) E) → left ≡ suc next → ReadsTimes left earlier rest total
      → value.read rest ≡ Ok (x, others) → ReadsTimes next (earlier ++ x ∷ []) others total
  unfolding times
  times_more left next earlier rest others x total is go e =
      rw is at go ∙ rw e (after_more earlier x ((times next value).read others))

  pub times_fault : (error : Stop E) (left : ℕ) (earlier : List X) (rest : List ℕ) (total : Result (List X × List ℕ) E)
      → 0 < left → ReadsTimes left earlier rest total → FailsOrMemory error (value.read rest)
      → FailsOrMemory error total
  unfolding times
  times_fault error zero earlier rest total some go e = absurd (omega arith)
  times_fault error (suc left) earlier rest total some go e = rw go (after_fault error earlier (value.read rest) _ e)

-- ---- up to an end

module _ {X E : Type 0} (cut : E) (next : Format (Option X) E) where
  -- the total is what the values up to the end make of the rest, after the earlier ones
  abbrev pub ReadsOn : List X → List ℕ → Result (List X × List ℕ) E → Type 0
  ReadsOn earlier rest total =
      (bound : ℕ) × (length rest < bound) × (total ≡ after earlier ((up_to_end bound cut next).read rest))

  pub goes_to_end : (earlier : List X) (rest others : List ℕ) (total : Result (List X × List ℕ) E)
      → ReadsOn earlier rest total → next.read rest ≡ Ok (None, others) → total ≡ Ok (earlier, others)
  unfolding up_to_end
  goes_to_end earlier rest others total (zero, lt, same) e = absurd (omega arith)
  goes_to_end earlier rest others total (suc bound, lt, same) e = same ∙ rw (e, append-nil earlier) refl

  pub goes_further : (earlier : List X) (rest others : List ℕ) (x : X) (total : Result (List X × List ℕ) E)
      → ReadsOn earlier rest total → next.read rest ≡ Ok (Some x, others) → length others < length rest
      → ReadsOn (earlier ++ x ∷ []) others total
  unfolding up_to_end
  goes_further earlier rest others x total (zero, lt, same) e shorter = absurd (omega arith)
  goes_further earlier rest others x total (suc bound, lt, same) e shorter =
      (bound, omega arith, same ∙ rw e (after_more earlier x ((up_to_end bound cut next).read others)))

  pub goes_wrong : (error : Stop E) (earlier : List X) (rest : List ℕ) (total : Result (List X × List ℕ) E)
      → ReadsOn earlier rest total → FailsOrMemory error (next.read rest) → FailsOrMemory error total
  unfolding up_to_end
  goes_wrong error earlier rest total (zero, lt, same) e = absurd (omega arith)
  goes_wrong error earlier rest total (suc bound, lt, same) e =
      rw same (after_fault error earlier (next.read rest) _ e)

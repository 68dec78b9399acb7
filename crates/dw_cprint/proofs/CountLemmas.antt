-- What a pass over enumerators or dimensions finds, one after another.
use Rattle.std.proofs.Common.{arith, ◌≡◌, ℕ, ◌+◌, Bool, true, false, List, [], ◌∷◌, Option, Some, None, refl, sym, ◌∙◌, ap}
use Rattle.std.specs.Prelude.{◌&&◌, ◌||◌, is_none, if◌then◌else◌}
use Rattle.std.specs.List.{cons_option, list_any}
use Rattle.std.proofs.Math.Bool.{or_assoc, or-false}
use Rattle.std.proofs.lemmas.List.Sums.{sum_by-cons}
use Rattle.dw_cprint.specs.Counted.{AreEnumerators, is_wrong_with, bytes_with, EnumeratorsSoFar, AreDimensions, starts_open_with, is_miscounted_with, DimensionsSoFar}
use Rattle.dw_cprint.specs.Lengths.{capped, count_bytes, enumerator_bytes}
use Rattle.dw_cprint.specs.Shapes.{EnumeratorOf}
use Rattle.dw_cprint.specs.Wrong.{lacks_identifier, lacks_value, starts_open}
use Rattle.dw_cprint.specs.declared.dimensions.DimensionTally.{DimensionTally}
use Rattle.dw_cprint.specs.declared.enumerators.EnumeratorTally.{EnumeratorTally}

-- ---- enumerators

-- none is found, and all are left
pub enumerators_start : (all : List EnumeratorOf)
    → EnumeratorsSoFar all (record { some = false; nameless = false; wrong = true; length = 4 }) all
enumerators_start [] = record { nameless = refl; wrong = refl; long = refl; short = omega arith }
enumerators_start (e ∷ es) = record { nameless = refl; wrong = refl; long = refl; short = omega arith }

-- one is found that was left
pub enumerators_more : (all left : List EnumeratorOf) (e : EnumeratorOf) (found new : EnumeratorTally)
    → EnumeratorsSoFar all found (e ∷ left) → new.some ≡ true
    → new.nameless ≡ (found.nameless || lacks_identifier e)
    → new.wrong ≡ ((found.some && found.wrong) || lacks_value e)
    → new.length ≡ capped ((if found.some then found.length else 2) + enumerator_bytes e)
    → EnumeratorsSoFar all new left
enumerators_more all left e found new so_far some nameless wrong long = record {
  nameless =
      so_far.nameless ∙ sym (or_assoc found.nameless (lacks_identifier e) (list_any lacks_identifier left))
      ∙ ap (λ (b : Bool). b || list_any lacks_identifier left) (sym nameless);
  wrong = so_far.wrong ∙ wrong_of left;
  long = so_far.long ∙ long_of left;
  short = omega (arith, long);
}
  where
    wrong_of : (left : List EnumeratorOf) → is_wrong_with found (e ∷ left) ≡ is_wrong_with new left
    wrong_of [] = ap (λ (b : Bool). (found.some && found.wrong) || b) (or-false (lacks_value e)) ∙ sym wrong
    wrong_of (x ∷ left) =
        let same : (new.some && new.wrong) ≡ ((found.some && found.wrong) || lacks_value e) = rw some wrong in
        sym (or_assoc (found.some && found.wrong) (lacks_value e) (list_any lacks_value (x ∷ left)))
        ∙ ap (λ (b : Bool). b || list_any lacks_value (x ∷ left)) (sym same)

    long_of : (left : List EnumeratorOf) → capped (bytes_with found (e ∷ left)) ≡ capped (bytes_with new left)
    long_of [] = omega (arith, long, sum_by-cons enumerator_bytes e [])
    long_of (x ∷ left) =
        let same : (if new.some then new.length else 2) ≡ new.length = rw some refl in
        omega (arith, long, same, sum_by-cons enumerator_bytes e (x ∷ left))

-- all are found
pub enumerators_all : (all : List EnumeratorOf) (found : EnumeratorTally) → EnumeratorsSoFar all found []
    → AreEnumerators all found
enumerators_all all found so_far = record {
  nameless = sym (so_far.nameless ∙ or-false found.nameless);
  wrong = sym so_far.wrong;
  long = omega (arith, so_far.long, so_far.short);
}

-- ---- dimensions

-- none is found, and all are left
pub dimensions_start : (all : List (Option ℕ))
    → DimensionsSoFar all (record { some = false; first_unknown = false; wrong = true; length = 0 }) all
dimensions_start [] = record { first = refl; wrong = refl; long = omega arith; short = omega arith }
dimensions_start (c ∷ counts) = record { first = refl; wrong = refl; long = omega arith; short = omega arith }

-- the next child is a dimension
pub dimensions_more : (all left : List (Option ℕ)) (count : Option ℕ) (found new : DimensionTally)
    → DimensionsSoFar all found (cons_option (Some count) left) → new.some ≡ true
    → new.first_unknown ≡ (if found.some then found.first_unknown else is_none count)
    → new.wrong ≡ (found.some && (found.wrong || is_none count))
    → new.length ≡ capped (found.length + count_bytes count)
    → DimensionsSoFar all new left
dimensions_more all left count found new so_far some first wrong long = record {
  first =
      so_far.first ∙ ap (λ (b : Bool). if found.some then found.first_unknown else b) (first_unknown count) ∙ sym first
      ∙ sym (open_of left);
  wrong =
      so_far.wrong ∙ by_some found.some found.wrong (is_none count) (list_any is_none left)
      ∙ ap (λ (b : Bool). b || list_any is_none left) (sym wrong) ∙ sym (wrong_of left);
  long = so_far.long ∙ omega (arith, long, sum_by-cons count_bytes count left);
  short = omega (arith, long);
}
  where
    first_unknown : (count : Option ℕ) → starts_open (count ∷ left) ≡ is_none count
    first_unknown None = refl
    first_unknown (Some n) = refl

    open_of : (left : List (Option ℕ)) → starts_open_with new left ≡ new.first_unknown
    open_of [] = refl
    open_of (x ∷ left) = rw some refl

    wrong_of : (left : List (Option ℕ)) → is_miscounted_with new left ≡ (new.wrong || list_any is_none left)
    wrong_of [] = sym (or-false new.wrong)
    wrong_of (x ∷ left) = rw some refl

    by_some : (some wrong unknown any : Bool)
        → (if some then wrong || (unknown || any) else any) ≡ ((some && (wrong || unknown)) || any)
    by_some true wrong unknown any = sym (or_assoc wrong unknown any)
    by_some false wrong unknown any = refl

-- all are found
pub dimensions_all : (all : List (Option ℕ)) (found : DimensionTally) → DimensionsSoFar all found []
    → AreDimensions all found
dimensions_all all found so_far = record {
  first = sym so_far.first;
  wrong = sym so_far.wrong;
  long = omega (arith, so_far.long, so_far.short);
}

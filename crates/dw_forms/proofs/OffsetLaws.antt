-- What begins at an offset of a section.
use Rattle.std.proofs.lemmas.Grind.{common_steps}
use Rattle.std.proofs.Common.{◌≡◌, ℕ, ◌-◌, ◌<◌, ◌≤◌, Bool, true, false, ◌||◌, ◌⊎◌, List, [], ◌∷◌, ◌++◌, length, refl, sym, ◌∙◌, inl, inr, subst, rules, arith, append_assoc, append-nil, get_or, nat_eq, eqb-true, length-append, ne_eqb}
use Rattle.std.specs.List.{list_any}
use Rattle.std.proofs.lemmas.Bool.{cases_eq}
use Rattle.std.proofs.lemmas.Cmp.{nat_eq_equiv}
use Rattle.std.proofs.lemmas.List.{get_or_append_left, get_or_at, get_or_default}
use Rattle.std.proofs.lemmas.List.Folds.{list_any-append, list_any_none}
use Rattle.std.proofs.lemmas.Map.Keys.{IsDistinct-push, IsDistinct-from_apart}
use Rattle.std.proofs.lemmas.Map.Steps.{length-le_from_distinct_below}
use Rattle.std.proofs.lemmas.Option.{slice_get_within, get_or_from_slice_get}
use Rattle.dw_forms.specs.Offsets.{BeginsAt, NothingAt, AreApart, AreAlong, AreNew, Stay, Placed}

-- what begins at an offset is one of those that are kept
pub begins_within : (starts : List ℕ) (number offset : ℕ) → BeginsAt starts number offset
    → (number - 1 < length starts) × (get_or starts (number - 1) 0 ≡ offset)
begins_within starts number offset e = search (rules, slice_get_within, get_or_from_slice_get)

-- ---- nothing begins at an offset

pub nothing_push : (starts : List ℕ) (start offset : ℕ) → NothingAt starts offset → (start ≡ offset → ⊥)
    → NothingAt (starts ++ start ∷ []) offset
nothing_push starts start offset nothing other k less same =
    search (rules, cases_eq, get_or_at, length-append, get_or_append_left)

-- ---- each thing begins at an offset of its own

none_any : (starts : List ℕ) (offset : ℕ) → NothingAt starts offset → list_any (nat_eq offset) starts ≡ false
none_any starts offset nothing =
    list_any_none (nat_eq offset) starts
    (λ k d less. ne_eqb offset (get_or starts k d)
    (λ same. nothing k less (get_or_default starts k 0 d less ∙ sym same)))

either : (a b : Bool) → (a || (b || false)) ≡ true → (a ≡ true) ⊎ (b ≡ true)
either true b e = inl refl
either false true e = inr refl
either false false e = inl e

pub apart_none : (end : ℕ) → AreApart end []
apart_none end = search (rules, IsDistinct-from_apart, nat_eq)

pub apart_push : (end : ℕ) (starts : List ℕ) (start : ℕ) → AreApart end starts → NothingAt starts start → start < end
    → AreApart end (starts ++ start ∷ [])
apart_push end starts start are nothing less =
    search (rules, IsDistinct-push, nat_eq_equiv, none_any, either, list_any-append, eqb-true)

-- so there are no more of them than offsets
pub apart_few : (end : ℕ) (starts : List ℕ) → AreApart end starts → length starts ≤ end
apart_few end starts are = search (rules, length-le_from_distinct_below)

-- ---- things one after another

module _ {T : Type 0} (Is : ℕ → T → ℕ → Type 0) where
  pub along_push : (xs : List (Placed T)) (offset end next : ℕ) (x : T) → AreAlong Is xs offset end → Is end x next
      → AreAlong Is (xs ++ record { at = end; item = x } ∷ []) offset next
  along_push [] offset end next x here is = search rules
  along_push (y ∷ xs) offset end next x a is = (a.0, a.1, a.2, along_push xs a.1 end next x a.3 is)

  pub along_pop : (xs : List (Placed T)) (offset end : ℕ) (x : Placed T) → AreAlong Is (xs ++ x ∷ []) offset end
      → AreAlong Is xs offset x.at × Is x.at x.item end
  along_pop [] offset end x a = search rules
  along_pop (y ∷ xs) offset end x a = search (rules, (along_pop xs a.1 end x a.3))

  -- what passes from the end of each to its offset passes from the end of all
  pub along_back : (P : ℕ → Type 0) → ((offset next : ℕ) (x : T) → Is offset x next → P next → P offset)
      → (xs : List (Placed T)) (offset end : ℕ) → AreAlong Is xs offset end → P end → P offset
  along_back P back [] offset end here p = subst P (sym here) p
  along_back P back (x ∷ xs) offset end a p = back offset a.1 x.item a.2 (along_back P back xs a.1 end a.3 p)

  module _ (rises : (offset next : ℕ) (x : T) → Is offset x next → offset < next) where
    along_on : (xs : List (Placed T)) (offset end : ℕ) → AreAlong Is xs offset end → offset ≤ end
    along_on [] offset end here = omega arith
    along_on (x ∷ xs) offset end a = search (rules, (along_on xs a.1 end a.3))

    -- things before an offset are new when one is kept that begins there
    pub new_stay : (starts : List ℕ) (xs : List (Placed T)) (offset end : ℕ) → AreAlong Is xs offset end
        → AreNew starts xs → AreNew (starts ++ end ∷ []) xs
    new_stay starts [] offset end a new = tt
    new_stay starts (x ∷ xs) offset end a new =
        grind (arith, common_steps, along_on, nothing_push, (new_stay starts xs a.1 end a.3 new.1))

pub along_same : {T : Type 0} (Is Was : ℕ → T → ℕ → Type 0)
    → ((offset next : ℕ) (x : T) → Was offset x next → Is offset x next) → (xs : List (Placed T)) (offset end : ℕ)
    → AreAlong Was xs offset end → AreAlong Is xs offset end
along_same Is Was same [] offset end here = here
along_same Is Was same (x ∷ xs) offset end a = search (rules, (along_same Is Was same xs a.1 end a.3))

pub new_push : {T : Type 0} (starts : List ℕ) (xs : List (Placed T)) (x : Placed T) → AreNew starts xs
    → NothingAt starts x.at → AreNew starts (xs ++ x ∷ [])
new_push starts [] x new nothing = (nothing, tt)
new_push starts (y ∷ xs) x new nothing = (new.0, new_push starts xs x new.1 nothing)

pub new_pop : {T : Type 0} (starts : List ℕ) (xs : List (Placed T)) (x : Placed T) → AreNew starts (xs ++ x ∷ [])
    → AreNew starts xs × NothingAt starts x.at
new_pop starts [] x new = (tt, new.0)
new_pop starts (y ∷ xs) x new = search (rules, (new_pop starts xs x new.1))

-- ---- what stays

pub stay_same : {X : Type 0} (xs : List X) → Stay xs xs
stay_same xs = ([], sym (append-nil xs))

pub stay_on : {X : Type 0} (old middle new : List X) → Stay old middle → Stay middle new → Stay old new
stay_on {X} old middle new first second = search (rules, append_assoc)

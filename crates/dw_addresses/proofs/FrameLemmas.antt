-- The frames of functions, from the innermost on.
use Rattle.std.proofs.Common.{◌≡◌, ℕ, ◌+◌, ◌-◌, ◌<◌, List, [], ◌∷◌, ◌++◌, length, get_or, drop, Option, Some}
use Rattle.std.proofs.Common.{sym, ap, ◌∙◌, arith}
use Rattle.std.proofs.lemmas.List.{append_assoc, drop_more}
use Rattle.dw_entries.specs.Entries.{Entry}
use Rattle.dw_addresses.specs.Frames.{call_place, frames_of, place_in}
use Rattle.dw_addresses.specs.declared.frame.Frame.{Frame}
use Rattle.dw_addresses.specs.declared.frame.Place.{Place}

module _ (entries : List Entry) (row : Option Place) (functions : List ℕ) (k : ℕ) (below : k < length functions) where
  -- how many functions are before the next one
  abbrev before : ℕ
  before = length functions - 1 - k

  next : drop before functions ≡ get_or functions before 0 ∷ drop (length functions - k) functions
  next =
      let at : before + 1 ≡ length functions - k = omega arith in
      drop_more functions before 0 (omega arith) ∙ ap (λ (n : ℕ). get_or functions before 0 ∷ drop n functions) at

  -- one more frame
  pub one_frame : (old frames : List Frame) (place : Option Place)
      → frames ≡ old ++ frames_of entries row (drop (length functions - k) functions)
      → place ≡ place_in entries row (drop (length functions - k) functions)
      → frames ++ record { function = Some (get_or functions before 0); place = place } ∷ []
      ≡ old ++ frames_of entries row (drop (length functions - (k + 1)) functions)
  one_frame old frames place are is =
      let rest = drop (length functions - k) functions in
      let f = get_or functions before 0 in
      let at : before ≡ length functions - (k + 1) = omega arith in
      let new : Option Place → Frame = λ p. record { function = Some f; place = p } in
      ap (λ (l : List Frame). l ++ new place ∷ []) are
      ∙ append_assoc old (frames_of entries row rest) (new place ∷ [])
      ∙ ap (λ (p : Option Place). old ++ (frames_of entries row rest ++ new p ∷ [])) is
      ∙ ap (λ (l : List ℕ). old ++ frames_of entries row l) (sym next)
      ∙ ap (λ (n : ℕ). old ++ frames_of entries row (drop n functions)) at

  -- the place of the next one
  pub next_place : Some (call_place entries (get_or functions before 0))
      ≡ place_in entries row (drop (length functions - (k + 1)) functions)
  next_place =
      let at : before ≡ length functions - (k + 1) = omega arith in
      ap (place_in entries row) (sym next) ∙ ap (λ (n : ℕ). place_in entries row (drop n functions)) at

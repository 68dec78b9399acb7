-- The answers for addresses, one after another, and that their objects have no floats.
use Rattle.std.proofs.Common.{◌≡◌, ℕ, ◌==◌, Bool, true, List, [], ◌∷◌, ◌++◌, Option, Some, None, false, map, refl, sym, ap, ◌∙◌, append_assoc, subst}
use Rattle.std.specs.Prelude.{if◌then◌else◌}
use Rattle.std.proofs.lemmas.List.{append-nil}
use Rattle.serde_json.specs.Data.{null, number, unsigned}
use Rattle.serde_json.specs.View.{items_of}
use Rattle.serde_json.specs.Written.{has_float, items_have_float}
use Rattle.dw_ranges.specs.Functions.{Known as KnownUnit}
use Rattle.dw_addresses.specs.declared.frame.Frame.{Frame}
use Rattle.dw_lookup.specs.Places.{column_at, line_at, name_at, path_at}
use Rattle.dw_lookup.specs.declared.known.Known.{Known}
use Rattle.dwv_addr.specs.AnswerObjects.{frame_object, number_or_null, text_or_null}
use Rattle.dwv_addr.specs.Located.{AreAnswers, IsAnswer, object_at}

module _ (json : Bool) (known : Known) (units : List KnownUnit) where
  -- the answers for some addresses, and then for others
  pub answers_append : (asked others : List (Option ℕ)) (text more : List ℕ)
      → AreAnswers json known units asked text → AreAnswers json known units others more
      → AreAnswers json known units (asked ++ others) (text ++ more)
  answers_append [] others text more are also =
      subst (AreAnswers json known units others) (sym (ap (λ (t : List ℕ). t ++ more) are)) also
  answers_append (one ∷ asked) others text more (first, rest, first_is, rest_are, same) also = (
    first,
    rest ++ more,
    first_is,
    answers_append asked others rest more rest_are also,
    ap (λ (t : List ℕ). t ++ more) same ∙ append_assoc first rest more,
  )

  -- and then the answer for one more
  pub answers_more : (asked : List (Option ℕ)) (other : Option ℕ) (text more : List ℕ)
      → AreAnswers json known units asked text → IsAnswer json known units other more
      → AreAnswers json known units (asked ++ other ∷ []) (text ++ more)
  answers_more asked other text more are is =
      answers_append asked (other ∷ []) text more are (more, [], is, refl, sym (append-nil more))

no_float_choice : (b : Bool) (n : ℕ) → has_float (if b then null else number (unsigned n)) ≡ false
no_float_choice true n = refl
no_float_choice false n = refl

no_float_number : (n : ℕ) → has_float (number_or_null n) ≡ false
no_float_number n = no_float_choice (n == 0) n

no_float_text : (text : Option (List ℕ)) → has_float (text_or_null text) ≡ false
no_float_text None = refl
no_float_text (Some text) = refl

no_float_frame : (function path : Option (List ℕ)) (line column : ℕ)
    → has_float (frame_object function path line column) ≡ false
no_float_frame function path line column =
    rw (no_float_number column, no_float_text path, no_float_text function, no_float_number line) refl

-- the objects of frames have no floats
pub no_float_frames : (known : Known) (unit : ℕ) (frames : List Frame)
    → items_have_float (items_of (map (object_at known unit) frames)) ≡ false
no_float_frames known unit [] = refl
no_float_frames known unit (frame ∷ frames) =
    let first = no_float_frame (name_at known frame.function) (path_at known unit frame.place) (line_at frame.place)
    (column_at frame.place) in
    rw (first, no_float_frames known unit frames) refl

-- The bytes of a name or a path as they are written.
use Rattle.std.proofs.Common.{◌≡◌, ℕ, suc, ◌+◌, ◌<◌, List, [], ◌∷◌, ◌++◌, length, slice_index, take, drop, refl, sym, ap, ◌∙◌, append_assoc, arith}
use Rattle.std.specs.List.{flat_map, All}
use Rattle.std.proofs.lemmas.List.{take-append-drop, drop_more}
use Rattle.std.proofs.lemmas.List.Concat.{flat_map-append}
use Rattle.dwv_addr.specs.Answers.{glyph}

-- bytes that are shown as they are
pub glyphs_plain : (xs : List ℕ) → All (λ b. glyph b ≡ b ∷ []) xs → flat_map glyph xs ≡ xs
glyphs_plain [] plain = refl
glyphs_plain (x ∷ xs) plain =
    ap (λ u. u ++ flat_map glyph xs) (plain 0 x (omega arith))
    ∙ ap (λ u. x ∷ u) (glyphs_plain xs (λ k d below. plain (suc k) d (omega arith)))

-- such bytes, the escape of the next one, and the rest
pub glyphs_split : (text copied new escape rest : List ℕ) (at : ℕ) → at < length rest
    → All (λ b. glyph b ≡ b ∷ []) (take at rest) → glyph (slice_index rest at) ≡ escape
    → copied ≡ text ++ take at rest → new ≡ copied ++ escape
    → new ++ flat_map glyph (drop (at + 1) rest) ≡ text ++ flat_map glyph rest
glyphs_split text copied new escape rest at within plain escaped is_copied is_new =
    let after = flat_map glyph (drop (at + 1) rest) in
    let parts : flat_map glyph rest ≡ take at rest ++ (escape ++ after) =
    ap (flat_map glyph) (sym (take-append-drop at rest))
    ∙ flat_map-append glyph (take at rest) (drop at rest)
    ∙ ap (λ u. u ++ flat_map glyph (drop at rest)) (glyphs_plain (take at rest) plain)
    ∙ ap (λ u. take at rest ++ flat_map glyph u) (drop_more rest at 0 within)
    ∙ ap (λ u. take at rest ++ (u ++ after)) escaped in
    ap (λ u. u ++ after) (is_new ∙ ap (λ u. u ++ escape) is_copied)
    ∙ append_assoc (text ++ take at rest) escape after
    ∙ append_assoc text (take at rest) (escape ++ after)
    ∙ ap (λ u. text ++ u) (sym parts)

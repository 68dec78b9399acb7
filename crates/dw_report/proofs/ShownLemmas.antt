-- The line of an entry, the lines of the entries so far, and the bytes of a name as they are shown.
use Rattle.std.proofs.Common.{rules, ◌≡◌, ℕ, zero, suc, ◌+◌, ◌<◌, List, [], ◌∷◌, ◌++◌, length, Bool, true, false, slice_index, take, drop, Option, Some, None, refl, sym, ap, ◌∙◌, append_assoc, append-nil, arith}
use Rattle.std.specs.Prelude.{slice_get, if◌then◌else◌}
use Rattle.std.specs.Option.{option_and_then}
use Rattle.std.specs.List.{enumerate_from, flat_map, All}
use Rattle.std.proofs.lemmas.List.{take-append-drop, drop_more}
use Rattle.std.proofs.lemmas.List.Concat.{flat_map-append}
use Rattle.std.proofs.lemmas.Option.{slice_get-get_or}
use Rattle.dw_entries.specs.Entries.{Entry}
use Rattle.dw_entries.specs.ByNumber.{no_entry, entry_of}
use Rattle.dw_image.specs.declared.image.Image.{Image}
use Rattle.dw_image.specs.Images.{entries_in, name_in, size_table_in}
use Rattle.dw_image.specs.Lookups.{is_type_entry, type_number}
use Rattle.dw_report.specs.Lines.{line}
use Rattle.dw_report.specs.Shown.{glyph, entry_part, name_part, size_part, shown_line, entry_size, entry_line}

-- bytes that are shown as they are
pub glyphs_plain : (xs : List ℕ) → All (λ b. glyph b ≡ b ∷ []) xs → flat_map glyph xs ≡ xs
glyphs_plain [] plain = refl
glyphs_plain (x ∷ xs) plain =
    ap (λ u. u ++ flat_map glyph xs) (plain 0 x (omega arith))
    ∙ ap (λ u. x ∷ u) (glyphs_plain xs (λ k d below. plain (suc k) d (omega arith)))

-- such bytes, the escape of the next one, and the rest
pub glyphs_split : (text copied new escape rest : List ℕ) (at : ℕ) → at < length rest
    → All (λ b. glyph b ≡ b ∷ []) (take at rest) → glyph (slice_index rest at) ≡ escape
    → copied ≡ text ++ take at rest → new ≡ copied ++ escape
    → new ++ flat_map glyph (drop (at + 1) rest) ≡ text ++ flat_map glyph rest
glyphs_split text copied new escape rest at within plain escaped is_copied is_new =
    let after = flat_map glyph (drop (at + 1) rest) in
    let parts : flat_map glyph rest ≡ take at rest ++ (escape ++ after) =
    ap (flat_map glyph) (sym (take-append-drop at rest))
    ∙ flat_map-append glyph (take at rest) (drop at rest)
    ∙ ap (λ u. u ++ flat_map glyph (drop at rest)) (glyphs_plain (take at rest) plain)
    ∙ ap (λ u. take at rest ++ flat_map glyph u) (drop_more rest at 0 within)
    ∙ ap (λ u. take at rest ++ (u ++ after)) escaped in
    ap (λ u. u ++ after) (is_new ∙ ap (λ u. u ++ escape) is_copied)
    ∙ append_assoc (text ++ take at rest) escape after
    ∙ append_assoc text (take at rest) (escape ++ after)
    ∙ ap (λ u. text ++ u) (sym parts)

-- the two parts of a line
line_in_parts : (offset depth tag : ℕ) (name : Option (List ℕ)) (size : Option ℕ) (old mid new : List ℕ)
    → mid ≡ old ++ entry_part offset depth tag → new ≡ mid ++ line (name_part name ++ size_part size)
    → new ≡ old ++ shown_line offset depth tag name size
unfolding shown_line
line_in_parts offset depth tag name size old mid new first last =
    let begun = entry_part offset depth tag in
    let ended = name_part name ++ size_part size in
    last ∙ ap (λ u. u ++ line ended) first ∙ append_assoc old begun (line ended)
    ∙ ap (λ u. old ++ u) (sym (append_assoc begun ended (10 ∷ [])))
    ∙ ap (λ u. old ++ (u ++ 10 ∷ [])) (sym (append_assoc begun (name_part name) (size_part size)))

-- the size of the type at an entry, if there is one, is the entry's
pub entry_sized : (i : Image) (number : ℕ) (found : Option ℕ) → number < length (entries_in i)
    → found ≡ type_number (entries_in i) number
    → option_and_then (size_table_in i) found ≡ entry_size i number (entry_of (entries_in i) number)
unfolding entry_size
entry_sized i number found within told =
    let typed : Entry → Option ℕ = λ e. if is_type_entry e then Some number else None in
    ap (option_and_then (size_table_in i)) (told ∙ ap (option_and_then typed)
    (slice_get-get_or (entries_in i) number no_entry within))
    ∙ by_kind (is_type_entry (entry_of (entries_in i) number))
  where
    by_kind : (b : Bool) → option_and_then (size_table_in i) (if b then Some number else None)
        ≡ (if b then size_table_in i number else None)
    by_kind true = refl
    by_kind false = refl

-- what the look-ups of an entry tell makes its line
pub entry_line_told : (i : Image) (number : ℕ) (e : Entry) (offset depth tag : ℕ) (name : Option (List ℕ))
    (size : Option ℕ) (old mid new : List ℕ) → offset ≡ e.at → depth ≡ e.depth → tag ≡ e.head.decl.tag
    → name ≡ name_in i e → size ≡ entry_size i number e
    → mid ≡ old ++ entry_part offset depth tag → new ≡ mid ++ line (name_part name ++ size_part size)
    → new ≡ old ++ entry_line i (number, e)
unfolding entry_line
entry_line_told i number e offset depth tag name size old mid new is_at is_deep is_tag is_name is_size first last =
    line_in_parts offset depth tag name size old mid new first last
    ∙ ap (λ u. old ++ shown_line u depth tag name size) is_at
    ∙ ap (λ u. old ++ shown_line e.at u tag name size) is_deep
    ∙ ap (λ u. old ++ shown_line e.at e.depth u name size) is_tag
    ∙ ap (λ u. old ++ shown_line e.at e.depth e.head.decl.tag u size) is_name
    ∙ ap (λ u. old ++ shown_line e.at e.depth e.head.decl.tag (name_in i e) u) is_size

-- one item more of a numbered list
more_lines : (f : ℕ × Entry → List ℕ) (es : List Entry) (n k : ℕ) (e : Entry) → slice_get es k ≡ Some e
    → flat_map f (take (suc k) (enumerate_from n es)) ≡ flat_map f (take k (enumerate_from n es)) ++ f (n + k, e)
more_lines f [] n k e there = absurd cc
more_lines f (x ∷ es) n zero e there = search (rules, append-nil)
more_lines f (x ∷ es) n (suc k) e there =
    let at : n + 1 + k ≡ n + suc k = omega arith in
    ap (λ l. f (n, x) ++ l) (more_lines f es (n + 1) k e there
    ∙ ap (λ m. flat_map f (take k (enumerate_from (n + 1) es)) ++ f (m, e)) at)
    ∙ sym (append_assoc (f (n, x)) _ _)

-- the line of the entry with the number k comes after those before it
pub one_more_line : (f : ℕ × Entry → List ℕ) (es : List Entry) (k : ℕ) (first old new : List ℕ) → k < length es
    → new ≡ old ++ f (k, entry_of es k) → old ≡ first ++ flat_map f (take k (enumerate_from 0 es))
    → new ≡ first ++ flat_map f (take (k + 1) (enumerate_from 0 es))
one_more_line f es k first old new below says is =
    let e = entry_of es k in
    let there = slice_get-get_or es k no_entry below in
    let next : k + 1 ≡ suc k = omega arith in
    let at : 0 + k ≡ k = omega arith in
    rw next (says ∙ ap (λ xs. xs ++ f (k, e)) is ∙ append_assoc first _ _
    ∙ ap (λ xs. first ++ xs) (sym (more_lines f es 0 k e there
    ∙ ap (λ m. flat_map f (take k (enumerate_from 0 es)) ++ f (m, e)) at)))

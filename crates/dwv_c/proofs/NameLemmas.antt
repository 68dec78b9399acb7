-- Where texts of sections are in the file.
use Rattle.std.proofs.Common.{◌≡◌, ℕ, zero, suc, ◌+◌, ◌-◌, ◌<◌, ◌≤◌, ◌==◌, true, false, List, [], ◌∷◌, ◌++◌, get_or, length, length-drop, length-take, min, take, drop, sym, ap, subst, ◌∙◌, drop-drop, take-append-drop, take_at, append_assoc, refl, arith, inl, inr}
use Rattle.std.proofs.Math.Seq.{take-suc}
use Rattle.std.proofs.lemmas.List.{drop-append-le, get_or-drop}
use Rattle.std.proofs.lemmas.Bool.{cases_lt, ne_eqb}
use Rattle.std.proofs.lemmas.List.Sums.{fails_before_first, passes_at_first}
use Rattle.std.specs.List.{before_first, position_or_len}
use Rattle.dw_elf.specs.Sections.{IsAt}
use Rattle.dw_image.specs.Contributions.{HasZeroFrom, string_at}

part_at : (file section : List ℕ) (start offset n : ℕ) → IsAt file start section → offset ≤ length section
    → IsAt file (start + offset) (take n (drop offset section))
part_at file section start offset n is within =
    let from : List ℕ = drop start file in
    let text : List ℕ = take n (drop offset section) in
    let after : List ℕ = drop (length section) from in
    let all : from ≡ section ++ after = sym (take-append-drop (length section) from)
    ∙ ap (λ (l : List ℕ). l ++ after) is in
    let rest : List ℕ = drop n (drop offset section) ++ after in
    let parts : drop (start + offset) file ≡ text ++ rest =
    sym (drop-drop offset start file) ∙ ap (drop offset) all ∙ drop-append-le offset section after within
    ∙ ap (λ (l : List ℕ). l ++ after) (sym (take-append-drop n (drop offset section)))
    ∙ append_assoc text (drop n (drop offset section)) after in
    ap (take (length text)) parts ∙ take_at text rest (length text) refl

-- the bytes before a first zero byte, and that byte
first_zero : (xs : List ℕ) (k : ℕ) → k < length xs → get_or xs k 0 ≡ 0
    → take (suc (position_or_len (λ byte. byte == 0) xs)) xs ≡ before_first (λ byte. byte == 0) xs ++ 0 ∷ []
first_zero xs k below is =
    let n : ℕ = position_or_len (λ byte. byte == 0) xs in
    let no_later : n ≤ k = elim (cases_lt k n) [
      | inl less ↦ absurd (zero_passes (get_or xs k 0) is (fails_before_first (λ byte. byte == 0) xs k 0 less))
      | inr le ↦ le
    ] in
    let within : n < length xs = omega (arith, no_later, below) in
    let zero_there : get_or xs n 0 ≡ 0 = is_zero (get_or xs n 0) (passes_at_first (λ byte. byte == 0) xs 0 within) in
    take-suc xs n 0 within ∙ ap (λ (b : ℕ). take n xs ++ b ∷ []) zero_there
  where
    zero_passes : (b : ℕ) → b ≡ 0 → (b == 0) ≡ false → ⊥
    zero_passes zero is fails = absurd cc
    zero_passes (suc b) is fails = absurd cc

    is_zero : (b : ℕ) → (b == 0) ≡ true → b ≡ 0
    is_zero zero passes = refl
    is_zero (suc b) passes =
        let other : (suc b == 0) ≡ false = ne_eqb (suc b) 0 (λ same. omega (arith, same)) in absurd cc

-- the string at an offset, and the zero byte that ends it
string_ends : (section : List ℕ) (offset : ℕ) → HasZeroFrom section offset
    → take (suc (position_or_len (λ byte. byte == 0) (drop offset section))) (drop offset section)
    ≡ string_at section offset ++ 0 ∷ []
string_ends section offset e =
    let p = e.behind in let q = e.within in
    let same : offset + (e.last - offset) ≡ e.last = omega (arith, p) in
    first_zero (drop offset section) (e.last - offset) (rw (length-drop offset section) (omega (arith, p, q)))
    (get_or-drop offset section (e.last - offset) 0 ∙ ap (λ (n : ℕ). get_or section n 0) same ∙ e.is_zero)

-- a string of a section that starts somewhere in the file, with the zero byte that ends it
pub string_in_file : (file section : List ℕ) (start offset : ℕ) → IsAt file start section → HasZeroFrom section offset
    → IsAt file (start + offset) (string_at section offset ++ 0 ∷ [])
string_in_file file section start offset is ends =
    subst (IsAt file (start + offset)) (string_ends section offset ends)
    (part_at file section start offset (suc (position_or_len (λ byte. byte == 0) (drop offset section))) is
    (let p = ends.behind in let q = ends.within in omega (arith, p, q)))

-- bytes of a section that starts somewhere in the file
pub part_in_file : (file section bytes : List ℕ) (start offset : ℕ) → IsAt file start section
    → IsAt section offset bytes → offset ≤ length section
    → IsAt file (start + offset) bytes
part_in_file file section bytes start offset is part within =
    subst (IsAt file (start + offset)) part (part_at file section start offset (length bytes) is within)

-- a string of such a section starts in the file
pub starts_within : (file section : List ℕ) (start offset : ℕ) → IsAt file start section → HasZeroFrom section offset
    → start + offset < length file
starts_within file section start offset is ends =
    let p = ends.behind in let q = ends.within in
    let taken : min (length section) (length file - start) ≡ length section =
    ap (min (length section)) (sym (length-drop start file)) ∙ sym (length-take (length section) (drop start file))
    ∙ ap length is in
    omega (arith, p, q, taken)

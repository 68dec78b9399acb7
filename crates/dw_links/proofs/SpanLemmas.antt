-- The strings of a section, by what is known of them at each 64th offset.
use Rattle.std.proofs.Common.{rules, ◌≡◌, ◌<◌, ◌≤◌, Bool, true, false, List, [], ◌∷◌, ◌++◌, length, refl, arith, ℕ, ◌+◌, ◌-◌, ◌*◌, ◌/◌, ◌%◌, take, drop, get_or, Some, sym, ap, ◌∙◌, append-nil, ◌==◌, ◌&&◌, slice_get, length-append, take-append-drop, length-take-le, length-drop, drop-drop}
use Rattle.std.specs.List.{before_first}
use Rattle.std.proofs.lemmas.Bool.{cases_lt}
use Rattle.std.proofs.lemmas.List.{length_push}
use Rattle.std.proofs.lemmas.List.Folds.{list_all-append}
use Rattle.std.proofs.lemmas.Option.{slice_get-get_or}
use Rattle.std.proofs.Math.Nat.{div-add-mod}
use Rattle.dw_entries.proofs.UnitRanges.{get_front, get_behind}
use Rattle.dw_links.specs.Contributions.{string_at}
use Rattle.dw_links.specs.declared.string_spans.StringSpan.{StringSpan}
use Rattle.dw_links.specs.StringSpans.{AreSpans, IsSpan}

-- ---- what comes before the first element that passes a test, in a list of two parts

module _ {X : Type 0} (p : X → Bool) where
  before-stop : (x : X) (xs : List X) → p x ≡ true → before_first p (x ∷ xs) ≡ []
  before-stop x xs is = rw is refl

  before-more : (x : X) (xs : List X) → p x ≡ false → before_first p (x ∷ xs) ≡ x ∷ before_first p xs
  before-more x xs is = search (rules)

  -- no element of the front passes
  before-joined : (xs ys : List X) → length xs ≤ length (before_first p xs)
      → before_first p (xs ++ ys) ≡ xs ++ before_first p ys
  before-joined [] ys long = refl
  before-joined (x ∷ xs) ys long = search (rules, before-stop, before-more, (before-joined xs ys))

  -- an element of the front passes
  before-front : (xs ys : List X) → length (before_first p xs) < length xs
      → before_first p (xs ++ ys) ≡ before_first p xs
  before-front [] ys short = absurd (omega arith)
  before-front (x ∷ xs) ys short = search (rules, before-stop, before-more, (before-front xs ys))

-- ---- the string at the front of some bytes, by the bytes before an offset and by the string there

module _ (bytes before text : List ℕ) (offset : ℕ) (front : StringSpan) (within : offset ≤ length bytes)
    (split : before ≡ take offset bytes) (told : text ≡ string_at before 0) (is : IsSpan text front) where
  here : IsSpan (string_at (take offset bytes) 0) front
  here = rw (← split, ← told) is

  -- a string that ends before the offset
  pub span-front : front.len < offset → IsSpan (string_at bytes 0) front
  span-front short =
      let all = length-take-le offset bytes within in
      let ends = here.long in
      let same : string_at bytes 0 ≡ string_at (take offset bytes) 0 =
      ap (before_first (λ (byte : ℕ). byte == 0)) (sym (take-append-drop offset bytes))
      ∙ before-front (λ (byte : ℕ). byte == 0) (take offset bytes) (drop offset bytes) (omega arith) in
      rw same here

  -- one that goes on there
  pub span-joined : (next : StringSpan) (both : Bool) → IsSpan (string_at (drop offset bytes) 0) next
      → offset ≤ front.len → both ≡ (front.words && next.words)
      → IsSpan (string_at bytes 0) (record { len = offset + next.len; words = both })
  span-joined next both known long joint =
      let size = length-take-le offset bytes within in
      let part = here in
      let joined = λ (xs : List ℕ).
      before-joined (λ (byte : ℕ). byte == 0) (take offset bytes) xs (omega (arith, here.long, size, long)) in
      search (
        rules,
        (joined (drop offset bytes)),
        (joined []),
        size,
        take-append-drop,
        append-nil,
        list_all-append,
        length-append,
      )

-- what is known of the last k blocks
pub record SpansTo (section : List ℕ) (k : ℕ) (spans : List StringSpan) (last : StringSpan) : Type 0 where
  pub count : length spans ≡ k + 1
  pub each : (j : ℕ) (span : StringSpan) → slice_get spans j ≡ Some span
      → IsSpan (string_at (drop (length section - 64 * j) section) 0) span
  pub newest : IsSpan (string_at (drop (length section - 64 * k) section) 0) last

-- the string at the start of the next block goes on where the last one starts
pub span-before : (section bytes : List ℕ) (k : ℕ) (spans : List StringSpan) (last : StringSpan)
    → SpansTo section k spans last
    → k < length section / 64
    → bytes ≡ drop (length section - (k + 1) * 64) section → IsSpan (string_at (drop 64 bytes) 0) last
span-before section bytes k spans last known below is =
    let place : length section - (k + 1) * 64 + 64 ≡ length section - 64 * k = omega arith in
    let same : drop 64 bytes ≡ drop (length section - 64 * k) section =
    ap (drop 64) is ∙ drop-drop 64 (length section - (k + 1) * 64) section ∙ ap (λ (n : ℕ). drop n section) place in
    rw same known.newest

-- the element of a list of one
the_one : (one found : StringSpan) (n : ℕ) → slice_get (one ∷ []) n ≡ Some found → (n ≡ 0) × (one ≡ found)
the_one one found n is = search (rules)

-- one block more
pub spans-more : (section bytes : List ℕ) (k : ℕ) (spans more : List StringSpan) (last span : StringSpan)
    → SpansTo section k spans last
    → bytes ≡ drop (length section - (k + 1) * 64) section → IsSpan (string_at bytes 0) span → more ≡ spans ++ span ∷ []
    → SpansTo section (k + 1) more span
spans-more section bytes k spans more last span known is new grown =
    search (rules, length_push, cases_lt, get_front, get_behind, the_one)

-- what is known where fewer than 64 bytes more are left
pub text-next : (section : List ℕ) (spans : List StringSpan) (offset : ℕ) (bytes : List ℕ) (span d : StringSpan)
    → AreSpans section spans → offset ≤ length section → bytes ≡ drop offset section
    → span ≡ get_or spans (length bytes / 64) d → IsSpan (string_at (drop (length bytes % 64) bytes) 0) span
text-next section spans offset bytes span d known offset_within is found =
    search (rules, length-drop, div-add-mod, drop-drop, slice_get-get_or)

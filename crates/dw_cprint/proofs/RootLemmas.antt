-- Finding the roots: the entries among types are marked, and those with marks are found in rising offset.
use Rattle.dw_cprint.proofs.NumberLemmas.{marked-more}
use Rattle.std.proofs.Common.{◌≡◌, ℕ, zero, suc, ◌+◌, ◌<◌, Bool, true, false, List, [], ◌∷◌, ◌++◌, Option, Some, None, sym, ◌∙◌, ap, inl, inr, length, get_or, set, arith, refl}
use Rattle.std.specs.Prelude.{All, Contains}
use Rattle.std.proofs.lemmas.Bool.{cases_lt}
use Rattle.std.proofs.lemmas.List.{get_or_default}
use Rattle.std.proofs.lemmas.List.Elements.{All-contains, Contains-append_left, Contains-append_cases}
use Rattle.dw_cprint.specs.Reach.{AreMarks, FindsAll, FindsMarked, FindsRoots, IsMarked}
use Rattle.dw_cprint.specs.Steps.{entries_among}
use Rattle.dw_cprint.proofs.ReachLemmas.{entry-among, found-in-row}

only-one : (new entry : ℕ) → Contains (new ∷ []) entry → entry ≡ new
only-one new entry (zero, w, e) = sym e
only-one new entry (suc k, w, e) = absurd (omega arith)

-- the type at a place of some is an entry
pub type-within : (n : ℕ) (types : List (Option ℕ)) (i entry : ℕ) → All (λ to. to < n) (entries_among types)
    → i < length types → get_or types i None ≡ Some entry → entry < n
type-within n types i entry within w is =
    All-contains (λ to. to < n) (entries_among types) entry within
    (entry-among types entry (i, w, get_or_default types i (Some entry) None w ∙ is))

-- ---- marks

pub marks-as : {entries entries' : List ℕ} {marks marks' : List Bool} → entries ≡ entries' → marks ≡ marks'
    → AreMarks entries marks → AreMarks entries' marks'
marks-as same alike are = rw (← same, ← alike) are

-- one entry more
pub marks-more : (entries : List ℕ) (marks : List Bool) (new : ℕ) → AreMarks entries marks → new < length marks
    → AreMarks (entries ++ new ∷ []) (set marks new true)
marks-more entries marks new are w entry =
    let (marked, back) = marked-more (λ (b : Bool). b ≡ true) marks true false entries new refl w
    (λ k. ((are k).1, (are k).0)) entry in
    (back, marked)

-- ---- those with marks are found

pub found-as : {marks : List Bool} {number : ℕ} {places places' found found' : List ℕ} → places ≡ places'
    → found ≡ found' → FindsMarked marks number places found → FindsMarked marks number places' found'
found-as same alike are = rw (← same, ← alike) are

-- one more has a mark
pub found-more : {marks : List Bool} {number : ℕ} {places places' found found' row : List ℕ}
    → FindsMarked marks number places found → IsMarked marks number
    → FindsAll (number ∷ []) places places' found found' row → FindsMarked marks (number + 1) places' found'
found-more {marks = marks} {number = number} {found = found} {found' = found'} are marked f =
    record { placed = f.placed; each = λ entry. (has-mark entry, is-found entry) }
  where
    has-mark : (entry : ℕ) → Contains found' entry → (entry < number + 1) × IsMarked marks entry
    has-mark entry has =
        elim (Contains-append_cases found f.grows.more entry
        (rw f.grows.is at has)) [
          | inl before ↦ (let (below, mark) = (are.each entry).0 before in (omega arith, mark))
          | inr new ↦ (let same = only-one number entry (f.grows.among entry new) in
              (omega arith, rw same marked))
        ]

    is-found : (entry : ℕ) → (entry < number + 1) × IsMarked marks entry → Contains found' entry
    is-found entry (below, mark) = elim (cases_lt entry number) [
      | inl before ↦
          rw f.grows.is (Contains-append_left found f.grows.more entry ((are.each entry).1 (before, mark)))
      | inr after ↦ found-in-row f.is_row entry (0, omega arith, omega arith)
    ]

-- the next one has none
pub found-same : {marks : List Bool} {number : ℕ} {places found : List ℕ} → FindsMarked marks number places found
    → get_or marks number false ≡ false → FindsMarked marks (number + 1) places found
found-same {marks = marks} {number = number} {found = found} are none =
    record { placed = are.placed; each = λ entry. (has-mark entry, is-found entry) }
  where
    has-mark : (entry : ℕ) → Contains found entry → (entry < number + 1) × IsMarked marks entry
    has-mark entry has = (let (below, mark) = (are.each entry).0 has in (omega arith, mark))

    is-found : (entry : ℕ) → (entry < number + 1) × IsMarked marks entry → Contains found entry
    is-found entry (below, mark) = elim (cases_lt entry number) [
      | inl before ↦ (are.each entry).1 (before, mark)
      | inr after ↦
          let same : entry ≡ number = omega arith in
          let no : true ≡ false = sym mark ∙ ap (λ (n : ℕ). get_or marks n false) same ∙ none in
          absurd (cc)
    ]

-- all with marks are the roots
pub found-roots : (roots : List ℕ) (marks : List Bool) (places found : List ℕ) → AreMarks roots marks
    → All (λ to. to < length marks) roots → FindsMarked marks (length marks) places found
    → FindsRoots roots places found
found-roots roots marks places found are within f = record {
  placed = f.placed;
  each =
      λ entry. (
        λ has. (are entry).0 ((f.each entry).0 has).1,
        λ has. (f.each entry).1
            (All-contains (λ to. to < length marks) roots entry within has, (are entry).1 has),
      );
}

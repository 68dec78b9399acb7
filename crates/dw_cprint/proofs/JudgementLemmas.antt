-- The named types by their numbers: why each is refused, and the listing of those that are printed and of the others.
use Rattle.std.proofs.Common.{◌≡◌, ◌≢◌, ℕ, zero, suc, ◌+◌, ◌<◌, Bool, true, false, List, [], ◌∷◌, ◌++◌, refl, sym, ◌∙◌, ap, subst, inl, inr, length, map, get_or, arith, append-nil, take, Option, Some, None, nat_eq, slice_get}
use Rattle.std.specs.Prelude.{◌⊎◌, All, Contains, AllPairs, filter, flat_map}
use Rattle.std.specs.List.{range_with_len, filter_map, list_any}
use Rattle.std.proofs.lemmas.Bool.{eqb-true, false_from_ne_true}
use Rattle.std.proofs.lemmas.Map.Views.{Contains-from_any}
use Rattle.indexmap.specs.IndexSet.{insert_key}
use Rattle.std.proofs.lemmas.Option.{get_or_from_slice_get, slice_get-get_or, slice_get_within, some_pair_parts}
use Rattle.std.proofs.lemmas.List.{get_or_default, get_or-map, get_or-take, length-map, length_push, length-take-le}
use Rattle.std.proofs.lemmas.List.Elements.{All-contains, All-contains_itself, All-filter, Contains-append_left, Contains-append_right, All-rest, Contains-get_or, filter_more, filter_passes}
use Rattle.std.proofs.lemmas.List.Kept.{AllPairs-filter}
use Rattle.std.proofs.lemmas.List.Sorted.{Contains-permutation}
use Rattle.dw_image.specs.declared.image.Image.{Image}
use Rattle.dw_image.specs.Images.{entries_in}
use Rattle.dw_cprint.specs.EntryShapes.{shape_in, subject_in}
use Rattle.dw_cprint.specs.Judgements.{AreFirstRefusals, AreRefusals, IsPrintedNumber, IsRefusal, is_printed, is_there_none, refused_number, refused_pair}
use Rattle.dw_cprint.specs.Listings.{IsNamedType, AreNamedTypes, AreRanked, StandsBefore, IsListing}
use Rattle.dw_cprint.specs.Kept.{WritesDeclaration}
use Rattle.dw_cprint.specs.Refusals.{PrintFault, AppendsDeclaration, Refuses, IsPrinted}
use Rattle.dw_cprint.specs.Shapes.{ShapeOf, SubjectOf, TypeAt}
use Rattle.dw_cprint.specs.Steps.{entries_among, first_steps, types_declared}
use Rattle.dw_cprint.specs.Summaries.{AreAmong, BySurvey, IsSurveyOf}
use Rattle.dw_cprint.specs.declared.survey.Survey.{Survey}
use Rattle.dw_cprint.proofs.RefusalLemmas.{one-rule, printed-or-refused, writes-printed}
use Rattle.dw_cprint.proofs.NumberLemmas.{each-more, kept-has, picked-of, picked-pairs, picked-there, range-rising, range-there}
use Rattle.dw_cprint.proofs.ReachLemmas.{from-map, into-map}

-- the steps of one entry are among those of all
pub steps-among : (f : ℕ → List ℕ) (ids : List ℕ) (i : ℕ) → i < length ids
    → AreAmong (f (get_or ids i 0)) (flat_map f ids)
steps-among f [] i w entry has = absurd (omega arith)
steps-among f (y ∷ ids) zero w entry has = Contains-append_left (f y) (flat_map f ids) entry has
steps-among f (y ∷ ids) (suc i) w entry has =
    Contains-append_right (f y) (flat_map f ids) entry (steps-among f ids i (omega arith) entry has)

stands-apart : (level : ℕ → ℕ) (a b : ℕ) → StandsBefore level a b → a ≢ b
stands-apart level a b (inl less) same = (let e = ap level same in omega arith)
stands-apart level a b (inr (level_same, less)) same = omega arith

-- the numbers in the order of their levels are apart
pub numbers-apart : (image : Image) (named numbers : List ℕ) → AreRanked image named numbers
    → AllPairs (λ j k. j ≢ k) numbers
numbers-apart image named numbers ranks i j d less w same =
    let f : ℕ → ℕ = λ k. get_or named k 0 in
    stands-apart ranks.level (f (get_or numbers i d)) (f (get_or numbers j d)) (ranks.by_level i j d less w) (ap f same)

-- ---- refusals

-- none is known
pub no-refusals : (image : Image) (named : List ℕ) → AreFirstRefusals image named 0 []
no-refusals image named = record { long = refl; each = λ k w. absurd (omega arith) }

-- and one more
pub refusals-more : (image : Image) (named : List ℕ) (k entry : ℕ) (refusals more : List (Option PrintFault))
    (r : Option PrintFault) → AreFirstRefusals image named k refusals → more ≡ refusals ++ r ∷ []
    → entry ≡ get_or named k 0 → IsRefusal (shape_in image) (subject_in image entry) r
    → AreFirstRefusals image named (k + 1) more
refusals-more image named k entry refusals more r h is at one =
    let R : ℕ → Option PrintFault → Type 0 = λ j q. IsRefusal (shape_in image) (subject_in image (get_or named j 0)) q
    in
    rw is (record {
      long = omega (arith, length_push refusals r, h.long);
      each = λ j w. each-more R refusals r None (λ i v. h.each i (omega (arith, v, h.long)))
          (rw (h.long, ← at) one) j
          (omega (arith, w, h.long, length_push refusals r));
    })

-- ---- those that are printed

there-none : (o : Option (Option PrintFault)) → is_there_none o ≡ true → o ≡ Some None
there-none (Some None) is = refl
there-none (Some (Some rule)) is = absurd (cc)
there-none None is = absurd (cc)

module _ (p : ℕ → Bool) (numbers : List ℕ) (i : ℕ) (within : i < length numbers) where
  abbrev x : ℕ
  x = get_or numbers i 0

  pub kept-out : (keys : List ℕ) → keys ≡ filter p (take i numbers) → p x ≡ false
      → keys ≡ filter p (take (i + 1) numbers)
  kept-out keys so_far fails =
      let none : filter p (take (i + 1) numbers) ≡ filter p (take i numbers) =
      rw (filter_more p numbers i 0 within, fails) (append-nil (filter p (take i numbers))) in
      so_far ∙ sym none

  absent : AllPairs (λ j k. j ≢ k) numbers → Contains (filter p (take i numbers)) x → ⊥
  absent apart has =
      let ys = take i numbers in
      let (j, w, same) = All-contains (Contains ys) (filter p ys) x
      (All-filter p (Contains ys) ys (All-contains_itself ys)) has in
      let less : j < i = omega (arith, length-take-le i numbers (omega arith), w) in
      apart j i x less within (sym (get_or-take i numbers j x less) ∙ same ∙ get_or_default numbers i 0 x within)

  pub kept-in : (keys keys' : List ℕ) → AllPairs (λ j k. j ≢ k) numbers → keys ≡ filter p (take i numbers) → p x ≡ true
      → keys' ≡ insert_key nat_eq keys x → keys' ≡ filter p (take (i + 1) numbers)
  kept-in keys keys' apart so_far passes added =
      let before = filter p (take i numbers) in
      let new : list_any (nat_eq x) before ≡ false = false_from_ne_true (list_any (nat_eq x) before)
      (λ t. absent apart (Contains-from_any {eq = nat_eq} (λ a b. eqb-true a b) x before t)) in
      let one : filter p (take (i + 1) numbers)
      ≡ before ++ x ∷ [] = rw (filter_more p numbers i 0 within, passes) refl in
      added ∙ ap (λ (l : List ℕ). insert_key nat_eq l x) so_far ∙ rw new (sym one)

-- ---- the listing

refused-parts : (o : Option ℕ) (r : Option (Option PrintFault)) (entry : ℕ) (rule : PrintFault)
    → refused_pair o r ≡ Some (entry, rule) → (o ≡ Some entry) × (r ≡ Some (Some rule))
refused-parts None r entry rule is = absurd (cc)
refused-parts (Some x) None entry rule is = absurd (cc)
refused-parts (Some x) (Some None) entry rule is = absurd (cc)
refused-parts (Some x) (Some (Some f)) entry rule is =
    let (same, alike) = some_pair_parts x entry f rule is in
    (ap Some same, ap (λ (r : PrintFault). Some (Some r)) alike)

-- the entry and the refusal with a number
refused-at : (named : List ℕ) (refusals : List (Option PrintFault)) (k entry : ℕ) (rule : PrintFault)
    → refused_number named refusals k ≡ Some (entry, rule)
    → (k < length named) × (get_or named k 0 ≡ entry) × (get_or refusals k None ≡ Some rule)
refused-at named refusals k entry rule is =
    let (at, found) = refused-parts (slice_get named k) (slice_get refusals k) entry rule is in (
      slice_get_within named k entry at,
      get_or_from_slice_get named k entry 0 at,
      get_or_from_slice_get refusals k (Some rule) None found,
    )

module _ {image : Image} {named : List ℕ} {refusals : List (Option PrintFault)}
    (h : AreRefusals image named refusals) where
  -- no type is printed that has a refusal
  pub printed-numbers : (numbers : List ℕ)
      → All (IsPrintedNumber image named) (filter (is_printed refusals) numbers)
  printed-numbers numbers =
      λ i d w. by (get_or (filter p numbers) i d) (filter_passes p numbers i d w)
    where
      p : ℕ → Bool
      p = is_printed refusals

      by : (k : ℕ) → p k ≡ true → IsPrintedNumber image named k
      by k is =
          let found = there-none (slice_get refusals k) is in
          let inside : k < length named = omega (arith, slice_get_within refusals k None found, h.long) in
          (inside, rw (get_or_from_slice_get refusals k None None found) at (h.each k inside))

  module _ (numbers : List ℕ) (names : AreNamedTypes image named) (ranks : AreRanked image named numbers) where
    abbrev keys : List ℕ
    keys = filter (is_printed refusals) numbers

    abbrev entry_at : ℕ → ℕ
    entry_at k = get_or named k 0

    abbrev order : List ℕ
    order = map entry_at keys

    abbrev rs : List (ℕ × PrintFault)
    rs = filter_map (refused_number named refusals) (range_with_len 0 (length named))

    is-named : (k : ℕ) → k < length named → IsNamedType image (entry_at k)
    is-named k w = (names.all (entry_at k)).0 (Contains-get_or named k 0 w)

    printed-there : (entry : ℕ) → Contains order entry
        → IsNamedType image entry × IsPrinted (shape_in image) (subject_in image entry)
    printed-there entry has =
        let (i, w, e) = from-map named keys order entry refl has in
        let (inside, printed) = printed-numbers numbers i 0 w in
        rw (← e) (is-named (get_or keys i 0) inside, printed)

    refused-there : (entry : ℕ) (rule : PrintFault) → Contains rs (entry, rule)
        → IsNamedType image entry × Refuses (shape_in image) (subject_in image entry) rule
    refused-there entry rule has =
        let (k, there, is) = picked-of (refused_number named refusals) (range_with_len 0 (length named)) (entry, rule)
        has in
        let (inside, e, r) = refused-at named refusals k entry rule is in
        rw (← e) (is-named k inside, rw r at (h.each k inside))

    -- each that is refused is an entry
    pub refused-within : All (λ (r : ℕ × PrintFault). r.0 < length (entries_in image)) rs
    refused-within k d w = (let r = get_or rs k d in (refused-there r.0 r.1 (Contains-get_or rs k d w)).0.0)

    each-named : (entry : ℕ) → IsNamedType image entry
        → Contains order entry ⊎ ((rule : PrintFault) × Contains rs (entry, rule))
    each-named entry is =
        let (k, w, e) = (names.all entry).1 is in
        by k w (get_or_default named k 0 entry w ∙ e) (get_or refusals k None) refl
      where
        by : (k : ℕ) → k < length named → entry_at k ≡ entry → (r : Option PrintFault) → get_or refusals k None ≡ r
            → Contains order entry ⊎ ((rule : PrintFault) × Contains rs (entry, rule))
        by k w e None none =
            let has = Contains-permutation (range_with_len 0 (length named)) numbers k ranks.all
            (range-there (length named) k w) in
            let passes = ap is_there_none
            (slice_get-get_or refusals k None (omega (arith, h.long, w)) ∙ ap Some none) in
            let (j, u, at) = kept-has (is_printed refusals) numbers k has passes in
            inl (subst (Contains order) (ap entry_at (get_or_default keys j 0 k u ∙ at) ∙ e)
            (into-map named keys order j refl u))
        by k w e (Some rule) some = inr (
          rule,
          picked-there (refused_number named refusals) (range_with_len 0 (length named)) k (entry, rule)
              (range-there (length named) k w)
              (rw (slice_get-get_or named k 0 w, slice_get-get_or refusals k None (omega (arith, h.long, w)), e, some)
              refl),
        )

    pub listing-done : IsListing image order rs
    listing-done = record {
      level = ranks.level;
      levels = ranks.levels;
      printed = λ entry. (
        printed-there entry,
        λ (is, p). elim (each-named entry is) [
          | inl has ↦ has
          | inr (rule, has) ↦ absurd (printed-or-refused (shape_in image) (subject_in image entry) rule p
              (refused-there entry rule has).1)
        ],
      );
      by_level = λ i j d less w.
          let v : j < length keys = omega (arith, length-map keys entry_at, w) in
          let L : ℕ → ℕ → Type 0 = λ a b. StandsBefore ranks.level (entry_at a) (entry_at b) in
          rw (get_or-map entry_at keys i 0 d (omega (arith, less, v)), get_or-map entry_at keys j 0 d v)
          (AllPairs-filter L (is_printed refusals) numbers ranks.by_level i j 0 less v);
      others = λ entry rule. (
        refused-there entry rule,
        λ (is, f). elim (each-named entry is) [
          | inl has ↦ absurd (printed-or-refused (shape_in image) (subject_in image entry) rule
              (printed-there entry has).1 f)
          | inr (other, has) ↦
              rw (one-rule (shape_in image) (subject_in image entry) other rule (refused-there entry other has).1 f)
              at has
        ],
      );
      by_offset =
          picked-pairs (λ (a b : ℕ). a < b) (λ (a b : ℕ × PrintFault). a.0 < b.0) (refused_number named refusals)
          (range_with_len 0 (length named))
          (λ j k a b less first second.
          let (wj, aj, rj) = refused-at named refusals j a.0 a.1 first in
          let (wk, ak, rk) = refused-at named refusals k b.0 b.1 second in
          let step = names.rising j k 0 less wk in
          omega (arith, aj, ak, step))
          (range-rising (length named));
      each = each-named;
    }

-- ---- one entry

module _ (image : Image) (id : ℕ) (s : Survey) (subject : SubjectOf) (types : List TypeAt)
    (is : subject ≡ subject_in image id) (are : types ≡ types_declared subject)
    (survey : IsSurveyOf (shape_in image) (entries_among types) s) where
  -- why an entry is refused, by a survey of the types that it leads to
  pub judged-entry : (r : Option PrintFault)
      → BySurvey s (first_steps subject) (λ shapes. IsRefusal shapes subject r)
      → IsRefusal (shape_in image) (subject_in image id) r
  judged-entry r known =
      rw is at (known (shape_in image) (entries_among types) survey (λ entry has. rw are has))

  -- and the text of one that is printed
  pub written-entry : (old new : List ℕ) → IsPrinted (shape_in image) (subject_in image id)
      → WritesDeclaration s subject old new → AppendsDeclaration (shape_in image) (subject_in image id) old new
  written-entry old new printed writes =
      rw is at (writes-printed (shape_in image) subject (entries_among types) s old new survey (λ entry has. rw are has)
      (rw is printed) writes)

-- a text that is appended after it was written into a vector of its own
pub appended : (shapes : ℕ → ShapeOf) (subject : SubjectOf) (old text read new : List ℕ)
    → AppendsDeclaration shapes subject [] text → read ≡ text → new ≡ old ++ read
    → AppendsDeclaration shapes subject old new
appended shapes subject old text read new (d, there, is) same added =
    (d, there, added ∙ ap (λ (u : List ℕ). old ++ u) (same ∙ is))

-- ---- lists of entries

-- what is picked by numbers that are all there
pub all-there : (named keys : List ℕ) → All (λ k. k < length named) keys
    → filter_map (slice_get named) keys ≡ map (λ k. get_or named k 0) keys
all-there named [] all = refl
all-there named (k ∷ keys) all =
    let rest = all-there named keys (All-rest (λ k. k < length named) k keys (k ∷ keys) refl all) in
    let here = slice_get-get_or named k 0 (all 0 0 (omega arith)) in
    rw (here, rest) refl

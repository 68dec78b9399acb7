-- Rows that are written one after another, and the values of entries in their order.
use Rattle.std.proofs.Common.{◌≡◌, ℕ, zero, suc, ◌+◌, ◌-◌, ◌<◌, ◌≤◌, inl, inr, List, [], ◌∷◌, ◌++◌, length, take, drop, map, Option, Some, None, refl, sym, ap, subst, ◌∙◌, append_assoc, append-nil, length-append, drop-drop, drop_at, arith}
use Rattle.std.proofs.lemmas.List.{drop-set-lt, length-map}
use Rattle.std.proofs.lemmas.Bool.{cases_lt}
use Rattle.std.proofs.lemmas.Option.{same_Some, slice_get_within, slice_get-get_or, slice_get-map}
use Rattle.std.proofs.Math.Seq.{take-length}
use Rattle.std.specs.Prelude.{slice_get, slice_set, option_map, unwrap_or}
use Rattle.std.specs.Option.{IsSomeAnd, option_flatten}
use Rattle.dw_forms.specs.Value.{Datum}
use Rattle.dw_entries.specs.EntryRules.{values_of}
use Rattle.dw_entries.specs.ValuePlaces.{PlacedValue, placed_values}
use Rattle.dw_entries.proofs.ValuePlaceLaws.{placed_long, values_placed}
use Rattle.dw_entries.specs.Entries.{Entry}
use Rattle.dw_entries.specs.ByNumber.{no_entry, entry_of}
use Rattle.dw_image.specs.declared.image.Image.{Image}
use Rattle.dw_image.specs.Images.{entries_in, entry_count, name_in, name_place_in}
use Rattle.dwv_c.specs.declared.meaning.ValueRow.{ValueRow}
use Rattle.dwv_c.specs.declared.meaning.Meaning.{Meaning}
use Rattle.dwv_c.specs.declared.places.Span.{Span}
use Rattle.dwv_c.specs.Meanings.{named_after}
use Rattle.dwv_c.specs.Meanings.{HasValue}
use Rattle.dwv_c.specs.declared.places.Holders.{Holders}
use Rattle.dwv_c.specs.SectionPlaces.{IsNameSpan, nowhere}
use Rattle.dwv_c.specs.ValueRows.{HasMeaning, IsMeaning, IsValueRow, Told, told, values_from, values_in}
use Rattle.dwv_c.specs.Tables.{HaveValues, value_count, values_before}
use Rattle.dw_links.proofs.ListLookups.{there}
use Rattle.dwv_c.proofs.NamedLemmas.{IsNamed, name_among, named_all, named_more}

-- ---- rows, one after another

get_set_same : {X : Type 0} (xs : List X) (k : ℕ) (y : X) → k < length xs → slice_get (slice_set xs k y) k ≡ Some y
get_set_same [] k y less = absurd (omega (arith, less))
get_set_same (x ∷ xs) zero y less = refl
get_set_same (x ∷ xs) (suc k) y less = get_set_same xs k y (omega (arith, less))

get_set_other : {X : Type 0} (xs : List X) (n k : ℕ) (y : X) → k < n
    → slice_get (slice_set xs n y) k ≡ slice_get xs k
get_set_other [] n k y less = refl
get_set_other (x ∷ xs) zero k y less = absurd (omega (arith, less))
get_set_other (x ∷ xs) (suc n) zero y less = refl
get_set_other (x ∷ xs) (suc n) (suc k) y less = get_set_other xs n k y (omega (arith, less))

-- the rows of the first items of a list
abbrev pub Have : {X R : Type 0} → (ℕ → X → R → Type 0) → List X → ℕ → List R → Type 0
Have {X} P xs n rows = (k : ℕ) (x : X) → k < n → slice_get xs k ≡ Some x → IsSomeAnd (slice_get rows k) (P k x)

-- and that of the next one
pub have_more : {X R : Type 0} (P : ℕ → X → R → Type 0) (xs : List X) (n : ℕ) (rows : List R) (r : R) → n < length rows
    → Have P xs n rows → ((x : X) → slice_get xs n ≡ Some x → P n x r) → Have P xs (n + 1) (slice_set rows n r)
have_more {X} {R} P xs n rows r room so_far says k x below at = elim (cases_lt k n) [
  | inl less ↦ subst (λ (o : Option R). IsSomeAnd o (P k x)) (sym (get_set_other rows n k r less)) (so_far k x less at)
  | inr le ↦
      let same : k ≡ n = omega (arith, le, below) in
      let here : IsSomeAnd (slice_get (slice_set rows n r) n) (P n x) =
      subst (λ (o : Option R). IsSomeAnd o (P n x)) (sym (get_set_same rows n r room))
      (says x (ap (slice_get xs) (sym same) ∙ at)) in
      subst (λ (m : ℕ). IsSomeAnd (slice_get (slice_set rows n r) m) (P m x)) (sym same) here
]

-- what follows a row stays where the row is written, and what follows it stays what it was
pub rest_more : {X : Type 0} (xs ys : List X) (n : ℕ) (x : X) → drop n xs ≡ drop n ys
    → drop (n + 1) (slice_set xs n x) ≡ drop (n + 1) ys
rest_more xs ys n x same =
    drop-set-lt (n + 1) xs n x (omega arith) ∙ sym (drop-drop 1 n xs) ∙ ap (drop 1) same ∙ drop-drop 1 n ys

-- what follows more rows stays, too
pub rest_on : {X : Type 0} (xs ys zs : List X) (n m : ℕ) → n ≤ m → drop m zs ≡ drop m xs → drop n xs ≡ drop n ys
    → drop m zs ≡ drop m ys
rest_on {X} xs ys zs n m le more same =
    let sum : n + (m - n) ≡ m = omega (arith, le) in
    let at : (l : List X) → drop (m - n) (drop n l) ≡ drop m l =
    λ (l : List X). drop-drop (m - n) n l ∙ ap (λ (k : ℕ). drop k l) sum in
    more ∙ sym (at xs) ∙ ap (drop (m - n)) same ∙ at ys

-- ---- the values of entries

-- those from an entry on
values_at : (n k m : ℕ) (es : List Entry) (e : Entry) → m ≡ n + k → slice_get es k ≡ Some e
    → drop (length (values_from n (take k es))) (values_from n es)
    ≡ map (told m e) (placed_values e) ++ values_from (suc m) (drop (suc k) es)
values_at n k m [] e sum is = absurd cc
values_at n zero m (x ∷ es) e sum is =
    let same : x ≡ e = same_Some x e is in
    let number : n ≡ m = omega (arith, sum) in
    subst (λ (y : Entry). values_from n (x ∷ es) ≡ map (told m y) (placed_values y) ++ values_from (suc m) es) same
    (subst (λ (p : ℕ). values_from n (x ∷ es) ≡ map (told p x) (placed_values x) ++ values_from (suc p) es) number
    refl)
values_at n (suc k) m (x ∷ es) e sum is =
    let own : List Told = map (told n x) (placed_values x) in
    let front : List Told = values_from (suc n) (take k es) in
    let more : List Told = values_from (suc n) es in
    ap (λ (l : ℕ). drop l (own ++ more)) (length-append own front)
    ∙ sym (drop-drop (length front) (length own) (own ++ more))
    ∙ ap (drop (length front)) (drop_at own more (length own) refl)
    ∙ values_at (suc n) k m es e (omega (arith, sum)) is

-- how many there are before the next entry
values_counted : (n k : ℕ) (es : List Entry) (e : Entry) → slice_get es k ≡ Some e
    → length (values_from n (take (suc k) es)) ≡ length (values_from n (take k es)) + length (values_of e.head)
values_counted n k [] e is = absurd cc
values_counted n zero (x ∷ es) e is =
    let same : x ≡ e = same_Some x e is in
    let own : length (values_from n (x ∷ [])) ≡ length (values_of x.head) =
    ap length (append-nil (map (told n x) (placed_values x))) ∙ length-map (placed_values x) (told n x)
    ∙ placed_long x in
    let none_before : length (values_of e.head) ≡ 0 + length (values_of e.head) = omega arith in
    own ∙ ap (λ (y : Entry). length (values_of y.head)) same ∙ none_before
values_counted n (suc k) (x ∷ es) e is =
    let own : List Told = map (told n x) (placed_values x) in
    let more = values_counted (suc n) k es e is in
    let a : length (own ++ values_from (suc n) (take (suc k) es))
    ≡ length own + length (values_from (suc n) (take (suc k) es)) =
    length-append own (values_from (suc n) (take (suc k) es)) in
    let b : length (own ++ values_from (suc n) (take k es)) ≡ length own + length (values_from (suc n) (take k es)) =
    length-append own (values_from (suc n) (take k es)) in
    omega (arith, a, b, more)

pub all_before : (i : Image) → values_before i (entry_count i) ≡ value_count i
all_before i = ap (λ (es : List Entry). length (values_from 0 es)) (take-length (entries_in i))

pub counted_at : (i : Image) (id : ℕ) (e : Entry) → slice_get (entries_in i) id ≡ Some e
    → values_before i (id + 1) ≡ values_before i id + length (values_of e.head)
counted_at i id e is =
    ap (values_before i) (let same : id + 1 ≡ suc id = omega arith in same) ∙ values_counted 0 id (entries_in i) e is

pub values_rise : (i : Image) (n : ℕ) → n < entry_count i → values_before i n ≤ values_before i (n + 1)
values_rise i n below = let (e, is) = there (entries_in i) n below in omega (arith, counted_at i n e is)

-- the walk over the values of an entry is at this value of all, and these are left
pub record IsAtValue (h : Holders) (i : Image) (id at : ℕ) (left : List PlacedValue) (named : Option (Option Span))
    : Type 0 where
  pub within : id < entry_count i
  pub done : List PlacedValue
  pub parts : placed_values (entry_of (entries_in i) id) ≡ done ++ left
  pub tail : List Told
  pub all : drop at (values_in i) ≡ map (told id (entry_of (entries_in i) id)) left ++ tail
  pub next : at + length left ≡ values_before i (id + 1)
  pub name : IsNamed h i (entry_of (entries_in i) id) (name_among h i (entry_of (entries_in i) id) done) named

-- where it starts
pub at_entry : (h : Holders) (i : Image) (id at : ℕ) (left : List PlacedValue) → id < entry_count i
    → at ≡ values_before i id → left ≡ placed_values (entry_of (entries_in i) id) → IsAtValue h i id at left None
at_entry h i id at left below at_is left_is =
    let e = entry_of (entries_in i) id in
    let is = slice_get-get_or (entries_in i) id no_entry below in
    record {
      within = below;
      done = [];
      parts = sym left_is;
      tail = values_from (suc id) (drop (suc id) (entries_in i));
      all = ap (λ (n : ℕ). drop n (values_in i)) at_is ∙ values_at 0 id id (entries_in i) e (omega arith) is
          ∙ ap (λ (vs : List PlacedValue). map (told id e) vs ++ values_from (suc id) (drop (suc id) (entries_in i)))
          (sym left_is);
      next = let counted = counted_at i id e is in omega (arith, counted, at_is, ap length left_is, placed_long e);
      name = tt;
    }

drop_more : {X : Type 0} (n : ℕ) (xs : List X) (x : X) (rest : List X) → drop n xs ≡ x ∷ rest
    → (slice_get xs n ≡ Some x) × (drop (suc n) xs ≡ rest)
drop_more n [] x rest is = absurd (let none : drop n [] ≡ [] = drop_none n in let both = sym none ∙ is in cc)
  where
    drop_none : {Y : Type 0} (n : ℕ) → ◌≡◌ {A = List Y} (drop n []) []
    drop_none zero = refl
    drop_none (suc n) = refl
drop_more zero (y ∷ xs) x rest is = (cc, cc)
drop_more (suc n) (y ∷ xs) x rest is = drop_more n xs x rest is

middle : {X : Type 0} (xs done left : List X) (x : X) → xs ≡ done ++ (x ∷ left) → slice_get xs (length done) ≡ Some x
middle xs [] left x is = ap (λ (l : List _). slice_get l 0) is
middle [] (d ∷ done) left x is = absurd cc
middle (y ∷ xs) (d ∷ done) left x is = middle xs done left x (let e = is in cc)

module _ (h : Holders) (i : Image) (id at : ℕ) (item : PlacedValue) (left : List PlacedValue)
    (named : Option (Option Span)) (w : IsAtValue h i id at (item ∷ left) named) where
  here : (slice_get (values_in i) at ≡ Some (told id (entry_of (entries_in i) id) item))
      × (drop (suc at) (values_in i) ≡ map (told id (entry_of (entries_in i) id)) left ++ w.tail)
  here =
      drop_more at (values_in i) (told id (entry_of (entries_in i) id) item)
      (map (told id (entry_of (entries_in i) id)) left ++ w.tail) w.all

  value_here : slice_get (values_in i) at ≡ Some (told id (entry_of (entries_in i) id) item)
  value_here = here.0

  at_within : at < value_count i
  at_within = slice_get_within (values_in i) at (told id (entry_of (entries_in i) id) item) value_here

  has_here : slice_get (values_of (entry_of (entries_in i) id).head) (length w.done)
      ≡ Some (item.attribute, item.value)
  has_here =
      let e = entry_of (entries_in i) id in
      let pair : PlacedValue → ℕ × Datum = λ (p : PlacedValue). (p.attribute, p.value) in
      ap (λ (l : List (ℕ × Datum)). slice_get l (length w.done)) (sym (values_placed e))
      ∙ slice_get-map pair (placed_values e) (length w.done)
      ∙ ap (option_map pair) (middle (placed_values e) w.done left item w.parts)

  pub at_next : (m : Meaning) → IsMeaning h i (entry_of (entries_in i) id) item.end item.value m
      → IsAtValue h i id (at + 1) left (named_after named item.attribute m)
  at_next m means = record {
    within = w.within;
    done = w.done ++ (item ∷ []);
    parts = w.parts ∙ sym (append_assoc w.done (item ∷ []) left);
    tail = w.tail;
    all = ap (λ (n : ℕ). drop n (values_in i)) (let e : at + 1 ≡ suc at = omega arith in e) ∙ here.1;
    next = omega (arith, w.next);
    name = named_more h i (entry_of (entries_in i) id) w.done item named m w.name means;
  }

  -- the value at hand is one of the entry
  pub value_of_entry : (unit : ℕ) → unit ≡ (entry_of (entries_in i) id).unit → HasValue i unit item.value
  value_of_entry unit is = record {
    id = id;
    within = w.within;
    in_unit = sym is;
    position = length w.done;
    attribute = item.attribute;
    has = has_here;
  }

  -- the rows of the values up to it and with it, by the row of its meaning
  pub values_more : (rows : List ValueRow) (row : ValueRow) (m : Meaning) → value_count i ≤ length rows
      → HaveValues h i at rows → row.entry ≡ id → row.attribute ≡ item.attribute → HasMeaning m row → row.zero ≡ 0
      → IsMeaning h i (entry_of (entries_in i) id) item.end item.value m
      → HaveValues h i (at + 1) (slice_set rows at row)
  values_more rows row m room so_far entry attribute has is_zero means =
      have_more (λ k t r. IsValueRow h i t r) (values_in i) at rows row
      (let below = at_within in omega (arith, below, room)) so_far
      (λ t is. subst (λ (x : Told). IsValueRow h i x row) (same_Some _ t (sym value_here ∙ is))
      (record {
        entry = entry;
        attribute_is = attribute;
        meaning = m;
        means = means;
        says = has;
        zero_is = is_zero;
      }))

pub at_last : (h : Holders) (i : Image) (id at : ℕ) (left : List PlacedValue) (named : Option (Option Span)) → left ≡ []
    → IsAtValue h i id at left named → at ≡ values_before i (id + 1)
at_last h i id at left named none w = omega (arith, w.next, ap length none)

-- the name is known then
pub name_at_last : (h : Holders) (i : Image) (id at : ℕ) (left : List PlacedValue) (named : Option (Option Span))
    → left ≡ [] → IsAtValue h i id at left named
    → IsNameSpan h (name_in i (entry_of (entries_in i) id)) (name_place_in i (entry_of (entries_in i) id))
    (unwrap_or (option_flatten named) nowhere)
name_at_last h i id at left named none w =
    let e = entry_of (entries_in i) id in
    let all : w.done ≡ placed_values e =
    sym (append-nil w.done) ∙ ap (λ (l : List PlacedValue). w.done ++ l) (sym none) ∙ sym w.parts in
    named_all h i e named (subst (λ (l : List PlacedValue). IsNamed h i e (name_among h i e l) named) all w.name)

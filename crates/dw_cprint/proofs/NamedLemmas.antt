-- The named types of an image, one after another, and what is declared at each, by its tag.
use Rattle.std.proofs.Common.{◌≡◌, ℕ, zero, suc, ◌+◌, Bool, true, false, List, [], ◌∷◌, ◌++◌, Option, Some, None, refl, sym, ap, ◌∙◌, length, arith, get_or}
use Rattle.std.specs.Prelude.{◌==◌, ◌&&◌, not, is_some, if◌then◌else◌}
use Rattle.std.specs.List.{cons_option, filter_map, range_with_len}
use Rattle.std.proofs.lemmas.Bool.{eqb-true}
use Rattle.std.proofs.lemmas.List.{get_or_append_left, get_or_push, length-append}
use Rattle.std.proofs.lemmas.List.Elements.{filter_map-append}
use Rattle.dw_forms.specs.Codes.{DW_TAG_typedef, DW_TAG_variable}
use Rattle.dw_image.specs.References.{is_declared}
use Rattle.dw_image.specs.declared.image.Image.{Image}
use Rattle.dw_image.specs.Images.{entries_in}
use Rattle.dw_cprint.specs.EntryShapes.{body_in, subject_in, tag_in, tag_word}
use Rattle.dw_cprint.specs.Listings.{AreNamedTypes, is_named_type, named_number}
use Rattle.dw_cprint.specs.LookUps.{entry_by, name_at, tag_at, type_at}
use Rattle.dw_cprint.specs.Judgements.{AreKinds, AreNames, HoldsOfEach, IsKindOf, IsNameOf}
use Rattle.dw_cprint.specs.Shapes.{TagKeyword, SubjectOf, declared_subject, defined_subject, typedef_subject, variable_subject}
use Rattle.dw_cprint.specs.declared.named.NamedKind.TheVariants as kind
use Rattle.dw_cprint.specs.declared.named.NamedKind.{NamedKind}
use Rattle.dw_cprint.specs.declared.words.Text.{Text}
use Rattle.dw_cprint.proofs.ListingLemmas.{named_done}
use Rattle.dw_cprint.proofs.NumberLemmas.{each-more}

-- neither a typedef nor a variable has a word
typedef_word : (tag : ℕ) → (tag == DW_TAG_typedef) ≡ true → tag_word tag ≡ None
typedef_word tag is = ap tag_word (eqb-true tag DW_TAG_typedef is)

variable_word : (tag : ℕ) → (tag == DW_TAG_variable) ≡ true → tag_word tag ≡ None
variable_word tag is = ap tag_word (eqb-true tag DW_TAG_variable is)

module _ (image : Image) (id : ℕ) where
  -- what is declared, by the tests of the tag
  abbrev chosen : (typedef variable : Bool) → Option TagKeyword → SubjectOf
  chosen typedef variable word =
      if typedef then typedef_subject (name_at image id) (type_at image id)
      else if variable then variable_subject (name_at image id) (type_at image id)
      else tag_in image id word

  -- a structure, union or enumeration that is only declared, or with its body
  abbrev told : Bool → TagKeyword → SubjectOf
  told declared word =
      if declared then declared_subject word (name_at image id)
      else defined_subject (name_at image id) (body_in image id word)

  chosen_word : (a b : Bool) (word : TagKeyword) → (a ≡ true → Some word ≡ None) → (b ≡ true → Some word ≡ None)
      → is_named_type (chosen a b (Some word)) ≡ (not (is_declared (entry_by image id)) && is_some (name_at image id))
  chosen_word true b word none other = (let clash = none refl in absurd (cc))
  chosen_word false true word none other = (let clash = other refl in absurd (cc))
  chosen_word false false word none other = whole (is_declared (entry_by image id)) word
    where
      whole : (declared : Bool) (word : TagKeyword)
          → is_named_type (told declared word) ≡ (not declared && is_some (name_at image id))
      whole true word = refl
      whole false word = refl

  chosen_none : (a b : Bool) → is_named_type (chosen a b None) ≡ (a && is_some (name_at image id))
  chosen_none true b = refl
  chosen_none false true = refl
  chosen_none false false = refl

  -- ---- whether an entry is one

  pub with_word : (word : TagKeyword) (b : Bool) → tag_word (tag_at image id) ≡ Some word
      → b ≡ not (is_declared (entry_by image id))
      → is_named_type (subject_in image id) ≡ (b && is_some (name_at image id))
  unfolding subject_in
  with_word word b is declared =
      let tag = tag_at image id in
      let one = tag == DW_TAG_typedef in
      let other = tag == DW_TAG_variable in
      ap (λ (o : Option TagKeyword). is_named_type (chosen one other o)) is
      ∙ chosen_word one other word (λ t. sym is ∙ typedef_word tag t) (λ t. sym is ∙ variable_word tag t)
      ∙ ap (λ (b : Bool). b && is_some (name_at image id)) (sym declared)

  pub without_word : (b : Bool) → tag_word (tag_at image id) ≡ None → b ≡ (tag_at image id == DW_TAG_typedef)
      → is_named_type (subject_in image id) ≡ (b && is_some (name_at image id))
  unfolding subject_in
  without_word b is typed =
      let one = tag_at image id == DW_TAG_typedef in
      let other = tag_at image id == DW_TAG_variable in
      ap (λ (o : Option TagKeyword). is_named_type (chosen one other o)) is ∙ chosen_none one other
      ∙ ap (λ (b : Bool). b && is_some (name_at image id)) (sym typed)

  -- ---- what is declared at one

  chosen_defined : (a b : Bool) (word : TagKeyword) → (a ≡ true → Some word ≡ None) → (b ≡ true → Some word ≡ None)
      → is_declared (entry_by image id) ≡ false
      → chosen a b (Some word) ≡ defined_subject (name_at image id) (body_in image id word)
  chosen_defined true b word none other declared = (let clash = none refl in absurd (cc))
  chosen_defined false true word none other declared = (let clash = other refl in absurd (cc))
  chosen_defined false false word none other declared = ap (λ (d : Bool). told d word) declared

  pub defined_kind : (word : TagKeyword) → tag_word (tag_at image id) ≡ Some word
      → is_declared (entry_by image id) ≡ false
      → IsKindOf image id (kind.Defined word)
  unfolding subject_in
  defined_kind word is declared =
      let tag = tag_at image id in
      let one = tag == DW_TAG_typedef in
      let other = tag == DW_TAG_variable in
      sym (ap (chosen one other) is ∙ chosen_defined one other word
      (λ t. sym is ∙ typedef_word tag t) (λ t. sym is ∙ variable_word tag t) declared)

  pub defined_named : (word : TagKeyword) → tag_word (tag_at image id) ≡ Some word
      → is_declared (entry_by image id) ≡ false → is_named_type (subject_in image id) ≡ is_some (name_at image id)
  defined_named word is declared = ap is_named_type (sym (defined_kind word is declared))

  pub typedef_kind : tag_at image id ≡ DW_TAG_typedef
      → IsKindOf image id (kind.Typedef (type_at image id))
  unfolding subject_in
  typedef_kind is = rw is refl

-- ---- what is kept of those that were found

pub none_kept : {X : Type 0} (P : ℕ → X → Type 0) → HoldsOfEach P [] []
none_kept P = record { long = refl; each = λ k d w. absurd (omega arith) }

-- one more, and what is kept of it
one_more : {X : Type 0} (P : ℕ → X → Type 0) (ids ids' : List ℕ) (kept kept' : List X) (id : ℕ) (it : X)
    → HoldsOfEach P ids kept
    → P id it → ids' ≡ ids ++ id ∷ [] → kept' ≡ kept ++ it ∷ [] → HoldsOfEach P ids' kept'
one_more P ids ids' kept kept' id it h is more more-kept = rw (more, more-kept) (record {
  long = omega (arith, h.long, length-append ids (id ∷ []), length-append kept (it ∷ []));
  each = λ k d w. each-more (λ j n. P (get_or (ids ++ id ∷ []) j 0) n) kept it d
      (λ j v. rw (get_or_append_left ids (id ∷ []) 0 j (omega (arith, h.long, v))) (h.each j d v))
      (rw (get_or_push ids id 0 (length kept) (sym h.long)) is) k w;
})

pub names_more : (image : Image) (ids ids' : List ℕ) (names names' : List Text) (id : ℕ) (name : Text)
    → AreNames image ids names
    → IsNameOf image id name → ids' ≡ ids ++ id ∷ [] → names' ≡ names ++ name ∷ [] → AreNames image ids' names'
names_more image = one_more (IsNameOf image)

pub kinds_more : (image : Image) (ids ids' : List ℕ) (kinds kinds' : List NamedKind) (id : ℕ) (kind : NamedKind)
    → AreKinds image ids kinds
    → IsKindOf image id kind → ids' ≡ ids ++ id ∷ [] → kinds' ≡ kinds ++ kind ∷ [] → AreKinds image ids' kinds'
kinds_more image = one_more (IsKindOf image)

range-more : (a n j : ℕ) → a + n ≡ j → range_with_len a (suc n) ≡ range_with_len a n ++ j ∷ []
range-more a zero j e = let same : a ≡ j = omega arith in ap (λ (k : ℕ). k ∷ []) same
range-more a (suc n) j e = ap (λ (l : List ℕ). a ∷ l) (range-more (a + 1) n j (omega arith))

-- the named types among the first so many entries, their names and their kinds
pub record AreSoFar (image : Image) (count : ℕ) (ids : List ℕ) (names : List Text) (kinds : List NamedKind)
    : Type 0 where
  pub is : ids ≡ filter_map (named_number image) (range_with_len 0 count)
  pub are_names : AreNames image ids names
  pub are_kinds : AreKinds image ids kinds

-- one entry more
pub is_so_far : (image : Image) (count : ℕ) (ids ids' : List ℕ)
    → ids ≡ filter_map (named_number image) (range_with_len 0 count)
    → ids' ≡ ids ++ cons_option (named_number image count) []
    → ids' ≡ filter_map (named_number image) (range_with_len 0 (count + 1))
is_so_far image count ids ids' is more =
    let on : count + 1 ≡ suc count = omega arith in
    more ∙ rw (is, on) (sym (ap (filter_map (named_number image)) (range-more 0 count count (omega arith))
    ∙ filter_map-append (named_number image) (range_with_len 0 count) (count ∷ [])))

-- all of them
pub named_all : (image : Image) (count : ℕ) (ids : List ℕ) (names : List Text) (kinds : List NamedKind)
    → count ≡ length (entries_in image) → AreSoFar image count ids names kinds → AreNamedTypes image ids
named_all image count ids names kinds all h = named_done image ids (rw (← all) h.is)

-- ---- what the code cites

pub ruleset named_by_tag = (with_word, without_word, defined_named, defined_kind, typedef_kind)

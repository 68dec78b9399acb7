-- A program that is next in order, kept for its unit.
use Rattle.std.proofs.Common.{◌≡◌, ◌≢◌, ℕ, ◌+◌, ◌-◌, ◌<◌, ◌≤◌, List, length, get_or, set, Option, Some, None, sym, ap, ◌∙◌, subst}
use Rattle.std.proofs.Common.{inl, inr, ◌++◌, ◌∷◌, [], ◌⊎◌, arith}
use Rattle.std.specs.Prelude.{option_and_then, slice_get}
use Rattle.std.proofs.lemmas.List.{get_or_append_left, get_or_push, get_or-set_same, get_or-set_other, length_push}
use Rattle.std.proofs.lemmas.List.{length-append, length-set}
use Rattle.std.proofs.lemmas.Option.{get_or_from_slice_get, slice_get-get_or, slice_get_within}
use Rattle.dw_lines.specs.Programs.{program_end}
use Rattle.dw_addresses.specs.declared.line_index.LineIndex.{LineIndex}
use Rattle.dw_lines.specs.declared.program.LineSections.{LineSections}
use Rattle.dw_addresses.specs.Reading.{HasLast, IsAfter, IsNext, IsRead}
use Rattle.dw_addresses.specs.declared.lines.FileLines.{FileLines}
use Rattle.dw_addresses.specs.declared.named.Named.{Named}
use Rattle.dw_addresses.specs.declared.programs.Last.{Last}

-- what a function finds is found by one that finds more
found_in : {A : Type 0} (f g : ℕ → Option A) (o : Option ℕ) (x : A)
    → ((k : ℕ) → f k ≡ Some x → g k ≡ Some x) → option_and_then f o ≡ Some x → option_and_then g o ≡ Some x
found_in f g None x more e = e
found_in f g (Some k) x more e = more k e

-- an element that is there is there with more after it
got_before : {A : Type 0} (xs ys : List A) (k : ℕ) (x : A) → slice_get xs k ≡ Some x → slice_get (xs ++ ys) k ≡ Some x
got_before xs ys k x e =
    let lt = slice_get_within xs k x e in
    slice_get-get_or (xs ++ ys) k x (omega (arith, lt, length-append xs ys))
    ∙ ap Some (get_or_append_left xs ys x k lt ∙ get_or_from_slice_get xs k x x e)

-- the last element
got_last : {A : Type 0} (xs : List A) (y : A)
    → slice_get (xs ++ y ∷ []) (length (xs ++ y ∷ []) - 1) ≡ Some y
got_last xs y =
    let n = length (xs ++ y ∷ []) - 1 in
    slice_get-get_or (xs ++ y ∷ []) n y (omega (arith, length_push xs y))
    ∙ ap Some (get_or_push xs y y n (omega (arith, length_push xs y)))

module _ (sections : LineSections) (code : List (ℕ × ℕ)) (one : Named) (last new_last : Last)
    (lines read new : FileLines) (index : LineIndex) where
  -- the lines after the read, with the number of the last program for the unit, are those after the next program
  pub is_next : new_last.at ≡ one.at → new_last.size ≡ one.size → new_last.end ≡ program_end sections one.at
      → IsAfter last one.at → one.unit < length lines.of_unit.items → 1 ≤ length read.programs.items
      → slice_get read.programs.items (length read.programs.items - 1) ≡ Some index
      → IsRead sections code one.at one.size index
      → ((k : ℕ) (x : LineIndex) → slice_get lines.programs.items k ≡ Some x → slice_get read.programs.items k ≡ Some x)
      → new.programs ≡ read.programs
      → new.of_unit.items ≡ set lines.of_unit.items one.unit (Some (length read.programs.items - 1))
      → length new.of_unit.items ≡ length lines.of_unit.items
      → IsNext sections code one last lines new_last new
  is_next at size end after within some found is more programs units count =
      let n = length read.programs.items - 1 in
      let own : get_or new.of_unit.items one.unit None ≡ Some n =
      ap (λ (l : List (Option ℕ)). get_or l one.unit None) units
      ∙ get_or-set_same lines.of_unit.items one.unit (Some n) None within in
      let other : (unit : ℕ) → unit ≢ one.unit
      → get_or new.of_unit.items unit None ≡ get_or lines.of_unit.items unit None = λ unit ne.
      ap (λ (l : List (Option ℕ)). get_or l unit None) units
      ∙ get_or-set_other lines.of_unit.items one.unit unit (Some n) None ne in
      let there : slice_get new.programs.items n ≡ Some index =
      ap (λ p. slice_get p.items n) programs ∙ found in
      record {
        at = at;
        end = end;
        after = after;
        is_last = inr (
          subst (λ p. 1 ≤ length p.items) (sym programs) some,
          (
            index,
            ap (λ p. slice_get p.items (length p.items - 1)) programs ∙ found,
            subst (λ (x : ℕ). IsRead sections code x new_last.size index) (sym at)
                (subst (λ (x : ℕ). IsRead sections code one.at x index) (sym size) is),
            end ∙ ap (program_end sections) (sym at),
          ),
        );
        count = count;
        kept = (index, ap (option_and_then (slice_get new.programs.items)) own ∙ there, is);
        others = λ unit x ne e.
            ap (option_and_then (slice_get new.programs.items)) (other unit ne)
            ∙ found_in (slice_get lines.programs.items) (slice_get new.programs.items)
            (get_or lines.of_unit.items unit None) x (λ k g. ap (λ p. slice_get p.items k) programs ∙ more k x g) e;
        none = λ unit ne e. other unit ne ∙ e;
      }

module _ (sections : LineSections) (code : List (ℕ × ℕ)) (one : Named) (last new_last : Last)
    (lines read new : FileLines) (n : ℕ) (after : IsAfter last one.at) (within : one.unit < length lines.of_unit.items)
    (long : n ≡ length read.programs.items) (programs : new.programs ≡ read.programs)
    (units : new.of_unit.items ≡ set read.of_unit.items one.unit (Some (n - 1))) where
  module _ (same : read.of_unit ≡ lines.of_unit) where
    -- the numbers of programs after it
    units_are : new.of_unit.items ≡ set lines.of_unit.items one.unit (Some (length read.programs.items - 1))
    units_are =
        units ∙ ap (λ v. set v.items one.unit (Some (n - 1))) same
        ∙ ap (λ (k : ℕ). set lines.of_unit.items one.unit (Some (k - 1))) long

    count_is : length new.of_unit.items ≡ length lines.of_unit.items
    count_is =
        ap length units_are
        ∙ length-set lines.of_unit.items one.unit (Some (length read.programs.items - 1))

  -- a program that was read
  pub next_new : (index : LineIndex)
      → new_last ≡ record { at = one.at; size = one.size; end = program_end sections one.at }
      → IsRead sections code one.at one.size index → read.programs.items ≡ lines.programs.items ++ index ∷ []
      → read.of_unit ≡ lines.of_unit → IsNext sections code one last lines new_last new
  next_new index is_last is pushed same =
      let long' : length read.programs.items ≡ length lines.programs.items + 1 =
      ap length pushed ∙ length_push lines.programs.items index in
      is_next sections code one last new_last lines read new index
      (ap (λ (x : Last). x.at) is_last) (ap (λ (x : Last). x.size) is_last) (ap (λ (x : Last). x.end) is_last) after
      within
      (omega (arith, long'))
      (ap (λ (l : List LineIndex). slice_get l (length l - 1)) pushed ∙ got_last lines.programs.items index) is
      (λ k x e.
      ap (λ (l : List LineIndex). slice_get l k) pushed ∙ got_before lines.programs.items (index ∷ []) k x e) programs
      (units_are same) (count_is same)

  -- the program that was read last
  pub next_same : (last.at ≡ one.at) × (last.size ≡ one.size) → new_last ≡ last → read ≡ lines
      → HasLast sections code lines last → (one.size ≡ 4) ⊎ (one.size ≡ 8)
      → IsNext sections code one last lines new_last new
  next_same are is_last same (inl none) size =
      elim size [
        | inl four ↦ absurd (omega (arith, none, are.1, four))
        | inr eight ↦ absurd (omega (arith, none, are.1, eight))
      ]
  next_same are is_last same (inr has) size =
      let at : new_last.at ≡ one.at = ap (λ (x : Last). x.at) is_last ∙ are.0 in
      let here = has.1 in
      let programs' : lines.programs ≡ read.programs = ap (λ (x : FileLines). x.programs) (sym same) in
      is_next sections code one last new_last lines read new here.0 at
      (ap (λ (x : Last). x.size) is_last ∙ are.1)
      (ap (λ (x : Last). x.end) is_last ∙ here.3 ∙ ap (program_end sections) are.0) after within
      (subst (λ p. 1 ≤ length p.items) programs' has.0)
      (subst (λ p. slice_get p.items (length p.items - 1) ≡ Some here.0) programs' here.1)
      (subst (λ (x : ℕ). IsRead sections code x one.size here.0) are.0
      (subst (λ (x : ℕ). IsRead sections code last.at x here.0) are.1 here.2))
      (λ k x e. subst (λ p. slice_get p.items k ≡ Some x) programs' e) programs
      (units_are (ap (λ (x : FileLines). x.of_unit) same)) (count_is (ap (λ (x : FileLines). x.of_unit) same))

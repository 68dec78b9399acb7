-- Parts of a path.
use Rattle.std.proofs.Common.{◌≡◌, ℕ, suc, ◌-◌, ◌<◌, List, [], ◌∷◌, ◌++◌, length, get_or, take, drop, Bool, true, false}
use Rattle.std.proofs.Common.{map, subst, refl, sym, ap, ◌∙◌, arith, append_assoc, eqb, ◌||◌}
use Rattle.std.specs.Prelude.{OnOk, Result, Ok, Err, is_ok, if◌then◌else◌, ◌==◌}
use Rattle.std.proofs.lemmas.List.{append-nil, get_or-map, length-drop, take-append-drop, take_all}
use Rattle.std.proofs.Math.Seq.{drop-append_seam, take-append_seam}
use Rattle.dw_lines.specs.Files.{FileAt, file_view}
use Rattle.dw_addresses.specs.Paths.{begins_with_slash, compilation_directory, directory_path, ends_with_slash, joined}
use Rattle.dw_addresses.specs.Paths.{entry_path, slash}
use Rattle.dw_lines.specs.Programs.{HeaderFields}
use Rattle.dw_lines.specs.declared.program.FileEntry.{FileEntry}

pub last_slash : (bytes : List ℕ) → 0 < length bytes
    → eqb (get_or bytes (length bytes - 1) 0) 47 ≡ ends_with_slash bytes
last_slash [] some = absurd (omega arith)
last_slash (b ∷ []) some = refl
last_slash (b ∷ c ∷ bytes) some =
    let one : length (b ∷ c ∷ bytes) - 1 ≡ suc (length (c ∷ bytes) - 1) = omega arith in
    ap (λ n. eqb (get_or (b ∷ c ∷ bytes) n 0) 47) one ∙ last_slash (c ∷ bytes) (omega arith)

-- whether the text from a place on ends with a slash
pub rest_ends : (bytes text : List ℕ) (start : ℕ) → bytes ≡ text
    → ends_with_slash (take (length bytes - start) (drop start bytes)) ≡ ends_with_slash (drop start text)
rest_ends bytes text start e =
    ap ends_with_slash (take_all (length bytes - start) (drop start bytes) (omega (arith, length-drop start bytes)))
    ∙ ap (λ (xs : List ℕ). ends_with_slash (drop start xs)) e

-- what a growth leaves if it succeeds
abbrev Grown : {A E : Type 0} → Result A E → List ℕ → List ℕ → List ℕ → Type 0
Grown r old part new = new ≡ (if is_ok r then old ++ part else old)

grown : {A E : Type 0} (r : Result A E) (old part new want : List ℕ) → Grown r old part new → old ++ part ≡ want
    → OnOk r (new ≡ want)
grown (Ok x) old part new want h e = h ∙ e
grown (Err e') old part new want h e = tt

module _ (text part : List ℕ) (start : ℕ) where
  abbrev Want : List ℕ
  Want = take start text ++ joined (drop start text) part

  pub directly : {A E : Type 0} (r : Result A E) (new : List ℕ) → Grown r text part new
      → begins_with_slash part ≡ false → (ends_with_slash (drop start text) || length part == 0) ≡ true
      → OnOk r (new ≡ Want)
  directly r new h first last =
      grown r text part new Want h (
      ap (λ (xs : List ℕ). xs ++ part) (sym (take-append-drop start text)) ∙ rw (first, last, append_assoc) refl)

  pub divided : {A E : Type 0} (r : Result A E) (old new : List ℕ) → old ≡ text ++ slash ∷ [] → Grown r old part new
      → begins_with_slash part ≡ false → (ends_with_slash (drop start text) || length part == 0) ≡ false
      → OnOk r (new ≡ Want)
  divided r old new is h first last =
      grown r old part new Want h (
      ap (λ (xs : List ℕ). xs ++ part)
      (is ∙ ap (λ (xs : List ℕ). xs ++ slash ∷ []) (sym (take-append-drop start text)))
      ∙ rw (first, last, append_assoc, append_assoc) refl)

pub or_false : (a b : Bool) → a ≡ false → b ≡ false → (a || b) ≡ false
or_false a b p q = rw (p, q) refl

-- ---- the parts of a path, one after another

same : (b : Bool) (xs : List ℕ) → ◌≡◌ {A = List ℕ} (if b then xs else xs) xs
same true xs = refl
same false xs = refl

first_part : (part : List ℕ) → joined [] part ≡ part
first_part part = same (begins_with_slash part) part

next_part : (old x t u part : List ℕ) (n : ℕ) → n ≡ length old → t ≡ old ++ x
    → u ≡ take n t ++ joined (drop n t) part → u ≡ old ++ joined x part
next_part old x t u part n long e h =
    let front : take n (old ++ x) ≡ old = ap (λ k. take k (old ++ x)) long ∙ take-append_seam old x in
    let back : drop n (old ++ x) ≡ x = ap (λ k. drop k (old ++ x)) long ∙ drop-append_seam old x in
    h
    ∙ ap (λ (xs : List ℕ). take n xs ++ joined (drop n xs) part) e
    ∙ ap (λ (xs : List ℕ). xs ++ joined (drop n (old ++ x)) part) front
    ∙ ap (λ (xs : List ℕ). old ++ joined xs part) back

ok_then : {A E : Type 0} (r : Result A E) (new x y : List ℕ) → OnOk r (new ≡ x) → (new ≡ x → new ≡ y) → OnOk r (new ≡ y)
ok_then (Ok v) new x y h then' = then' h
ok_then (Err e) new x y h then' = tt

module _ (h : HeaderFields) (named : List ℕ) (file : FileAt) (old t1 t2 t3 base directory : List ℕ) (n : ℕ) where
  abbrev Inner : List ℕ
  Inner = if file.directory == 0 then [] else directory_path h.tables file.directory

  pub parts_pushed : {A E : Type 0} (r : Result A E) → n ≡ length old → base ≡ compilation_directory h named
      → directory ≡ Inner → t1 ≡ take n old ++ joined (drop n old) base → t2 ≡ take n t1 ++ joined (drop n t1) directory
      → OnOk r (t3 ≡ take n t2 ++ joined (drop n t2) file.path)
      → OnOk r (t3 ≡ old ++ entry_path h named file)
  parts_pushed r long is_base is_directory e1 e2 e3 =
      let all1 : t1 ≡ old ++ base = next_part old [] old t1 base n long (sym (append-nil old)) e1
      ∙ ap (λ (xs : List ℕ). old ++ xs) (first_part base) in
      let all2 : t2 ≡ old ++ joined base directory = next_part old base t1 t2 directory n long all1 e2 in
      let all3 = ok_then r t3 _ (old ++ joined (joined base directory) file.path) e3
      (next_part old (joined base directory) t2 t3 file.path n long all2) in
      subst (λ (xs : List ℕ). OnOk r (t3 ≡ old ++ joined (joined xs Inner) file.path)) is_base
      (subst (λ (xs : List ℕ). OnOk r (t3 ≡ old ++ joined (joined base xs) file.path)) is_directory all3)

-- a file among the files of a header
pub file_here : (entries : List FileEntry) (k : ℕ) (e : FileEntry) (d : FileAt) → k < length entries
    → e ≡ get_or entries k e → get_or (map file_view entries) k d ≡ file_view e
file_here entries k e d in' is = get_or-map file_view entries k e d in' ∙ ap file_view (sym is)

-- One pair more of a declaration, one declaration more of a table, and what follows from what they spell.
use Rattle.std.proofs.Common.{rules, ◌≡◌, ℕ, ◌==◌, List, [], ◌∷◌, Some, None, Result, Ok, Err, refl, Bool, true, false, cond, find, option_map, ◌<◌, eqb, ltb, ◌++◌, Option, sym, ap, ◌∙◌, ◌||◌, All, ltb-false}
use Rattle.std.specs.List.{list_any}
use Rattle.dw_forms.specs.declared.form.Form.{Form}
use Rattle.dw_forms.specs.Steps.{◌>>=◌}
use Rattle.dw_forms.specs.Abbrev.{table_view, views, declaration, code_or_end, Decl, Declaration, IsCode16, AreAttributeSpecs, IsDeclaration, AreDeclarations, Decls, is_code16, number, pair, attributes, specifications, tag_and_children, declarations}
use Rattle.dw_forms.specs.AbbrevReading.{unsigned_at, has_code, decl_at, DeclFault, tagged_at, AttributeSpec}
use Rattle.dw_forms.specs.Elements.{next_at, SpellsElement}
use Rattle.dw_forms.specs.Faults.{error_at, fault_at}
use Rattle.dw_forms.specs.Formats.{as_other}
use Rattle.dw_forms.specs.Stops.{FailsOrMemory, Stop}
use Rattle.std.proofs.lemmas.Bool.{eqb-false, or_parts, not-true}
use Rattle.std.proofs.lemmas.List.Elements.{All-nil, All-cons}
use Rattle.dw_forms.specs.Formats.{Format, nothing, failing, choose, found, tested}
use Rattle.dw_forms.specs.ListFormats.{SpellsEach}
use Rattle.dw_forms.specs.Readers.{takes}
use Rattle.dw_forms.proofs.SizeLaws.{some_is, never_none}
use Rattle.dw_forms.specs.declared.fault.Stop.TheVariants as stops

-- ---- one pair more of a declaration, and one declaration more of a table

pub has_code_views : (code : ℕ) (ds : List Decl) → has_code code (views ds) ≡ list_any (λ d. d.code == code) ds
has_code_views code [] = refl
has_code_views code (d ∷ ds) = search (rules, (has_code_views code ds))

find_views_on : (code : ℕ) (d : Decl) (ds : List Decl) (b : Bool)
    → find (λ e. e.code == code) (views ds) ≡ option_map table_view (find (λ e. e.code == code) ds)
    → cond b (Some (table_view d)) (find (λ e. e.code == code) (views ds))
    ≡ option_map table_view (cond b (Some d) (find (λ e. e.code == code) ds))
find_views_on code d ds true e = refl
find_views_on code d ds false e = e

pub find_views : (code : ℕ) (ds : List Decl)
    → find (λ d. d.code == code) (views ds) ≡ option_map table_view (find (λ d. d.code == code) ds)
find_views code [] = refl
find_views code (d ∷ ds) = find_views_on code d ds (d.code == code) (find_views code ds)

-- a fault stays one where only what is read is seen in another way
pub then_fails : {A B E : Type 0} (error : Stop E) (r : Result A E) (f : A → B) → FailsOrMemory error r
    → FailsOrMemory error (r >>= λ x. Ok (f x))
then_fails stops.Memory r f e = tt
then_fails (stops.Fault fault) r f e = rw e refl

-- and where it is told with its place
pub fails_at : {A : Type 0} (place : ℕ) (error : Stop DeclFault) (r : Result A DeclFault) → FailsOrMemory error r
    → FailsOrMemory (error_at place error) (as_other (fault_at place) r)
fails_at place stops.Memory r e = tt
fails_at place (stops.Fault fault) r e = rw e refl

-- ---- a declaration, by its code, its tag and its attributes

pub decl_by : (bytes : List ℕ) (code : ℕ) (rest : List ℕ) → unsigned_at bytes ≡ Ok (code, rest) → (code == 0) ≡ false
    → decl_at [] bytes ≡ ((declaration code).read rest >>= λ d. Ok (Some d.0, d.1))
unfolding next_at code_or_end
decl_by bytes code rest e some = rw (e, some) refl

-- at the code 0 there is none
pub decl_end : (bytes : List ℕ) (code : ℕ) (rest : List ℕ) → unsigned_at bytes ≡ Ok (code, rest) → (code == 0) ≡ true
    → decl_at [] bytes ≡ Ok (None, rest)
unfolding next_at code_or_end
decl_end bytes code rest e none = rw (e, none) refl

pub code_fault : (bytes : List ℕ) (fault : DeclFault) → unsigned_at bytes ≡ Err fault → decl_at [] bytes ≡ Err fault
unfolding next_at code_or_end
code_fault bytes fault e = rw e refl

-- ---- what the tests of a format say of a value that is spelled

tested_on : {A E : Type 0} (test : A → Bool) (wrong : E) (x a : A) (b : Bool) (text : List ℕ) → test x ≡ b
    → (choose b (nothing x) (failing wrong)).Spells text a → test a ≡ true
tested_on test wrong x a true text e s = ap test s.1 ∙ e
tested_on test wrong x a false text e s = absurd s

tested_is : {A E : Type 0} (test : A → Bool) (wrong : E) (f : Format A E) (text : List ℕ) (a : A)
    → (tested test wrong f).Spells text a → test a ≡ true
tested_is test wrong f text a s = search (rules, tested_on)

code16_on : (n : ℕ) → (eqb n 0 || ltb 65535 n) ≡ false → IsCode16 n
code16_on n e = search (rules, or_parts, eqb-false, ltb-false)

code16_is : (n : ℕ) → is_code16 n ≡ true → IsCode16 n
code16_is n e = code16_on n (not-true _ e)

-- ---- attributes

pair_on : (ends wrong : Bool) (o : Option Form) (bad unknown : DeclFault) (a : ℕ) (text : List ℕ) (p : ℕ × Form)
    → (choose {A = Option (ℕ × Form)} ends (nothing None) (choose wrong (failing bad)
    (found o (failing unknown) (λ form. nothing (Some (a, form)))))).Spells text (Some p)
    → (wrong ≡ false) × (p.0 ≡ a)
pair_on true wrong o bad unknown a text p s = absurd (never_none (sym s.1))
pair_on false true o bad unknown a text p s = absurd s
pair_on false false None bad unknown a text p s = absurd s
pair_on false false (Some form) bad unknown a text p s = search (rules, some_is)

pair_good : (text : List ℕ) (p : ℕ × Form) → pair.Spells text (Some p) → IsCode16 p.0
unfolding pair
pair_good text p s = search (rules, pair_on, ltb, or_parts, eqb-false, ltb-false)

pub attribute_good : (text : List ℕ) (s : AttributeSpec) → SpellsElement specifications text s → IsCode16 s.attribute
attribute_good text s h = search (rules, pair_good)

-- each element of a list is good, if what is spelled is
each_good : {X : Type 0} (Spells : List ℕ → X → Type 0) (End : List ℕ → Type 0) (Good : X → Type 0)
    → ((text : List ℕ) (x : X) → Spells text x → Good x) → (xs : List X) (text : List ℕ)
    → SpellsEach Spells End xs text → All Good xs
each_good Spells End Good good [] text s = All-nil Good
each_good Spells End Good good (x ∷ xs) text s = search (rules, All-cons, (each_good Spells End Good good xs s.1 s.4))

attributes_good : (text : List ℕ) (specs : List AttributeSpec) → attributes.Spells text specs → AreAttributeSpecs specs
attributes_good text specs s = search (rules, each_good, attribute_good)

-- ---- declarations

tag_good : (text : List ℕ) (t : ℕ × Bool) → tag_and_children.Spells text t → IsCode16 t.0
unfolding tag_and_children
tag_good text t s = search (rules, code16_is, tested_is)

code_on : (b : Bool) (x code : ℕ) → eqb x 0 ≡ b → cond b None (Some x) ≡ Some code → 0 < code
code_on true x code e s = absurd (never_none s)
code_on false x code e s = search (rules, some_is, eqb-false)

code_good : (text : List ℕ) (code : ℕ) → code_or_end.Spells text (Some code) → 0 < code
unfolding code_or_end
code_good text code s = search (rules, code_on)

decl_good : (text : List ℕ) (d : Declaration) → SpellsElement declarations text d → IsDeclaration d
decl_good text d s = search (rules, code_good, tag_good, attributes_good)

pub decls_good : (text : List ℕ) (ds : List Declaration) → Decls text ds → AreDeclarations ds
decls_good text ds s = search (rules, each_good, decl_good)

-- ---- the bytes after a code, and after a tag and the byte of the children

-- the bytes end with these
abbrev pub EndsIn : List ℕ → List ℕ → Type 0
EndsIn bytes rest = (text : List ℕ) × (bytes ≡ text ++ rest)

ends_in : {V E : Type 0} (f : Format V E) (bytes : List ℕ) (v : V) (rest : List ℕ) → f.read bytes ≡ Ok (v, rest)
    → EndsIn bytes rest
ends_in f bytes v rest e = search (rules, takes)

pub number_ends : (bytes : List ℕ) (number : ℕ) (rest : List ℕ) → unsigned_at bytes ≡ Ok (number, rest)
    → EndsIn bytes rest
number_ends = ends_in number

pub tag_ends : (bytes : List ℕ) (t : ℕ × Bool) (rest : List ℕ) → tagged_at bytes ≡ Ok (t, rest) → EndsIn bytes rest
tag_ends = ends_in tag_and_children

-- The place of a declaration is kept as declarations are added, and it is the one that is found.
use Rattle.std.proofs.Common.{rules, ◌≡◌, ◌≢◌, ℕ, zero, suc, ◌+◌, ◌<◌, Bool, true, false, List, [], ◌∷◌, ◌++◌, length, get_or, Option, Some, None, refl, sym, subst, cond, is_eq, ◌∙◌, All, arith, find, option_and_then, slice_get, IfSome, IfNone, is_some, ◌||◌, ◌==◌, eq-eqb, length-append, nat_cmp, BTreeMap}
use Rattle.std.specs.List.{list_any}
use Rattle.std.specs.BTreeMap.{get, is_at}
use Rattle.std.proofs.lemmas.Bool.{or_right}
use Rattle.std.proofs.lemmas.Bool.Decides.{nat_tests}
use Rattle.std.proofs.lemmas.List.{get_or_append_left, get_or_at}
use Rattle.std.proofs.lemmas.List.Elements.{All-append, All-cons, All-map, All-nil}
use Rattle.dw_forms.specs.Abbrev.{table_view, views, Decl}
use Rattle.dw_forms.specs.AbbrevReading.{has_code}
use Rattle.dw_forms.specs.Places.{IsIndex, IsPlace, StandsAt}
use Rattle.dw_forms.proofs.DeclLaws.{has_code_views, find_views}
use Rattle.dw_forms.specs.Keys.{Apart, Lacks, lacks_from, lacks_test, apart_push}
use Rattle.dw_forms.proofs.SpelledLists.{find_at, find_none}

abbrev pub code_of_decl : Decl → ℕ
code_of_decl d = d.code

pub lacks_of : (code : ℕ) (ds : List Decl) → has_code code (views ds) ≡ false → Lacks code_of_decl code ds
lacks_of code ds e = lacks_from code_of_decl code ds (sym (has_code_views code ds) ∙ e)

same_key : (k q : ℕ) → is_eq (nat_cmp k q) ≡ true → k ≡ q
same_key k q is = grind (arith, nat_tests)

other_key : (k q : ℕ) → is_eq (nat_cmp k q) ≡ false → k ≢ q
other_key k q is same = grind (arith, nat_tests)

-- the place of a code after one more declaration, by whether that has the code
pushed_place : (ds : List Decl) (d : Decl) (n code : ℕ) (b : Bool) (o p : Option ℕ) → n ≡ length ds
    → b ≡ is_eq (nat_cmp d.code code) → IsPlace ds code o → p ≡ cond b (Some n) o → IsPlace (ds ++ d ∷ []) code p
pushed_place ds d n code true o p last t place e =
    subst (IsPlace (ds ++ d ∷ []) code) (sym e) (
      omega (arith, last, length-append ds (d ∷ [])),
      λ x. rw (get_or_at ds d [] x n (sym last)) (same_key d.code code (sym t)),
    )
pushed_place ds d n code false None p last t lacks e =
    subst (IsPlace (ds ++ d ∷ []) code) (sym e)
    (All-append (λ c. c.code ≢ code) ds (d ∷ []) lacks (All-cons (λ c. c.code ≢ code) d []
    (other_key d.code code (sym t)) (All-nil (λ c. c.code ≢ code))))
pushed_place ds d n code false (Some i) p last t place e =
    subst (IsPlace (ds ++ d ∷ []) code) (sym e) (
      omega (arith, place.0, length-append ds (d ∷ [])),
      λ x. rw (get_or_append_left ds (d ∷ []) x i place.0) (place.1 x),
    )

pub index_pushed : (ds : List Decl) (old new : BTreeMap ℕ ℕ) (d : Decl) (n : ℕ) → IsIndex ds old
    → Lacks code_of_decl d.code ds → n ≡ length ds
    → ((q : ℕ) → get nat_cmp new q ≡ cond (is_at (nat_cmp d.code) q) (Some n) (get nat_cmp old q))
    → IsIndex (ds ++ d ∷ []) new
index_pushed ds old new d n index lacks last gets = record {
  distinct = apart_push code_of_decl ds d index.distinct lacks;
  places_are = λ q. pushed_place ds d n q _ _ _ last refl (index.places_are q) (gets q);
}

-- ---- what is found

pub found_view : (ds : List Decl) (code i : ℕ) (d e : Decl) → Apart code_of_decl ds → IsPlace ds code (Some i)
    → e ≡ get_or ds i d → Some (table_view e) ≡ find (λ d. d.code == code) (views ds)
found_view ds code i d e apart place is =
    let whole : find (λ d. d.code == code) (views ds)
    ≡ Some (table_view (get_or ds i d)) = rw
    (find_views code ds, find_at code_of_decl code ds i d apart place.0 (place.1 d)) refl in
    (λ i. Some (table_view (is i))) ∙ sym whole

pub none_view : (ds : List Decl) (code : ℕ) → IsPlace ds code None → None ≡ find (λ d. d.code == code) (views ds)
none_view ds code lacks =
    let whole : find (λ d. d.code == code) (views ds)
    ≡ None = rw (find_views code ds, find_none code_of_decl code ds lacks) refl in
    sym whole

-- ---- whether it is found

any_at : (ds : List Decl) (code i : ℕ) (d : Decl) → i < length ds → (get_or ds i d).code ≡ code
    → list_any (λ e. e.code == code) ds ≡ true
any_at [] code i d lt same = absurd (omega arith)
any_at (e ∷ ds) code zero d lt same = rw (eq-eqb e.code code same) refl
any_at (e ∷ ds) code (suc i) d lt same = or_right _ _ (any_at ds code i d (omega arith) same)

any_none : (ds : List Decl) (code : ℕ) → Lacks code_of_decl code ds → list_any (λ e. e.code == code) ds ≡ false
any_none ds code lacks = lacks_test code_of_decl code ds lacks

pub has_place : (ds : List Decl) (code : ℕ) (o : Option ℕ) → IsPlace ds code o → is_some o ≡ has_code code (views ds)
has_place [] code (Some i) place = absurd (omega arith)
has_place (d ∷ ds) code (Some i) place =
    sym (has_code_views code (d ∷ ds) ∙ any_at (d ∷ ds) code i d place.0 (place.1 d))
has_place ds code None lacks = search (rules, has_code_views, any_none)

-- ---- the place that is found

slice_views : (ds : List Decl) (i : ℕ) (d : Decl) → i < length ds
    → slice_get (views ds) i ≡ Some (table_view (get_or ds i d))
slice_views [] i d lt = absurd (omega arith)
slice_views (e ∷ ds) zero d lt = refl
slice_views (e ∷ ds) (suc i) d lt = slice_views ds i d (omega arith)

pub stands_at : (ds : List Decl) (code : ℕ) (o : Option ℕ) → IsPlace ds code o
    → IfSome o (λ place. StandsAt (views ds) place code)
stands_at ds code None lacks = tt
stands_at [] code (Some i) place = absurd (omega arith)
stands_at (d ∷ ds) code (Some i) place = (table_view (get_or (d ∷ ds) i d), slice_views (d ∷ ds) i d place.0, place.1 d)

pub none_stands : (ds : List Decl) (code : ℕ) (o : Option ℕ) → IsPlace ds code o
    → IfNone o (All (λ d. d.code ≢ code) (views ds))
none_stands ds code None lacks = All-map (λ d. d.code ≢ code) table_view ds lacks
none_stands ds code (Some i) place = tt

pub find_place : (ds : List Decl) (code : ℕ) (o : Option ℕ) → Apart code_of_decl ds → IsPlace ds code o
    → find (λ d. d.code == code) (views ds) ≡ option_and_then (slice_get (views ds)) o
find_place ds code None apart lacks = sym (none_view ds code lacks)
find_place [] code (Some i) apart place = absurd (omega arith)
find_place (d ∷ ds) code (Some i) apart place =
    sym (found_view (d ∷ ds) code i d _ apart place refl) ∙ sym (slice_views (d ∷ ds) i d place.0)

-- Tables of declarations that are kept, as one more is kept, and how codes are found in them by their labels.
use Rattle.std.proofs.Common.{subst, sym, rules, ◌≡◌, ℕ, ◌<◌, ◌≤◌, Option, Some, None, refl, arith, ◌==◌, lt-ltb, le-ltb, nat_cmp, BTreeMap, zero, suc, ◌-◌, Bool, true, false, cond, List, [], ◌∷◌, ◌++◌, length, map, ap, ◌∙◌, find, get_or, length-append, eq-eqb, ne_eqb}
use Rattle.std.specs.BTreeMap.{get}
use Rattle.std.proofs.lemmas.Bool.{cases_lt, cases_eq}
use Rattle.dw_forms.specs.Labels.{long_label, label, HasLabel, AreLabels, LabelsStay}
use Rattle.std.proofs.lemmas.Grind.{common_steps}
use Rattle.std.proofs.lemmas.Option.{slice_get_past}
use Rattle.std.proofs.lemmas.List.{length-map, map-append, get_or-map}
use Rattle.dw_forms.specs.declared.leading_steps.Step.{Step}
use Rattle.dw_forms.specs.Abbrev.{Declaration}
use Rattle.dw_forms.specs.AbbrevReading.{has_code}
use Rattle.dw_forms.specs.Chains.{chains_of, Numbered, items_of, chain_in, item_of, number_where, AreNumbered, codes_of, codes_in, number_in as code_number, Link}
use Rattle.dw_forms.specs.KeptDecls.{kept_view, decls_of, tables_of, table_in, decl_of, decl_number_in, AreWithin, HaveDeclCodes, HaveLabels, Node, KeptDecl}
use Rattle.dw_forms.specs.DeclaredLists.{HasList}
use Rattle.dw_forms.specs.Offsets.{Stay}
use Rattle.dw_forms.proofs.ChainLaws.{chain_map, where_map, chains_long, chain_none, chains_more, are_numbered, item_read, where_alike, none_has, some_has}
use Rattle.dw_forms.proofs.CodeLaws.{codes_long, number_within}
use Rattle.dw_forms.proofs.ListStarts.{lists_stay}

-- ---- labels of codes are apart

module _ (long : BTreeMap ℕ ℕ) (labels : AreLabels long) where
  short_is : (code : ℕ) → code < 0x10000 → label long code ≡ code
  short_is code short = search (rules, lt-ltb)

  long_is : (code : ℕ) → 0x10000 ≤ code → label long code ≡ long_label (get nat_cmp long code)
  long_is code far = rw (le-ltb code 0x10000 far) refl

  long_far : (code : ℕ) (found : Option ℕ) → get nat_cmp long code ≡ found → 0x10000 ≤ long_label found
  long_far code None is = omega arith
  long_far code (Some found) is = search rules

  same_long : (code other own : ℕ) (found : Option ℕ) → get nat_cmp long code ≡ Some own
      → get nat_cmp long other ≡ found → own ≡ long_label found → code ≡ other
  same_long code other own None is none same = search rules
  same_long code other own (Some found) is there same = search rules

  far_label : (code other : ℕ) (own : Option ℕ) → get nat_cmp long code ≡ own → HasLabel long code
      → 0x10000 ≤ code → label long code ≡ label long other → code ≡ other
  far_label code other None is has high same = absurd (has high is)
  far_label code other (Some found) is has high same = search (rules, long_is, cases_lt, short_is, same_long)

  same_label : (code other : ℕ) → HasLabel long code → label long code ≡ label long other → code ≡ other
  same_label code other has same = search (rules, cases_lt, short_is, long_is, long_far, far_label)

-- a label is found for its own code alone
pub same_labels : (long : BTreeMap ℕ ℕ) (code other : ℕ) → AreLabels long → HasLabel long code
    → (label long code == label long other) ≡ (code == other)
same_labels long code other labels has = search (rules, cases_eq, eq-eqb, ne_eqb, same_label)

-- ---- tables of declarations that are kept, as one more is kept

abbrev pub part : List Node → KeptDecl → Declaration × ℕ
part nodes k = (kept_view nodes k, k.rest)

-- ---- the tables

decls_long : (nodes : List Node) (kept : List KeptDecl) → length (decls_of nodes kept) ≡ length kept
decls_long nodes kept = length-map kept (part nodes)

pub tables_long : (nodes : List Node) (kept : List KeptDecl) → length (tables_of nodes kept) ≡ suc (length kept)
tables_long nodes kept = search (rules, chains_long, decls_long)

pub table_none : (nodes : List Node) (kept : List KeptDecl) → chain_in (tables_of nodes kept) 0 ≡ []
table_none nodes kept = chain_none _

pub tables_more : (nodes : List Node) (kept : List KeptDecl) (k : KeptDecl)
    → tables_of nodes (kept ++ k ∷ [])
    ≡ tables_of nodes kept ++ (record { number = length (tables_of nodes kept); item = kept_view nodes k }
    ∷ chain_in (tables_of nodes kept) k.rest) ∷ []
tables_more nodes kept k = search (rules, map-append, part, chains_more)

-- more attributes change no table
pub view_stays : (old new : List Node) (k : KeptDecl) → Stay old new → k.first ≤ length old
    → kept_view new k ≡ kept_view old k
view_stays old new k stay within = search (rules, lists_stay)

views_same : (nodes more : List Node) (kept : List KeptDecl) → AreWithin nodes kept
    → decls_of (nodes ++ more) kept ≡ decls_of nodes kept
views_same nodes more [] within = refl
views_same nodes more (k ∷ kept) within =
    let same : kept_view (nodes ++ more) k
    ≡ kept_view nodes k = view_stays nodes (nodes ++ more) k (more, refl) (within 0 k (omega arith)).within in
    (λ i. (same i, k.rest) ∷ decls_of (nodes ++ more) kept)
    ∙ ap (λ (ds : List (Declaration × ℕ)). part nodes k ∷ ds)
    (views_same nodes more kept (λ i x less. within (suc i) x (omega arith)))

pub tables_same : (old new : List Node) (kept : List KeptDecl) → Stay old new → AreWithin old kept
    → tables_of new kept ≡ tables_of old kept
tables_same old new kept stay within = search (rules, views_same)

pub has_stays : (old new : List Node) (first : ℕ) (step : Step) (bits : ℕ) (declared : Option Bool)
    (whole : Option ℕ) → Stay old new → HasList old first step bits declared whole
    → HasList new first step bits declared whole
has_stays old new first step bits declared whole stay has = search (rules, lists_stay, length-append)

pub within_stays : (old new : List Node) (kept : List KeptDecl) → Stay old new → AreWithin old kept → AreWithin new kept
within_stays old new kept stay within k d less = search (rules, has_stays)

-- ---- how codes are found

codes_parts : (long : BTreeMap ℕ ℕ) (nodes : List Node) (kept : List KeptDecl)
    → map {B = ℕ × ℕ} (λ (k : KeptDecl). (label long k.code, k.rest)) kept
    ≡ map {B = ℕ × ℕ} (λ (x : Declaration × ℕ). (label long x.0.code, x.1)) (decls_of nodes kept)
codes_parts long nodes [] = refl
codes_parts long nodes (k ∷ kept) = search (rules, (codes_parts long nodes kept))

abbrev or_else : {X : Type 0} → X → Option X → X
or_else x None = x
or_else x (Some y) = y

label_of : (long : BTreeMap ℕ ℕ) (nodes : List Node) (kept : List KeptDecl) (number : ℕ) (d : Declaration)
    → HaveLabels long kept → item_of (decls_of nodes kept) number ≡ Some d → HasLabel long d.code
label_of long nodes kept zero d has is = let no : ◌≡◌ {A = Option Declaration} None (Some d) = is in absurd cc
label_of long nodes [] (suc n) d has is = grind (arith, common_steps, slice_get_past)
label_of long nodes (k ∷ kept) (suc zero) d has is =
    subst (λ (x : Declaration). HasLabel long x.code) (ap (or_else (kept_view nodes k)) is) (has 0 k (omega arith))
label_of long nodes (k ∷ kept) (suc (suc n)) d has is =
    label_of long nodes kept (suc n) d (λ i x less. has (suc i) x (omega arith)) is

pub code_is : (links : List Link) (long : BTreeMap ℕ ℕ) (nodes : List Node) (kept : List KeptDecl) (table code : ℕ)
    → AreLabels long → HaveLabels long kept → HaveDeclCodes links long kept
    → code_number (codes_in links table) (label long code)
    ≡ decl_number_in (chain_in (tables_of nodes kept) table) code
code_is links long nodes kept table code labels has are =
    (λ i. code_number (chain_in (chains_of ((are ∙ codes_parts long nodes kept) i)) table) (label long code))
    ∙ (λ i. code_number (chain_map (λ (d : Declaration). label long d.code) (decls_of nodes kept) table i)
    (label long code))
    ∙ where_map (λ c. c == label long code) (λ (d : Declaration). label long d.code)
    (chain_in (tables_of nodes kept) table)
    ∙ where_alike (decls_of nodes kept) (λ (d : Declaration). label long d.code == label long code)
    (λ (d : Declaration). d.code == code)
    (λ number d is. same_labels long d.code code labels (label_of long nodes kept number d has is))
    (chain_in (tables_of nodes kept) table) (are_numbered (decls_of nodes kept) table)

pub links_long : (links : List Link) (long : BTreeMap ℕ ℕ) (kept : List KeptDecl) → HaveDeclCodes links long kept
    → length links ≡ length kept
links_long links long kept are = search (rules, codes_long, length-map)

-- codes with new labels change no others
pub coded_stay : (links : List Link) (old new : BTreeMap ℕ ℕ) (kept : List KeptDecl) → LabelsStay old new
    → HaveLabels old kept → HaveDeclCodes links old kept → HaveDeclCodes links new kept
coded_stay links old new kept stay has are = are ∙ sym (map_same kept has) where
  map_same : (kept : List KeptDecl) → HaveLabels old kept
      → map {B = ℕ × ℕ} (λ (k : KeptDecl). (label new k.code, k.rest)) kept
      ≡ map {B = ℕ × ℕ} (λ (k : KeptDecl). (label old k.code, k.rest)) kept
  map_same [] has = refl
  map_same (k ∷ kept) has = rw ((stay k.code (has 0 k (omega arith))).0)
      (ap (λ (rest : List (ℕ × ℕ)). (label old k.code, k.rest) ∷ rest)
      (map_same kept (λ i x less. has (suc i) x (omega arith))))

pub labels_stay : (old new : BTreeMap ℕ ℕ) (kept : List KeptDecl) → LabelsStay old new → HaveLabels old kept
    → HaveLabels new kept
labels_stay old new kept stay has k d less = search rules

-- a code is found by a label that it was given just now
pub labelled_is : (links : List Link) (old new : BTreeMap ℕ ℕ) (nodes : List Node) (kept : List KeptDecl)
    (table code : ℕ) → AreLabels new → LabelsStay old new → HaveLabels old kept → HaveDeclCodes links old kept
    → (found : ℕ) → found ≡ label new code
    → code_number (codes_in links table) found ≡ decl_number_in (chain_in (tables_of nodes kept) table) code
labelled_is links old new nodes kept table code labels stay has are found is =
    search (rules, code_is, labels_stay, coded_stay)

pub coded_more : (old new : List Link) (long : BTreeMap ℕ ℕ) (kept : List KeptDecl) (k : KeptDecl)
    → HaveDeclCodes old long kept → codes_of new ≡ codes_of old ++ (label long k.code, k.rest) ∷ []
    → HaveDeclCodes new long (kept ++ k ∷ [])
coded_more old new long kept k are more = search (rules, map-append)

-- ---- the declaration of a code

found_first : (nodes : List Node) (kept : List KeptDecl) (n : Numbered Declaration) (more : ℕ)
    (found : Option Declaration) (b : Bool) → decl_of nodes kept n.number ≡ Some n.item
    → decl_of nodes kept more ≡ found
    → decl_of nodes kept (cond b n.number more) ≡ cond b (Some n.item) found
found_first nodes kept n more found true is rest = is
found_first nodes kept n more found false is rest = rest

pub numbers_find : (nodes : List Node) (kept : List KeptDecl) (table : List (Numbered Declaration)) (code : ℕ)
    → AreNumbered (decls_of nodes kept) table
    → decl_of nodes kept (decl_number_in table code) ≡ find (λ d. d.code == code) (items_of table)
unfolding number_where
numbers_find nodes kept [] code are = refl
numbers_find nodes kept (n ∷ table) code are = search (rules, found_first, (numbers_find nodes kept table code are.1))

pub own_numbers : (nodes : List Node) (kept : List KeptDecl) (table : ℕ)
    → AreNumbered (decls_of nodes kept) (chain_in (tables_of nodes kept) table)
own_numbers nodes kept table = search (rules, are_numbered)

pub none_code : (nodes : List Node) (kept : List KeptDecl) (table code : ℕ)
    → decl_number_in (chain_in (tables_of nodes kept) table) code ≡ 0
    → has_code code (table_in (tables_of nodes kept) table) ≡ false
none_code nodes kept table code none = search (rules, none_has, own_numbers)

pub some_code : (nodes : List Node) (kept : List KeptDecl) (table code : ℕ)
    → 0 < decl_number_in (chain_in (tables_of nodes kept) table) code
    → has_code code (table_in (tables_of nodes kept) table) ≡ true
some_code nodes kept table code some = search (rules, some_has)

-- the declaration that is found by its code
pub found_by : (links : List Link) (long : BTreeMap ℕ ℕ) (nodes : List Node) (kept : List KeptDecl) (table code : ℕ)
    → AreLabels long → HaveLabels long kept → HaveDeclCodes links long kept
    → decl_of nodes kept (code_number (codes_in links table) (label long code))
    ≡ find (λ d. d.code == code) (table_in (tables_of nodes kept) table)
found_by links long nodes kept table code labels has are =
    ap (decl_of nodes kept) (code_is links long nodes kept table code labels has are)
    ∙ numbers_find nodes kept (chain_in (tables_of nodes kept) table) code (own_numbers nodes kept table)

pub found_within : (links : List Link) (long : BTreeMap ℕ ℕ) (kept : List KeptDecl) (table found : ℕ)
    → HaveDeclCodes links long kept → code_number (codes_in links table) found ≤ length kept
found_within links long kept table found are = search (rules, number_within, links_long)

-- the declaration that is read at the place before a number
pub decl_read : (nodes : List Node) (kept : List KeptDecl) (number : ℕ) (x : KeptDecl) → 0 < number
    → number ≤ length kept → x ≡ get_or kept (number - 1) x → decl_of nodes kept number ≡ Some (kept_view nodes x)
decl_read nodes kept number x some within read =
    let at : get_or (decls_of nodes kept) (number - 1) (part nodes x)
    ≡ part nodes (get_or kept (number - 1) x) = get_or-map (part nodes) kept (number - 1) x (part nodes x)
    (omega arith) in
    item_read (decls_of nodes kept) number (part nodes x) some (omega (arith, decls_long nodes kept))
    (sym (at ∙ ap (part nodes) (sym read)))

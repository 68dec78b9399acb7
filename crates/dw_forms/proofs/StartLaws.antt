-- Tables that begin at offsets of a section, as more declarations are kept.
use Rattle.std.proofs.Common.{◌-◌, take, sym, ◌∙◌, subst, get_or, rules, ◌≡◌, ◌≤◌, ℕ, ◌<◌, List, [], ◌∷◌, length, drop, Option, Some, None, Ok, Err, refl, length-take, length-drop, suc, true, ◌++◌, inl, inr, arith, length-append}
use Rattle.dw_forms.specs.Faults.{fault_at, DeclFault, AbbrevFault}
use Rattle.dw_forms.specs.Abbrev.{Declaration, AreDeclarations, TableFails, code_of_decl, code_or_end, declarations}
use Rattle.dw_forms.specs.AbbrevReading.{decls_at, decl_at, placed_decl_at, table_at, has_code}
use Rattle.dw_forms.specs.KeptDecls.{Node, KeptDecl, Tables, kept_view, table_in, tables_of}
use Rattle.dw_forms.specs.TableStarts.{NoTable, IsDeclAt, IfNoDecl, IsTableIn, AreStarts, Stay, IsKeptOrEmpty, IsAddedTable}
use Rattle.dw_forms.specs.Elements.{SpellsEnd}
use Rattle.dw_forms.specs.LebLaws.{uleb_some}
use Rattle.dw_forms.specs.Offsets.{AreAlong, Placed, NothingAt, AreNew}
use Rattle.dw_forms.specs.ListFormats.{each_fits}
use Rattle.dw_forms.specs.Stops.{IfFault, FailsOrMemory, Stop}
use Rattle.dw_forms.proofs.KeptLaws.{view_stays, has_stays, tables_long, table_none}
use Rattle.dw_forms.specs.Keys.{Lacks, lacks_from, lacks_test}
use Rattle.dw_forms.proofs.OffsetLaws.{along_back, along_same, begins_within, apart_push, along_pop, new_pop, new_stay}
use Rattle.dw_forms.proofs.DeclLaws.{decls_good}
use Rattle.dw_forms.proofs.SpelledLists.{NoList, list_more, list_end, none_broken, none_before, none_twice}
use Rattle.dw_forms.proofs.TableLaws.{reads_decls, table_result, table_found, table_fails}
use Rattle.std.proofs.lemmas.Bool.{cases_eq}
use Rattle.std.proofs.lemmas.List.{get_or_append_left, get_or_at}
use Rattle.dw_forms.specs.Chains.{items_of, chain_in}
use Rattle.dw_forms.specs.declared.fault.Stop.TheVariants as stops

-- ---- a declaration and the table after it

module _ (section : List ℕ) where
  no_list : (offset : ℕ) → NoTable section offset → NoList (reads_decls (length section)) (drop offset section)
  no_list offset none ds rest is = none ds (rw is refl)

  no_table : (offset : ℕ) → NoList (reads_decls (length section)) (drop offset section) → NoTable section offset
  no_table offset none ds is = search (rules, table_result)

  next_is : (offset : ℕ) (o : Option Declaration) (after : List ℕ) → decl_at [] (drop offset section) ≡ Ok (o, after)
      → placed_decl_at (length section) [] (drop offset section) ≡ Ok (o, after)
  next_is offset o after e = rw e refl

  -- a declaration with a new code and the table after it are a table
  pub table_more : (offset next : ℕ) (d : Declaration) (ds : List Declaration)
      → decl_at [] (drop offset section) ≡ Ok (Some d, drop next section) → table_at section next ≡ Ok ds
      → Lacks code_of_decl d.code ds → table_at section offset ≡ Ok (d ∷ ds)
  table_more offset next d ds e is lacks =
      let r = table_result section next (decls_at (length section) (drop next section)) ds is in
      rw (list_more (reads_decls (length section)) (drop offset section) (drop next section) r.0 d ds
      (next_is offset (Some d) (drop next section) e) r.1 lacks) refl

  -- at the code 0 the table is empty
  pub table_end : (offset : ℕ) (after : List ℕ) → decl_at [] (drop offset section) ≡ Ok (None, after)
      → table_at section offset ≡ Ok []
  table_end offset after e =
      rw (list_end (placed_decl_at (length section)) _ (drop offset section) after (next_is offset None after e)) refl

  -- where there is no declaration and no code 0, no table begins
  pub table_broken : (offset : ℕ) (fault : DeclFault) → decl_at [] (drop offset section) ≡ Err fault
      → NoTable section offset
  table_broken offset fault e =
      no_table offset (none_broken (placed_decl_at (length section)) _ (drop offset section)
      (fault_at (length section - length (drop offset section)) fault) (rw e refl))

  -- where no table begins after a declaration, none begins with it
  none_first : (offset next : ℕ) (d : Declaration) → decl_at [] (drop offset section) ≡ Ok (Some d, drop next section)
      → NoTable section next → NoTable section offset
  none_first offset next d e none =
      no_table offset (none_before (reads_decls (length section)) (drop offset section) (drop next section) d
      (next_is offset (Some d) (drop next section) e) (no_list next none))

  -- where the code is in the table after a declaration, no table begins with it
  pub twice_none : (offset next : ℕ) (d : Declaration) (ds : List Declaration)
      → decl_at [] (drop offset section) ≡ Ok (Some d, drop next section) → table_at section next ≡ Ok ds
      → (Lacks code_of_decl d.code ds → ⊥) → NoTable section offset
  twice_none offset next d ds e is twice =
      let r = table_result section next (decls_at (length section) (drop next section)) ds is in
      no_table offset (none_twice (reads_decls (length section)) (drop offset section) (drop next section) r.0 d ds
      (next_is offset (Some d) (drop next section) e) r.1 twice)

  -- ---- some declarations

  -- where no table begins after them, none begins with them
  pub none_along : (nodes : List Node) (xs : List (Placed KeptDecl)) (offset end : ℕ)
      → AreAlong (IsDeclAt section nodes) xs offset end → NoTable section end → NoTable section offset
  none_along nodes =
      along_back (IsDeclAt section nodes) (NoTable section)
      (λ offset next d e none. none_first offset next (kept_view nodes d) e.is none)

  pub front_fails : (nodes : List Node) (error : Stop DeclFault) (xs : List (Placed KeptDecl)) (offset end : ℕ)
      → AreAlong (IsDeclAt section nodes) xs offset end → IfFault (λ _. IfNoDecl section end) error
      → IfFault (λ _. NoTable section offset) error
  front_fails nodes stops.Memory xs offset end along e = tt
  front_fails nodes (stops.Fault fault) xs offset end along e = search (rules, none_along, table_broken)

  -- they stay as more attributes are kept
  pub decls_stay : (old new : List Node) → Stay old new → (xs : List (Placed KeptDecl)) (offset end : ℕ)
      → AreAlong (IsDeclAt section old) xs offset end → AreAlong (IsDeclAt section new) xs offset end
  decls_stay old new stay = along_same (IsDeclAt section new) (IsDeclAt section old) (λ offset next d e. record {
    is =
        e.is ∙ (λ i. Ok (Some (sym (view_stays old new d stay e.kept.within) i), drop next section));
    kept = has_stays old new _ _ _ _ _ stay e.kept;
    rises = e.rises;
    fits = e.fits;
  })

-- ---- a table and its bytes

pub table_allowed : (section : List ℕ) (offset : ℕ) (ds : List Declaration) → table_at section offset ≡ Ok ds
    → AreDeclarations ds
table_allowed section offset ds is = search (rules, table_found, decls_good)

-- the end has a byte
end_some : (text : List ℕ) → SpellsEnd declarations text → 1 ≤ length text
unfolding code_or_end
end_some text s = uleb_some text s.0 s.1

pub table_fewer : (section : List ℕ) (offset : ℕ) (ds : List Declaration) → table_at section offset ≡ Ok ds
    → length ds < length section
table_fewer section offset ds is =
    let (len, b) = table_found section offset ds is in
    let few = each_fits (reads_decls 0) (SpellsEnd declarations) 1 end_some ds
    (take len (drop offset section)) b.spelled.spelled in
    omega (arith, length-take len (drop offset section), length-drop offset section)

-- the fault that plain reading gives is the table's
pub broken_by : (section : List ℕ) (offset : ℕ) (fault : Stop AbbrevFault) → offset ≤ length section
    → FailsOrMemory fault (table_at section offset) → IfFault (TableFails section offset) fault
broken_by section offset stops.Memory within e = tt
broken_by section offset (stops.Fault f) within e = table_fails section offset within f e

-- ---- what stays

pub table_stays : (old new : Tables) (number : ℕ) → Stay old new → number < length old
    → chain_in new number ≡ chain_in old number
table_stays old new number stay within = search (rules, get_or_append_left)

pub is_table_stays : (section : List ℕ) (old new : Tables) (offset number : ℕ) → Stay old new
    → IsTableIn section old offset number → IsTableIn section new offset number
is_table_stays section old new offset number stay is = search (rules, length-append, table_stays)

-- ---- one declaration more

-- the table before which declarations were read
pub goes_on : (nodes : List Node) (section : List ℕ) (kept : List KeptDecl) (starts : List ℕ) (offset rest : ℕ)
    → AreStarts section (tables_of nodes kept) starts → IsKeptOrEmpty section starts offset rest
    → IsTableIn section (tables_of nodes kept) offset rest
goes_on nodes section kept starts offset rest are (inl (some, begins)) = search (rules, begins_within)
goes_on nodes section kept starts offset rest are (inr (none, is)) = search (rules, tables_long, table_none)

code_twice : (code : ℕ) (ds : List Declaration) → has_code code ds ≡ true → Lacks code_of_decl code ds → ⊥
code_twice code ds has lacks = search (rules, lacks_test)

-- the declarations that are left are one after another up to where a table that is kept begins
pub record Leads (section : List ℕ) (nodes : List Node) (tables : Tables) (decls : List (Placed KeptDecl))
    (offset number : ℕ) : Type 0 where
  pub next : ℕ
  pub along : AreAlong (IsDeclAt section nodes) decls offset next
  pub table : IsTableIn section tables next number

module _ {section : List ℕ} {nodes : List Node} {old : Tables} {offset rest : ℕ} {all : List (Placed KeptDecl)}
    (left : List (Placed KeptDecl)) (s : Placed KeptDecl) (parts : all ≡ left ++ s ∷ [])
    (leads : Leads section nodes old all offset rest) where
  pub popped : AreAlong (IsDeclAt section nodes) left offset s.at × IsDeclAt section nodes s.at s.item leads.next
  popped = search (rules, along_pop)

  pub start_less : s.at < length section
  start_less = let e = popped.1 in omega arith

  pub turn_none : (new : Tables) → IsAddedTable (kept_view nodes s.item) rest old new None → NoTable section offset
  turn_none new added =
      none_along section nodes left offset s.at popped.0
      (twice_none section s.at leads.next (kept_view nodes s.item) (table_in old rest) popped.1.is leads.table.table
      (code_twice s.item.code (table_in old rest) added.0))

  pub turn_new : (starts : List ℕ) → AreNew starts all → NothingAt starts s.at × AreNew (starts ++ s.at ∷ []) left
  turn_new starts are =
      let (new, nothing) = new_pop starts left s (subst (AreNew starts) parts are) in
      let (along, is) = popped in
      (nothing, search (rules, new_stay))

  module _ (new : Tables) (number : ℕ) (added : IsAddedTable (kept_view nodes s.item) rest old new (Some number)) where
    pub turn_stay : Stay old new
    turn_stay = (_, added.2)

    long : length new ≡ suc (length old)
    long = search (rules, length-append)

    new_is : chain_in new number ≡ record { number = number; item = kept_view nodes s.item } ∷ chain_in old rest
    new_is = search (rules, get_or_at)

    table : IsTableIn section new s.at number
    table = record {
      within = omega (arith, added.1, long);
      table =
          table_more section s.at leads.next (kept_view nodes s.item) (table_in old rest) popped.1.is leads.table.table
          (lacks_from code_of_decl s.item.code (table_in old rest) added.0)
          ∙ (λ i. Ok (items_of (sym new_is i)));
    }

    -- one start more, with its table
    pub turn_starts : (starts : List ℕ) → AreStarts section old starts → NothingAt starts s.at
        → AreStarts section new (starts ++ s.at ∷ [])
    turn_starts starts are nothing = record {
      apart = apart_push (length section) starts s.at are.apart nothing start_less;
      long = omega (arith, long, length-append starts (s.at ∷ []));
      each = λ k less. elim (cases_eq k (length starts)) [
        | inl same ↦
            let start_is : get_or (starts ++ s.at ∷ []) k 0 ≡ s.at = get_or_at starts s.at [] 0 k (sym same) in
            let last : suc k ≡ number = omega (arith, added.1) in
            rw (start_is, last) table
        | inr other ↦
            let before : k < length starts = omega (arith, length-append starts (s.at ∷ [])) in
            let start_is : get_or (starts ++ s.at ∷ []) k 0
            ≡ get_or starts k 0 = get_or_append_left starts (s.at ∷ []) 0 k before in
            rw start_is (is_table_stays section old new (get_or starts k 0) (suc k) turn_stay (are.each k before))
      ];
    }

    pub turn_leads : Leads section nodes new left offset number
    turn_leads = search (rules, popped, table)

-- ---- the table that was read

module _ (section : List ℕ) (tables : Tables) (offset number : ℕ) (is : IsTableIn section tables offset number) where
  pub allowed_in : AreDeclarations (table_in tables number)
  allowed_in = search (rules, table_allowed, table)

  pub fewer_in : length (table_in tables number) < length section
  fewer_in = search (rules, table_fewer, table)

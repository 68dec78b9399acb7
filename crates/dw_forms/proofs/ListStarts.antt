-- Lists of attributes that begin at offsets of a section, and where they end, as more attributes are kept.
use Rattle.std.proofs.lemmas.Grind.{common_steps}
use Rattle.std.proofs.Common.{rules, ◌≡◌, ℕ, zero, suc, ◌+◌, ◌-◌, ◌<◌, List, [], ◌∷◌, ◌++◌, length, inl, inr, All, arith, get_or, length-append, take, drop, sym, ap, ◌∙◌, append_assoc, length-drop, take-append-drop, take_all, drop_at, Bool, Some, None, Result, Ok, Err, refl, ne_eqb, ◌≤◌, Option, subst, append-nil, eq-eqb}
use Rattle.std.specs.List.Sorted.{IsNonDecreasingBy}
use Rattle.std.proofs.lemmas.Bool.{cases_eq}
use Rattle.std.proofs.lemmas.List.{get_or_append_left, get_or_at, get_or_default}
use Rattle.std.proofs.lemmas.List.Elements.{All-push, All-weaker}
use Rattle.std.proofs.lemmas.List.Sorted.{IsNonDecreasingBy-push}
use Rattle.dw_forms.specs.ListOffsets.{AreUpTo, FromFirst, IsEndAdded, SharedEnd, IsListAt, NoListAt, ArePlaced, IsPairAt, LeadsToList}
use Rattle.dw_forms.specs.AbbrevReading.{unsigned_at, attributes_of, tagged_at, decl_at, DeclFault, AttributeSpec, pair_at}
use Rattle.dw_forms.specs.AttributeLists.{list_in, Node, numbered_in, IsLast, AddedSpec}
use Rattle.dw_forms.specs.TableStarts.{IfNoDecl}
use Rattle.dw_forms.specs.Stops.{IfFault, Stop}
use Rattle.dw_forms.proofs.DeclLaws.{decl_by, decl_end, code_fault, number_ends, tag_ends, attribute_good}
use Rattle.dw_forms.specs.Abbrev.{IsCode16, attribute_of, specifications, broken}
use Rattle.dw_forms.specs.declared.rule.Rule.TheVariants.{AbbrevCut}
use Rattle.dw_forms.specs.Offsets.{BeginsAt, NothingAt, AreAlong, AreNew, Stay, Placed}
use Rattle.dw_forms.specs.ListFormats.{ReadsNext, reads_next}
use Rattle.dw_forms.specs.Elements.{SpellsElement, SpellsEnd, NextFails}
use Rattle.dw_forms.proofs.ChainLaws.{chain_none}
use Rattle.dw_forms.specs.Keys.{lacks_from, lacks_test}
use Rattle.dw_forms.proofs.SpelledLists.{taken, list_more, list_end, none_before, none_twice, none_broken}
use Rattle.dw_forms.proofs.NodeLaws.{old_list, new_list}
use Rattle.dw_forms.proofs.OffsetLaws.{begins_within, apart_push, along_pop, along_back, new_pop, new_stay}
use Rattle.dw_forms.specs.declared.fault.Stop.TheVariants as stops

-- ---- where lists end, as one more list is kept

-- a list has an end if the first one has
pub first_stays : (list : ℕ) (ends : List SharedEnd) (count : ℕ) → FromFirst ends → AreUpTo list ends count
    → 0 < count
first_stays list ends (suc count) first up_to = omega arith
first_stays list ends zero first up_to =
    let d : SharedEnd = record { before = 0; end = 0 } in
    absurd (omega (arith, up_to.point.1 0 d (omega arith) first.some, first.before d))

-- all ends are those of the last list, and of lists before it
all_up_to : (list : ℕ) (ends : List SharedEnd) (count : ℕ) → AreUpTo list ends count
    → All (λ e. e.before < suc list) ends → count ≡ length ends
all_up_to list ends count up_to below = elim (cases_eq count (length ends)) [
  | inl same ↦ same
  | inr other ↦
      let d : SharedEnd = record { before = 0; end = 0 } in
      let less : count < length ends = omega (arith, other, up_to.within) in
      absurd (omega (arith, up_to.point.1 count d (omega arith) less, below count d less))
]

module _ (before end : ℕ) (old new : List SharedEnd) (added : IsEndAdded before end old new)
    (below : All (λ e. e.before < before) old) where
  abbrev last_end : SharedEnd
  last_end = record { before = before; end = end }

  long : length (old ++ last_end ∷ []) ≡ length old + 1
  long = length-append old (last_end ∷ [])

  pub ends_rise : IsNonDecreasingBy (λ e. e.before) old → IsNonDecreasingBy (λ e. e.before) new
  ends_rise rise = elim added [
    | inl same ↦ rw same.1 rise
    | inr more ↦ rw more (IsNonDecreasingBy-push (λ e. e.before) old last_end rise
        (λ d some. omega (arith, below (length old - 1) d (omega arith))))
  ]

  pub ends_below : (count : ℕ) → before < count → All (λ e. e.before < count) new
  ends_below count less = grind (arith, common_steps, All-weaker, All-push, last_end)

  pub ends_first : (0 < before → FromFirst old) → FromFirst new
  ends_first first = search (rules, last_end, long, cases_eq, get_or_at, get_or_append_left)

  -- the new list has the end
  pub new_end : (count : ℕ) (e : SharedEnd) → AreUpTo before new count → e ≡ get_or new (count - 1) e → e.end ≡ end
  new_end count e up_to read = search (rules, all_up_to, ends_below, get_or_default, last_end, get_or_at, long)

  -- and those before it keep theirs
  pub old_end : (list : ℕ) → list < before → (count : ℕ) (e : SharedEnd) → AreUpTo list new count → 0 < count
      → e ≡ get_or new (count - 1) e → AreUpTo list old count × (e ≡ get_or old (count - 1) e)
  old_end list less count e up_to some read = search (rules, cases_eq, get_or_at, last_end, long, get_or_append_left)

-- ---- bytes from an offset of a section on

-- bytes at the end of those from an offset on are an end of the section
pub rest_of : (section : List ℕ) (offset : ℕ) (text rest : List ℕ) → drop offset section ≡ text ++ rest
    → rest ≡ drop (length section - length rest) section
rest_of section offset text rest parts =
    let whole : section ≡ (take offset section ++ text) ++ rest = sym (take-append-drop offset section)
    ∙ (λ i. take offset section ++ parts i) ∙ sym (append_assoc (take offset section) text rest) in
    let long : length (take offset section ++ text)
    ≡ length section - length rest = omega
    (arith, ap length whole, length-append (take offset section ++ text) rest) in
    sym (drop_at (take offset section ++ text) rest (length section - length rest) long)
    ∙ ap (drop (length section - length rest)) (sym whole)

-- the bytes from an offset on
pub bytes_from : (section : List ℕ) (offset : ℕ)
    → take (length section - offset) (drop offset section) ≡ drop offset section
bytes_from section offset = search (rules, take_all, length-drop)

-- ---- a declaration is read by its code, its tag, and the list of its attributes

module _ (section : List ℕ) (offset : ℕ) where
  -- no code
  pub code_breaks : (fault : DeclFault) → unsigned_at (drop offset section) ≡ Err fault → IfNoDecl section offset
  code_breaks fault e = search (rules, code_fault)

  module _ (code : ℕ) (rest : List ℕ) (code_is : unsigned_at (drop offset section) ≡ Ok (code, rest)) where
    -- the code 0
    pub next_none : code ≡ 0 → decl_at [] (drop offset section) ≡ Ok (None, drop (length section - length rest) section)
    next_none none = search (rules, number_ends, decl_end, eq-eqb, rest_of)

    module _ (some : code ≡ 0 → ⊥) where
      -- no tag
      pub tag_breaks : (fault : DeclFault) → tagged_at rest ≡ Err fault → IfNoDecl section offset
      tag_breaks fault e =
          (fault, decl_by (drop offset section) code rest code_is (ne_eqb code 0 some) ∙ rw e refl)

      module _ (tag : ℕ × Bool) (after : List ℕ) (tag_is : tagged_at rest ≡ Ok (tag, after)) where
        after_is : after ≡ drop (length section - length after) section
        after_is =
            let first = number_ends (drop offset section) code rest code_is in
            let second = tag_ends rest tag after tag_is in
            rest_of section offset (first.0 ++ second.0) after
            (first.1 ∙ (λ i. first.0 ++ second.1 i) ∙ sym (append_assoc first.0 second.0 after))

        -- the list of its attributes
        pub next_some : (nodes : List Node) (first end : ℕ)
            → IsListAt section nodes (length section - length after) first end
            → decl_at [] (drop offset section)
            ≡ Ok (
              Some (record { code = code; tag = tag.0; has_children = tag.1; attributes = list_in nodes first }),
              drop end section,
            )
        next_some nodes first end is =
            let list : attributes_of after
            ≡ Ok (list_in nodes first, drop end section) = ap attributes_of after_is ∙ is.list in
            decl_by (drop offset section) code rest code_is (ne_eqb code 0 some) ∙ rw (tag_is, list) refl

        -- no list
        pub list_breaks : (error : Stop DeclFault)
            → IfFault (λ _. NoListAt section (length section - length after)) error
            → IfFault (λ _. IfNoDecl section offset) error
        list_breaks stops.Memory e = tt
        list_breaks (stops.Fault fault) none = by_list (attributes_of after) refl
          where
            by_list : (list : Result (List AttributeSpec × List ℕ) DeclFault) → attributes_of after ≡ list
                → IfNoDecl section offset
            by_list (Ok x) e = absurd (none x.0 x.1 (sym (ap attributes_of after_is) ∙ e))
            by_list (Err other) e =
                (other, decl_by (drop offset section) code rest code_is (ne_eqb code 0 some) ∙ rw (tag_is, e) refl)

-- ---- lists of attributes that begin at offsets of a section, as more attributes are kept

reads_attributes : ReadsNext attribute_of (SpellsElement specifications) (SpellsEnd specifications)
    (NextFails specifications) pair_at (broken AbbrevCut 0)
reads_attributes = search (rules, reads_next)

-- ---- what stays

pub lists_stay : (more nodes : List Node) (number : ℕ) → number ≤ length nodes
    → numbered_in (nodes ++ more) number ≡ numbered_in nodes number
lists_stay [] nodes number within = search (rules, append-nil)
lists_stay (n ∷ more) nodes number within =
    search (
      rules,
      append_assoc,
      length-append,
      old_list,
      (lists_stay more (nodes ++ n ∷ []) number (omega (arith, length-append nodes (n ∷ [])))),
    )

pub list_stays : (section : List ℕ) (old new : List Node) (offset number end : ℕ) → Stay old new
    → IsListAt section old offset number end → IsListAt section new offset number end
list_stays section old new offset number end stay is = search (rules, length-append, lists_stay)

-- ---- one attribute more

-- the lists stay where they are, and so does one more
pub placed_more : (section : List ℕ) (nodes : List Node) (n : Node) (starts : List ℕ) (ends more : List SharedEnd)
    (at end : ℕ) → ArePlaced section nodes starts ends → NothingAt starts at → at < length section
    → IsListAt section (nodes ++ n ∷ []) at (suc (length nodes)) end → IsEndAdded (length nodes) end ends more
    → ArePlaced section (nodes ++ n ∷ []) (starts ++ at ∷ []) more
placed_more section nodes n starts ends more at end placed nothing less_at is added = record {
  apart = apart_push (length section) starts at placed.apart nothing less_at;
  starts_long = omega (arith, long_starts, long_nodes);
  rise = ends_rise (length nodes) end ends more added placed.below placed.rise;
  first = λ some. first_is;
  below =
      ends_below (length nodes) end ends more added placed.below (length (nodes ++ n ∷ [])) (omega (arith, long_nodes));
  lists = λ k count e less up_to read. elim (cases_eq k (length nodes)) [
    | inl same ↦
        let ends_here = new_end (length nodes) end ends more added placed.below count e
        (subst (λ (m : ℕ). AreUpTo m more count) same up_to) read in
        let begins : get_or (starts ++ at ∷ []) k 0
        ≡ at = get_or_at starts at [] 0 k (omega arith) in
        rw (same, ends_here) (rw (ap (λ (m : ℕ). get_or (starts ++ at ∷ []) m 0) (sym same) ∙ begins) is)
    | inr other ↦
        let before : k < length nodes = omega (arith, long_nodes) in
        let begins : get_or (starts ++ at ∷ []) k 0
        ≡ get_or starts k 0 = get_or_append_left starts (at ∷ []) 0 k (omega arith) in
        let some = first_stays k more count first_is up_to in
        let old = old_end (length nodes) end ends more added placed.below k before count e up_to some read in
        rw begins (list_stays section nodes (nodes ++ n ∷ []) _ _ e.end (n ∷ [], refl)
        (placed.lists k count e before old.0 old.1))
  ];
}
  where
    long_nodes : length (nodes ++ n ∷ []) ≡ length nodes + 1
    long_nodes = length-append nodes (n ∷ [])

    long_starts : length (starts ++ at ∷ []) ≡ length starts + 1
    long_starts = length-append starts (at ∷ [])

    first_is : FromFirst more
    first_is = search (rules, ends_first)

-- where no list begins after attributes, none begins with them
none_along : (section : List ℕ) (pairs : List (Placed AttributeSpec)) (offset end : ℕ)
    → AreAlong (IsPairAt section) pairs offset end → NoListAt section end → NoListAt section offset
none_along section =
    along_back (IsPairAt section) (NoListAt section)
    (λ offset next spec e none. none_before reads_attributes (drop offset section) (drop next section) spec e.is none)

-- ---- a turn: the last attribute before a list, and the list

module _ {section : List ℕ} {old : List Node} {starts : List ℕ} {offset first end : ℕ}
    {all : List (Placed AttributeSpec)} (left : List (Placed AttributeSpec)) (p : Placed AttributeSpec)
    (parts : all ≡ left ++ p ∷ []) (leads : LeadsToList section old starts all offset first end) where
  popped : AreAlong (IsPairAt section) left offset p.at × IsPairAt section p.at p.item leads.next
  popped = search (rules, along_pop)

  pub pair_less : p.at < length section
  pair_less = let e = popped.1 in omega arith

  pub code_before : IsCode16 p.item.attribute
  code_before =
      let t = taken reads_attributes (drop p.at section) (Some p.item) (drop leads.next section) popped.1.is in
      attribute_good t.text p.item t.spelled.0

  pub no_list : (new : List Node) → AddedSpec p.item first old new None → NoListAt section offset
  no_list new added =
      none_along section left offset p.at popped.0
      (none_twice reads_attributes (drop p.at section) (drop leads.next section) (drop end section) p.item
      (list_in old first) popped.1.is leads.list.list
      (λ lacks. let e = lacks_test attribute_of p.item.attribute (list_in old first) lacks in cc))

  pub next_new : NothingAt starts p.at × AreNew (starts ++ p.at ∷ []) left
  next_new = search (rules, new_pop, new_stay, popped)

  module _ (new : List Node) (number : ℕ) (added : AddedSpec p.item first old new (Some number)) where
    last : IsLast p.item first old new
    last = added.2

    made : list_in (old ++ last.node ∷ []) (suc (length old)) ≡ p.item ∷ list_in old first
    made = search (rules, new_list, last)

    here : IsListAt section (old ++ last.node ∷ []) p.at (suc (length old)) end
    here =
        let rises = leads.list.rises in
        let less = popped.1.rises in
        record {
          within = omega (arith, length-append old (last.node ∷ []));
          list =
              list_more reads_attributes (drop p.at section) (drop leads.next section) (drop end section) p.item
              (list_in old first) popped.1.is leads.list.list
              (lacks_from attribute_of p.item.attribute (list_in old first) added.0)
              ∙ (λ i. Ok ((sym made i), drop end section));
          rises = omega arith;
          fits = leads.list.fits;
        }

    pub next_leads : LeadsToList section new (starts ++ p.at ∷ []) left offset number end
    next_leads = search (rules, popped, next_new, last, here)

    pub next_placed : (ends more : List SharedEnd) → ArePlaced section old starts ends
        → IsEndAdded (number - 1) end ends more → ArePlaced section new (starts ++ p.at ∷ []) more
    next_placed ends more placed end_added =
        let before : number - 1 ≡ length old = omega (arith, added.1) in
        subst (λ (ns : List Node). ArePlaced section ns (starts ++ p.at ∷ []) more) (sym last.nodes)
        (placed_more section old last.node starts ends more p.at end placed next_new.0 pair_less here
        (subst (λ (m : ℕ). IsEndAdded m end ends more) before end_added))

    pub next_stay : Stay old new
    next_stay = (last.node ∷ [], last.nodes)

-- ---- what is read at an offset

-- what is left after a pair is an end of the section
pub pair_rest : (section : List ℕ) (offset : ℕ) (o : Option AttributeSpec) (after : List ℕ)
    → pair_at [] (drop offset section) ≡ Ok (o, after) → after ≡ drop (length section - length after) section
pair_rest section offset o after e = search (rules, taken, reads_attributes, rest_of)

-- a pair at the front of bytes that end a section is between two of its offsets
pub pair_read : (section bytes after : List ℕ) (o : Option AttributeSpec)
    → bytes ≡ drop (length section - length bytes) section → pair_at [] bytes ≡ Ok (o, after)
    → (pair_at [] (drop (length section - length bytes) section)
    ≡ Ok (o, drop (length section - length after) section)) × (after ≡ drop (length section - length after) section)
pair_read section bytes after o rest e =
    let read = sym (ap (pair_at []) rest) ∙ e in
    let is = pair_rest section (length section - length bytes) o after read in
    (read ∙ (λ i. Ok (o, is i)), is)

-- at the pair 0, 0 begins the list without attributes
pub end_list : (section : List ℕ) (nodes : List Node) (at after : ℕ)
    → pair_at [] (drop at section) ≡ Ok (None, drop after section) → at < after → after ≤ length section
    → IsListAt section nodes at 0 after
end_list section nodes at after e rises fits = search (rules, (list_end pair_at (broken AbbrevCut 0)), chain_none)

-- where an attribute is broken, no list begins before it
pub pairs_break : (section : List ℕ) (pairs : List (Placed AttributeSpec)) (offset at : ℕ)
    → AreAlong (IsPairAt section) pairs offset at → (fault : DeclFault) → pair_at [] (drop at section) ≡ Err fault
    → NoListAt section offset
pairs_break section pairs offset at after fault e = search (rules, none_along, none_broken)

-- a list that is kept has an end
pub some_end : (section : List ℕ) (nodes : List Node) (starts : List ℕ) (ends : List SharedEnd)
    (offset number count : ℕ) → ArePlaced section nodes starts ends → BeginsAt starts number offset
    → AreUpTo (number - 1) ends count → 0 < count
some_end section nodes starts ends offset number count placed begins up_to =
    let at = begins_within starts number offset begins in
    first_stays (number - 1) ends count (placed.first (omega (arith, at.0))) up_to

-- and begins at its offset
pub kept_list : (section : List ℕ) (nodes : List Node) (starts : List ℕ) (ends : List SharedEnd)
    (offset number count : ℕ) → ArePlaced section nodes starts ends → BeginsAt starts number offset → 0 < number
    → AreUpTo (number - 1) ends count → (d : SharedEnd)
    → IsListAt section nodes offset number (get_or ends (count - 1) d).end
kept_list section nodes starts ends offset number count placed begins some up_to d =
    let at = begins_within starts number offset begins in
    let less : number - 1 < length nodes = omega (arith, at.0) in
    let e = get_or ends (count - 1) d in
    let there = some_end section nodes starts ends offset number count placed begins up_to in
    let within : count - 1 < length ends = omega arith in
    let is = placed.lists (number - 1) count e less up_to (get_or_default ends (count - 1) d e within) in
    subst (λ (m : ℕ). IsListAt section nodes m number e.end) at.1
    (subst (λ (m : ℕ). IsListAt section nodes (get_or starts (number - 1) 0) m e.end) (omega arith) is)

-- Chapter: the functions of a unit with the addresses of their code (DWARF 5, 3.3), and the rules on these.
use Rattle.std.specs.Prelude.{◌≡◌, ℕ, ◌+◌, ◌-◌, ◌≤◌, ◌⊎◌, List, [], ◌∷◌, ◌++◌, length, map, slice_index_or, slice_range}
use Rattle.std.specs.Prelude.{All, AllPairs, IsPermutation, Option, Some, None, IfSome, IsSome, Result, Ok, Err, ◌==◌}
use Rattle.std.specs.Prelude.{◌&&◌, not, if◌then◌else◌}
use Rattle.dw_entries.specs.declared.entries.Entries.{Entries}
use Rattle.dw_entries.specs.ByNumber.{end_in, entry_of, Entry}
use Rattle.dw_entries.specs.Views.{all_entries, all_units}
use Rattle.dw_ranges.specs.Areas.{AreAreas, Has}
use Rattle.dw_ranges.specs.EntryRanges.{AreAddressesOf, head_in}
use Rattle.dw_ranges.specs.Live.{AreCodeOf, CodeFails}
use Rattle.dw_ranges.specs.Spans.{Agree, AreOrdered, IsFirstMeeting, IsUpTo}
use Rattle.dw_ranges.specs.Totals.{counted}
use Rattle.dw_ranges.specs.declared.addresses.UnitAddresses.{UnitAddresses}
use Rattle.dw_ranges.specs.declared.bounds.RangeSections.{RangeSections}
use Rattle.dw_ranges.specs.declared.fault.RangeFault.{RangeFault}
use Rattle.dw_ranges.specs.declared.functions.Inside.{Inside}
use Rattle.dw_ranges.specs.declared.functions.UnitFunctions.{UnitFunctions}
use Rattle.dw_ranges.specs.declared.range.Range.{Range}
use Rattle.dw_ranges.specs.declared.rule.RangeRule.{RangeRule}
use Rattle.dw_ranges.specs.declared.rule.RangeRule.TheVariants.{OutsideUnit, OutsideParent, InlinedMeet, FunctionsMeet}
use Rattle.dw_ranges.specs.declared.spans.Span.{Span}
use Rattle.dw_ranges.specs.declared.totals.RangeCounts.{RangeCounts}
use Rattle.dw_ranges.specs.declared.totals.Totals.{Totals}

abbrev pub DW_TAG_subprogram : ℕ
DW_TAG_subprogram = 0x2e

abbrev pub DW_TAG_inlined_subroutine : ℕ
DW_TAG_inlined_subroutine = 0x1d

-- the function that an entry is or is in: the group of what is inlined there, which is one more than the number of the
-- function's entry, and its areas. Outside functions the group is 0
pub record Scope : Type 0 where
  pub group : ℕ
  pub areas : List Range

-- that of an entry in no function
abbrev pub no_scope : Scope
no_scope = record { group = 0; areas = [] }

-- what is known of a unit's entries, up to one of them: the scope of each, where that of the first one has the areas of
-- the unit, the spans of the functions among them, and the totals
pub record Known : Type 0 where
  pub scopes : List Scope
  pub spans : List Span
  pub totals : Totals

-- the group of an entry that is a function, by its tag and the scope that it is in. An inlined one that is in no
-- function is none
abbrev pub group_of : ℕ → Scope → Option ℕ
group_of tag outer =
    if tag == DW_TAG_subprogram then Some 0 else
    if tag == DW_TAG_inlined_subroutine && not (outer.group == 0) then Some outer.group else None

-- the areas of which its own are a part: those of the unit, or of the function that it is inlined in
abbrev pub home_of : ℕ → Scope → Scope → Scope
home_of tag unit outer = if tag == DW_TAG_subprogram then unit else outer

-- the rule that its addresses violate if they are not (X9 and X10)
abbrev pub outside : ℕ → RangeRule
outside tag = if tag == DW_TAG_subprogram then OutsideUnit else OutsideParent

-- the span of an area of a function
abbrev pub span_in : ℕ → ℕ → Range → Span
span_in group function r = record { group = group; low = r.low; high = r.high; function = function }

-- every address of some areas is one of a scope
abbrev pub ArePart : List Range → Scope → Type 0
ArePart areas home = (a : ℕ) → Has areas a → Has home.areas a

-- the scope of an entry of the unit, by how many entries of the unit are before it
abbrev pub scope_at : List Scope → ℕ → Scope
scope_at scopes k = slice_index_or scopes k no_scope

-- the scope that an entry is in, its parent's, where the first entry of the unit has this number
abbrev pub outer_of : List Scope → (first : ℕ) → Option ℕ → Scope
outer_of scopes first None = no_scope
outer_of scopes first (Some parent) = scope_at scopes (parent - first)

-- the group of an entry with these areas, if it is a function with code, and not the first entry of the unit
abbrev pub group_with : ℕ → Scope → List Range → Option ℕ
group_with tag outer [] = None
group_with tag outer (r ∷ rs) = group_of tag outer

-- what is known after an entry that is no function, or that is one of this group
abbrev pub known_with : Known → (number : ℕ) → Scope → List Range → Totals → Option ℕ → Known
known_with before number outer areas totals None =
    record { scopes = before.scopes ++ outer ∷ []; spans = before.spans; totals = totals }
known_with before number outer areas totals (Some group) = record {
  scopes = before.scopes ++ record { group = number + 1; areas = areas } ∷ [];
  spans = before.spans ++ map (span_in group number) areas;
  totals = totals;
}

-- the scope that an entry has, by where its areas are
abbrev pub scope_of : List Range → Inside → Scope
scope_of areas i = record { group = i.group; areas = slice_range areas i.first i.end }

-- those of all entries so far
abbrev pub scopes_of : UnitFunctions → List Scope
scopes_of f = map (scope_of f.areas.items) f.inside.items

-- the same with the spans of their functions, and the totals
abbrev pub known_of : UnitFunctions → Known
known_of f = record { scopes = scopes_of f; spans = f.spans.items; totals = f.totals }

-- its areas are among these
pub record IsInside (areas : List Range) (i : Inside) : Type 0 where
  pub rises : i.first ≤ i.end
  pub within : i.end ≤ length areas
  pub are : AreAreas (slice_range areas i.first i.end)

-- all areas of scopes are there
abbrev pub AreInside : UnitFunctions → Type 0
AreInside f = All (IsInside f.areas.items) f.inside.items

module _ (sections : RangeSections) (unit : UnitAddresses) (code : List Range) where
  -- the first entry of a unit violates no rule, and this is known after it: the areas of the unit. The budget counts
  -- the bytes of range lists
  pub record Starts (e : Entry) (before : Totals) (start : Known) : Type 0 where
    pub areas : List Range
    pub left : ℕ
    pub counts : RangeCounts
    pub are : AreCodeOf sections unit code e before.left areas left counts
    pub is : start ≡ record {
      scopes = record { group = 0; areas = areas } ∷ [];
      spans = [];
      totals = counted before left counts None;
    }

module _ (sections : RangeSections) (unit : UnitAddresses) (code : List Range) (first : ℕ) where
  -- the scope that an entry is in, and its group if it is a function with code
  abbrev pub outer : Known → Entry → Scope
  outer before e = outer_of before.scopes first e.parent

  abbrev pub group_at : Known → Entry → List Range → Option ℕ
  group_at before e areas = group_with e.head.decl.tag (outer before e) areas

  abbrev pub home : Known → Entry → Scope
  home before e = home_of e.head.decl.tag (scope_at before.scopes 0) (outer before e)

  -- the entry with a number violates no rule, and this is known after it
  pub record Takes (before : Known) (number : ℕ) (e : Entry) (after : Known) : Type 0 where
    pub areas : List Range
    pub left : ℕ
    pub counts : RangeCounts
    pub are : AreCodeOf sections unit code e before.totals.left areas left counts
    pub part : IfSome (group_at before e areas) (λ _. ArePart areas (home before e))
    pub is : after ≡ known_with before number (outer before e) areas
        (counted before.totals left counts (group_at before e areas)) (group_at before e areas)

  -- it is a function, of which an address is not one of its unit (rule X9), or of the function that it is inlined in
  -- (X10)
  pub record IsOutside (before : Known) (e : Entry) (fault : RangeFault) : Type 0 where
    pub areas : List Range
    pub left : ℕ
    pub counts : RangeCounts
    pub are : AreCodeOf sections unit code e before.totals.left areas left counts
    pub some : IsSome (group_at before e areas)
    pub not_part : ¬ (ArePart areas (home before e))
    pub is : fault ≡ record { rule = outside e.head.decl.tag; at = e.at }

  -- it violates a rule
  abbrev pub Refuses : Known → Entry → RangeFault → Type 0
  Refuses before e fault = CodeFails sections unit code e before.totals.left fault ⊎ IsOutside before e fault

  -- reading entries in their order, of which the first has this number, ends so
  abbrev pub Reads : Known → (number : ℕ) → List Entry → Result Known RangeFault → Type 0
  Reads before number [] r = r ≡ Ok before
  Reads before number (e ∷ es) r =
      ((fault : RangeFault) × Refuses before e fault × (r ≡ Err fault))
      ⊎ ((after : Known) × Takes before number e after × Reads after (number + 1) es r)

  -- the entries of a unit, of which the first one is number `first`, violate none of the rules X1 to X10 and X13
  pub record AreFunctions (entries : List Entry) (end : ℕ) (before : Totals) (known : Known) : Type 0 where
    pub start : Known
    pub starts : Starts sections unit code (entry_of entries first) before start
    pub reads : Reads start (first + 1) (slice_range entries (first + 1) end) (Ok known)

  -- one of them does, first by the order of the entries
  pub record IsBroken (entries : List Entry) (end : ℕ) (before : Totals) (fault : RangeFault) : Type 0 where
    pub start : Known
    pub starts : Starts sections unit code (entry_of entries first) before start
    pub reads : Reads start (first + 1) (slice_range entries (first + 1) end) (Err fault)

-- the rule that two spans of a group violate if they do not agree (X11 and X12)
abbrev pub meeting : ℕ → RangeRule
meeting group = if group == 0 then FunctionsMeet else InlinedMeet

-- spans do not agree. The fault names the first one, in their order, that does not agree with the one before it
pub record IsMeeting (entries : List Entry) (spans ordered : List Span) (fault : RangeFault) : Type 0 where
  pub disagree : ¬ (AllPairs Agree spans)
  pub number : ℕ
  pub sorted : AllPairs IsUpTo ordered
  pub first : IsFirstMeeting ordered number
  pub is : (d : Span) → fault ≡ record {
    rule = meeting (slice_index_or ordered number d).group;
    at = (entry_of entries (slice_index_or ordered number d).function).at;
  }

module _ (sections : RangeSections) (unit : UnitAddresses) (code : List Range) (first : ℕ) (entries : List Entry)
    (end : ℕ) (before : Totals) where
  -- the functions of these entries violate no rule: their spans are in order, and no two disagree
  pub record AreInOrder (result : Known) : Type 0 where
    pub spans : List Span
    pub are : AreFunctions sections unit code first entries end before
        (record { scopes = result.scopes; spans = spans; totals = result.totals })
    pub same : IsPermutation spans result.spans
    pub agree : AllPairs Agree spans
    pub ordered : AreOrdered result.spans

  -- two of its functions meet, and no entry violates one of the rules X1 to X10 and X13
  pub record HasMeeting (fault : RangeFault) : Type 0 where
    pub known : Known
    pub are : AreFunctions sections unit code first entries end before known
    pub ordered : List Span
    pub same : IsPermutation known.spans ordered
    pub is : IsMeeting entries known.spans ordered fault

  -- the first rule that they violate: at the first entry, at a later one, or by two functions that meet
  abbrev pub IsViolated : RangeFault → Type 0
  IsViolated fault = CodeFails sections unit code (entry_of entries first) before.left fault
      ⊎ (IsBroken sections unit code first entries end before fault ⊎ HasMeeting fault)

module _ (sections : RangeSections) (code : List Range) (entries : Entries) (number : ℕ) (before : Totals) where
  -- the functions of the unit with a number, which violates no rule, after these totals
  pub record HasFunctions (result : Known) : Type 0 where
    pub unit : UnitAddresses
    pub addresses : AreAddressesOf entries number unit
    pub are : AreInOrder sections unit code (head_in entries number).first (all_entries entries)
        (end_in (all_units entries) number) before result

  -- the first rule that the unit violates
  pub record Violates (fault : RangeFault) : Type 0 where
    pub unit : UnitAddresses
    pub addresses : AreAddressesOf entries number unit
    pub is : IsViolated sections unit code (head_in entries number).first (all_entries entries)
        (end_in (all_units entries) number) before fault

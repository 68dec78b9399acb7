-- A first fault over capped sizes is the first fault over the sizes themselves: the one table of sizes, and the capped
-- table that is filled in its place.
use Rattle.std.proofs.Common.{rules, ◌≡◌, ℕ, ◌^◌, ◌<◌, ◌≤◌, min, ℤ, pos, negsuc, Bool, true, false, not, ◌&&◌, ◌||◌, if◌then◌else◌, List, Option, Some, None, is_some, length, nat_eq, arith, refl, sym, ap, ◌∙◌}
use Rattle.std.proofs.lemmas.Bool.{cases_lt, false_from_ne_true}
use Rattle.dw_forms.specs.Codes.{DW_TAG_enumeration_type}
use Rattle.dw_forms.specs.declared.rule.Rule.{Rule}
use Rattle.dw_forms.specs.declared.rule.Rule.TheVariants.{NoSize, SizeTooGreat, MemberOutside, EnumSize}
use Rattle.dw_forms.specs.Rules.{number_of}
use Rattle.dw_entries.specs.EntryRules.{OffsetsRise}
use Rattle.dw_entries.specs.Entries.{Entry, entries_of, DebugUnit}
use Rattle.dw_links.specs.declared.constant.Constant.{Constant}
use Rattle.dw_links.specs.Constants.{is_present, natural_of}
use Rattle.dw_links.specs.declared.constant.Constant.TheVariants.{Absent, NotNumber, Unsigned, Signed}
use Rattle.dw_links.proofs.TableLemmas.{target_within}
use Rattle.dw_types.specs.declared.kind.Kind.{Kind}
use Rattle.dw_types.specs.declared.kind.Kind.TheVariants.{Enumeration}
use Rattle.dw_types.specs.Entries.{byte_size, entry_in, type_target}
use Rattle.dw_types.specs.Extents.{bytes_end_past, end_past, is_outside, ends_past_container}
use Rattle.dw_types.specs.Kinds.{is_enumeration, kind_by}
use Rattle.dw_types.specs.Shapes.{is_plain, stands_alone}
use Rattle.dw_types.specs.SizeFaults.{differ, fails_size, has_wrong_size, is_too_great, IsFirstSizeFault}
use Rattle.dw_types.specs.SizeTables.{Size, cap_size}
use Rattle.dw_types.specs.Sizes.{constant_or, size_line, size_of_kind, size_to, ObeysSizeLines, IsSizeTable}
use Rattle.dw_types.proofs.SizeLineLemmas.{size_line-local, size_line-caps}
use Rattle.dw_types.specs.TypeFailures.{plain_fault_at, IsFirstAt, NoneFailsBefore}
use Rattle.dw_types.specs.StoredSizes.{ObeysCappedLines}
use Rattle.dw_types.specs.Graphs.{FallsAlong, LeadsToNodes}
use Rattle.dw_types.specs.Steps.{by_value}
use Rattle.dw_types.proofs.ElementCountLemmas.{uncapped}
use Rattle.dw_types.proofs.FirstLemmas.{first-of_entries}
use Rattle.dw_types.proofs.SiblingLemmas.{parent-first}
use Rattle.dw_types.proofs.StepLemmas.{by_value-leads, length-by_value}
use Rattle.dw_types.proofs.TableLemmas.{ObeysLines, capped-table, only-one, same-obeys, size_by_rank, some-obeys}

-- the capped size passes each test as the size does, where it is compared with less than the limit

great-same : (size : Size) → is_too_great (cap_size (2 ^ 63) size) ≡ is_too_great size
great-same None = refl
great-same (Some n) = search (rules, cases_lt)

past-same : (n : ℕ) (start : ℤ) (k : ℕ) → n < 2 ^ 63 → end_past n start (min (2 ^ 63) k) ≡ end_past n start k
past-same n (pos start) k small = grind arith
past-same n (negsuc start) k small = refl

bytes-same : (n : ℕ) (start : Option ℤ) (size : Size) → n < 2 ^ 63
    → bytes_end_past n start (cap_size (2 ^ 63) size) ≡ bytes_end_past n start size
bytes-same n None size small = refl
bytes-same n (Some start) None small = refl
bytes-same n (Some start) (Some k) small = past-same n start k small

differ-same : (a b : Size) → is_too_great a ≡ false → differ a (cap_size (2 ^ 63) b) ≡ differ a b
differ-same None b small = refl
differ-same (Some a) None small = refl
differ-same (Some a) (Some b) small = grind arith

if-same : (a b x y z w : Bool) → z ≡ w → (if a then x else if b then y else z) ≡ (if a then x else if b then y else w)
if-same a b x y z w same = rw same refl

cap-small : (size : Size) → is_too_great size ≡ false → cap_size (2 ^ 63) size ≡ size
cap-small None small = refl
cap-small (Some n) small = search rules

ends-same : (own : Size) (member : Entry) (size : Size) → is_too_great own ≡ false
    → ends_past_container own member (cap_size (2 ^ 63) size) ≡ ends_past_container own member size
ends-same None member size small = refl
ends-same (Some n) member size small = search (rules, if-same, bytes-same)

enumeration-kind : (tag : ℕ) (declared : Bool) → (nat_eq tag DW_TAG_enumeration_type && not declared) ≡ true
    → kind_by tag declared ≡ Enumeration
enumeration-kind tag declared is = grind arith

constant-small : (constant : Constant) (other : Size) → is_too_great (constant_or constant other) ≡ false
    → is_too_great (natural_of constant) ≡ false
constant-small Absent other small = refl
constant-small NotNumber other small = refl
constant-small (Unsigned n) other small = small
constant-small (Signed n) other small = small

pub and-same : (test : Bool) (a b : Bool) → (test ≡ true → a ≡ b) → (test && a) ≡ (test && b)
and-same true a b same = same refl
and-same false a b same = refl

-- a rule on sizes that is broken has one of four numbers
number-few : (us : List DebugUnit) (table : ℕ → Size) (node : ℕ) (rule : Rule) → fails_size us table node rule ≡ true
    → number_of rule ≤ 4
number-few us table node NoSize breaks = omega arith
number-few us table node SizeTooGreat breaks = omega arith
number-few us table node MemberOutside breaks = omega arith
number-few us table node EnumSize breaks = omega arith
number-few us table node _ breaks = absurd cc

module _ (us : List DebugUnit) (exact found : ℕ → Size) (obeys : ObeysSizeLines us exact)
    (caps : (node : ℕ) → node < length (entries_of us) → found node ≡ cap_size (2 ^ 63) (exact node)) where
  -- the same entries have a size that is too great
  great-at : (node : ℕ) → node < length (entries_of us) → is_too_great (found node) ≡ is_too_great (exact node)
  great-at node below = search (rules, great-same)

  to-found : (target : Option ℕ) → ((to : ℕ) → target ≡ Some to → to < length (entries_of us))
      → size_to found target ≡ cap_size (2 ^ 63) (size_to exact target)
  to-found None inside = refl
  to-found (Some to) inside = caps to (inside to refl)

  abbrev pub NoneGreatBefore : ℕ → Type 0
  NoneGreatBefore node = (k : ℕ) → k < node → is_too_great (exact k) ≡ false

  parent-small : (node : ℕ) → NoneGreatBefore node → (parent : Option ℕ) → ((p : ℕ) → parent ≡ Some p → p < node)
      → is_too_great (size_to exact parent) ≡ false
  parent-small node none None before = refl
  parent-small node none (Some p) before = none p (before p refl)

  outside-same : (node : ℕ) → node < length (entries_of us) → NoneGreatBefore node
      → is_outside us found node ≡ is_outside us exact node
  outside-same node below none =
      let member = entry_in us node in
      let small = parent-small node none member.parent (parent-first us node) in
      let container : size_to found member.parent ≡ size_to exact member.parent =
      to-found member.parent (λ p is. let before = parent-first us node p is in omega arith)
      ∙ cap-small (size_to exact member.parent) small in
      let type = to-found (type_target us node) (λ to is. target_within _ _ _ _ to is) in
      rw (container, type) (ap (λ (b : Bool). is_plain us node && b)
      (ends-same (size_to exact member.parent) member (size_to exact (type_target us node)) small))

  wrong-same : (node : ℕ) → node < length (entries_of us) → is_too_great (exact node) ≡ false
      → has_wrong_size us found node ≡ has_wrong_size us exact node
  wrong-same node below small =
      let entry = entry_in us node in
      and-same (is_enumeration entry) _ _ (λ is.
      let target = type_target us node in
      let line : exact node ≡ constant_or (byte_size entry) (size_to exact target) = obeys node below
      ∙ ap (λ (kind : Kind). size_of_kind kind us exact node) (enumeration-kind _ _ is) in
      let own = constant-small (byte_size entry) (size_to exact target) (rw line at small) in
      ap (λ (b : Bool). (not (is_present (byte_size entry)) && (not (is_some target) && stands_alone entry)) || b)
      (ap (differ (natural_of (byte_size entry))) (to-found target (λ to is. target_within _ _ _ _ to is))
      ∙ differ-same (natural_of (byte_size entry)) (size_to exact target) own))

  fails-same : (node : ℕ) → node < length (entries_of us) → NoneGreatBefore node → (rule : Rule)
      → (rule ≡ EnumSize → is_too_great (exact node) ≡ false)
      → fails_size us found node rule ≡ fails_size us exact node rule
  fails-same node below none SizeTooGreat small = great-at node below
  fails-same node below none MemberOutside small = outside-same node below none
  fails-same node below none EnumSize small = wrong-same node below (small refl)
  fails-same node below none _ small = refl

  not-great : (node : ℕ) → node < length (entries_of us) → ¬ (fails_size us found node SizeTooGreat ≡ true)
      → is_too_great (exact node) ≡ false
  not-great node below never = search (rules, great-at, false_from_ne_true)

  -- the first entry that breaks a rule by the capped sizes is the first by the sizes
  pub first-same : (node : ℕ) (rule : Rule) → IsFirstAt (entries_of us) (fails_size us found) node rule
      → IsFirstAt (entries_of us) (fails_size us exact) node rule
  first-same node rule h =
      let inside : node < length (entries_of us) = h.inside in
      let none : NoneGreatBefore node = λ k earlier. not-great k (omega arith) (h.before k earlier SizeTooGreat) in
      record {
        inside = h.inside;
        least = (
          sym (fails-same node inside none rule
              (λ is. not-great node inside (λ great. h.least.1 SizeTooGreat great (rw is (omega arith))))) ∙ h.least.0,
          λ other fails lower. h.least.1 other
              (fails-same node inside none other
              (λ is. absurd (let few = number-few us found node rule h.least.0 in
              let more : 4 < number_of rule = rw is at lower in omega arith)) ∙ fails) lower,
        );
        before =
            λ earlier lt other fails. h.before earlier lt other
            (fails-same earlier (omega arith) (λ k before. none k (omega arith)) other (λ is. none earlier lt) ∙ fails);
      }

below-limit : (size : Size) (n : ℕ) → is_too_great size ≡ false → size ≡ Some n → n < 2 ^ 63
below-limit size n small is = search rules

module _ (us : List DebugUnit) (ranks : List ℕ) (falls : FallsAlong (by_value us) ranks) where
  leads : LeadsToNodes (by_value us)
  leads = by_value-leads us

  abbrev pub sizes_by_rank : ℕ → Size
  sizes_by_rank = size_by_rank (size_line us) ranks

  exact-obeys : ObeysLines (by_value us) (size_line us) sizes_by_rank
  exact-obeys = some-obeys (by_value us) ranks falls leads (size_line us) (size_line-local us)

  -- a table that obeys the size lines is the only one
  pub is-size_table : (table : ℕ → Size) → ObeysSizeLines us table → IsSizeTable us table
  is-size_table table obeys = record {
    obeys = obeys;
    only = λ other right node below.
        only-one (by_value us) ranks falls leads (size_line us) (size_line-local us) other table
        (λ k within. right k (let long = length-by_value us in omega arith))
        (λ k within. obeys k (let long = length-by_value us in omega arith)) node
        (let long = length-by_value us in omega arith);
  }

  pub exact-lines : ObeysSizeLines us sizes_by_rank
  exact-lines node below = exact-obeys node (let long = length-by_value us in omega arith)

  -- the capped table has the capped sizes
  found-caps : (found : ℕ → Size) → ObeysCappedLines us found → (node : ℕ) → node < length (entries_of us)
      → found node ≡ cap_size (2 ^ 63) (sizes_by_rank node)
  found-caps found capped node below =
      capped-table (by_value us) ranks falls leads (size_line us) (size_line-local us) (2 ^ 63)
      (size_line-caps (2 ^ 63) us) sizes_by_rank found exact-obeys
      (λ k within. capped k (let long = length-by_value us in omega arith)) node
      (let long = length-by_value us in omega arith)

  -- where no size is too great, the capped table is the table
  pub found-is_table : (found : ℕ → Size) → ObeysCappedLines us found
      → NoneFailsBefore (fails_size us found) (length (entries_of us))
      → IsSizeTable us found
  found-is_table found capped pass =
      is-size_table found (λ node below.
      same-obeys (by_value us) ranks falls leads (size_line us) (size_line-local us) sizes_by_rank found
      exact-obeys
      (λ k within.
      let inside : k < length (entries_of us) = let long = length-by_value us in omega arith in
      let small = false_from_ne_true (is_too_great (found k)) (pass k inside SizeTooGreat) in
      uncapped (2 ^ 63) (found k) (sizes_by_rank k) (found-caps found capped k inside)
      (λ n is. below-limit (found k) n small is))
      node (let long = length-by_value us in omega arith))

  -- the first entry that breaks a rule by the capped table has the first failure
  pub first-is_first : OffsetsRise (entries_of us) → (found : ℕ → Size)
      → ObeysCappedLines us found → (node : ℕ) (rule : Rule)
      → IsFirstAt (entries_of us) (fails_size us found) node rule
      → IsFirstSizeFault us (plain_fault_at rule (entry_in us node).at)
  first-is_first rise found capped node rule first = record {
    table = sizes_by_rank;
    is_table = is-size_table sizes_by_rank exact-lines;
    first =
        first-of_entries (entries_of us) (fails_size us sizes_by_rank) rise node rule
        (first-same us sizes_by_rank found exact-lines (found-caps found capped) node rule first);
  }

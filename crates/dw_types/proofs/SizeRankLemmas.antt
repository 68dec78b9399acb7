-- Sizes of the types without steps, and then of the others by rank: the table after one entry more, and after the last.
use Rattle.std.proofs.Common.{rules, ◌≡◌, ◌≢◌, ℕ, ◌+◌, ◌<◌, ◌≤◌, Bool, true, false, ◌&&◌, ◌||◌, List, None, length, get_or, set, length-set, get_or-set_same, nat_eq, inl, inr, refl, sym, ◌∙◌, arith, ap}
use Rattle.std.proofs.lemmas.Bool.{cases_lt, cases_Bool, eq-eqb, eqb-true, false_from_ne_true, false≢true, or_parts}
use Rattle.dw_forms.specs.Codes.{DW_TAG_member, is_type_tag}
use Rattle.dw_entries.specs.Entries.{entries_of, DebugUnit}
use Rattle.dw_types.specs.Entries.{entry_in}
use Rattle.dw_types.specs.Graphs.{steps_of, step_at}
use Rattle.dw_types.specs.Orders.{Ranking, IsOrderOf}
use Rattle.dw_types.specs.SizeTables.{Size, size_at, OnlyTypesAreSized}
use Rattle.dw_types.specs.Steps.{by_value}
use Rattle.dw_types.specs.SizeFaults.{may_fail}
use Rattle.dw_types.specs.StepFlags.{TellSizeFlags, is_leaf}
use Rattle.dw_types.specs.StoredFlags.{flag_at, flag_count}
use Rattle.dw_types.specs.declared.flags.Flags.{Flags}
use Rattle.dw_types.specs.declared.flags.SizeFlags.{SizeFlags}
use Rattle.dw_types.specs.StoredSizes.{ObeysCappedLines, TellAsked}
use Rattle.dw_types.proofs.ListLemmas.{at_set}
use Rattle.dw_types.proofs.RoleLemmas.{untyped-kind}
use Rattle.dw_types.proofs.SizeLineLemmas.{capped_line, capped_line-local}
use Rattle.dw_types.proofs.StepLemmas.{by_value-at, length-by_value}

-- the line of an entry that is no type
pub untyped-line : (us : List DebugUnit) (table : ℕ → Size) (k : ℕ) → is_type_tag (entry_in us k).head.decl.tag ≡ false
    → capped_line us table k ≡ None
untyped-line us table k untyped = search (rules, untyped-kind)

-- an entry has the size that its line says, and its flag is set if a rule on sizes may fail there
abbrev pub IsMeasured : List DebugUnit → (ℕ → Size) → Flags → ℕ → Type 0
IsMeasured us table asked k =
    (table k ≡ capped_line us table k) × (flag_at asked k ≡ false → may_fail (entry_in us k) (table k) ≡ false)

-- the types without steps before an entry are measured, and the nodes before a rank that have steps; none of these as
-- long as there are others. The flags of members are set
pub record AreMeasured (us : List DebugUnit) (order : Ranking) (leaf rank : ℕ) (sizes : List Size) (asked : Flags)
    : Type 0 where
  pub long : length sizes ≡ length (entries_of us)
  pub typed : OnlyTypesAreSized us (size_at sizes)
  pub room : length (entries_of us) < flag_count asked
  pub members : (k : ℕ) → k < length (entries_of us) → flag_at asked k ≡ false
      → nat_eq (entry_in us k).head.decl.tag DW_TAG_member ≡ false
  pub leaves : (k : ℕ) → k < leaf → is_leaf us k ≡ true → IsMeasured us (size_at sizes) asked k
  pub from : order.leaves ≤ rank
  pub first : leaf < length (entries_of us) → rank ≡ order.leaves
  pub ranked : (k : ℕ) → order.leaves ≤ k → k < rank → IsMeasured us (size_at sizes) asked (get_or order.by_rank k 0)

-- no step of an entry goes to another one
abbrev LeadsElsewhere : List DebugUnit → ℕ → ℕ → Type 0
LeadsElsewhere us k node =
    (j : ℕ) → j < length (steps_of (by_value us) k) → step_at (by_value us) k j ≢ node

module _ (us : List DebugUnit) (sizes : List Size) (old new : Flags) (node : ℕ) (inside : node < length (entries_of us))
    (long : length sizes ≡ length (entries_of us)) where
  -- the table with one size more
  abbrev pub next_sizes : List Size
  next_sizes = set sizes node (capped_line us (size_at sizes) node)

  -- a rule may fail at the entry
  abbrev pub next_may : Bool
  next_may = may_fail (entry_in us node) (capped_line us (size_at sizes) node)

  node-in : node < length sizes
  node-in = search rules

  pub next-typed : OnlyTypesAreSized us (size_at sizes) → OnlyTypesAreSized us (size_at next_sizes)
  next-typed typed k untyped =
      elim (at_set sizes node k (capped_line us (size_at sizes) node) None node-in) [
        | inl here ↦ here.1 ∙ (ap (λ (n : ℕ). capped_line us (size_at sizes) n) (sym here.0)
            ∙ untyped-line us (size_at sizes) k untyped)
        | inr apart ↦ apart.1 ∙ typed k untyped
      ]

  -- a line that does not read the entry's size is as it was
  line-kept : (k : ℕ) → k < length (entries_of us) → LeadsElsewhere us k node
      → capped_line us (size_at next_sizes) k ≡ capped_line us (size_at sizes) k
  line-kept k within apart =
      capped_line-local us (size_at next_sizes) (size_at sizes) k (let all = length-by_value us in omega arith)
      (λ j in_steps. elim (at_set sizes node (step_at (by_value us) k j) (capped_line us (size_at sizes) node) None
      node-in) [
        | inl here ↦ absurd (apart j in_steps here.0)
        | inr other ↦ other.1
      ])

  module _ (set-is : (k : ℕ) → flag_at new k ≡ ((next_may && nat_eq k node) || flag_at old k)) where
    -- a flag that is not set was not
    pub unset-before : (k : ℕ) → flag_at new k ≡ false → flag_at old k ≡ false
    unset-before k unset =
        (or_parts (next_may && nat_eq k node) (flag_at old k) (sym (set-is k) ∙ unset)).1

    -- the entry is measured
    pub measured-here : LeadsElsewhere us node node → IsMeasured us (size_at next_sizes) new node
    measured-here apart =
        let size : size_at next_sizes node ≡ capped_line us (size_at sizes) node =
        search (rules, get_or-set_same, node-in) in (
          size ∙ sym (line-kept node inside apart),
          λ unset.
              let parts = or_parts (next_may && nat_eq node node) (flag_at old node) (sym (set-is node) ∙ unset) in
              let none : next_may ≡ false =
              false_from_ne_true next_may
              (λ is. false≢true (sym parts.0 ∙ rw (is, eq-eqb node node refl) refl)) in
              rw size none,
        )

    -- and so is each that was, if its line does not read the entry's size
    pub measured-still : LeadsElsewhere us node node → (k : ℕ) → k < length (entries_of us) → LeadsElsewhere us k node
        → IsMeasured us (size_at sizes) old k → IsMeasured us (size_at next_sizes) new k
    measured-still self k within apart h =
        elim (at_set sizes node k (capped_line us (size_at sizes) node) None node-in) [
          | inl here ↦ rw here.0 (measured-here self)
          | inr other ↦ (
            other.1 ∙ (h.0 ∙ sym (line-kept k within apart)),
            λ unset. rw other.1 (h.1 (unset-before k unset)),
          )
        ]

-- a type without steps has none that goes anywhere
leaf-apart : (us : List DebugUnit) (k node : ℕ) → k < length (entries_of us) → is_leaf us k ≡ true
    → LeadsElsewhere us k node
leaf-apart us k node within leaf j in_steps same =
    let none : length (steps_of (by_value us) k) ≡ 0 = search (rules, by_value-at, eqb-true) in absurd (omega arith)

module _ (us : List DebugUnit) (order : Ranking) (ordered : IsOrderOf (by_value us) order) where
  -- the node with a rank is an entry
  pub ranked-in : (place : ℕ) → place < length order.by_rank → get_or order.by_rank place 0 < length (entries_of us)
  ranked-in place below = search (rules, length-by_value)

  -- no step of a node with a rank up to another one goes to the node with that rank
  rank-apart : (k place : ℕ) → k ≤ place → place < length order.by_rank
      → LeadsElsewhere us (get_or order.by_rank k 0) (get_or order.by_rank place 0)
  rank-apart k place before below j in_steps same =
      let falls = ordered.falls (get_or order.by_rank k 0) j in_steps in
      let here = (ordered.ranked k (omega arith)).1 in
      let there = (ordered.ranked place below).1 in
      let goes : get_or order.ranks (step_at (by_value us) (get_or order.by_rank k 0) j) 0 ≡ place =
      ap (λ (n : ℕ). get_or order.ranks n 0) same ∙ there in
      absurd (omega arith)

-- before the first turn
pub measured-first : (us : List DebugUnit) (order : Ranking) (leaf : ℕ) (sizes : List Size) (flags : SizeFlags)
    → TellSizeFlags us flags → leaf ≤ length (entries_of us)
    → ((k : ℕ) → 0 ≤ k → k < leaf → flag_at flags.leaves k ≡ false) → length sizes ≡ length (entries_of us)
    → OnlyTypesAreSized us (size_at sizes) → (asked : Flags) → asked.words.items ≡ flags.members.words.items
    → AreMeasured us order leaf order.leaves sizes asked
measured-first us order leaf sizes flags told below none long typed asked same = record {
  long = long;
  typed = typed;
  room = rw same told.member_room;
  members = λ k within unset. sym (told.members k within) ∙ rw same at unset;
  leaves = λ k before is.
      absurd (false≢true (sym (none k (omega arith) before) ∙ (told.leaves k (omega arith) ∙ is)));
  from = omega arith;
  first = λ _. refl;
  ranked = λ k low high. absurd (omega arith);
}

module _ (us : List DebugUnit) (order : Ranking) (leaf rank : ℕ) (sizes : List Size) (old new : Flags)
    (h : AreMeasured us order leaf rank sizes old) (room : length (entries_of us) < flag_count new) where
  -- after a type without steps: the next one is there, and those between are none
  pub leaf-more : (inside : leaf < length (entries_of us)) → ((k : ℕ) → flag_at new k
      ≡ ((next_may us sizes old new leaf inside h.long && nat_eq k leaf) || flag_at old k))
      → is_leaf us leaf ≡ true → (next : ℕ) → ((k : ℕ) → leaf + 1 ≤ k → k < next → is_leaf us k ≡ false)
      → AreMeasured us order next rank (next_sizes us sizes old new leaf inside h.long) new
  leaf-more inside set-is leaf-is next between =
      let self = leaf-apart us leaf leaf inside leaf-is in
      record {
        long = length-set sizes leaf (capped_line us (size_at sizes) leaf) ∙ h.long;
        typed = next-typed us sizes old new leaf inside h.long h.typed;
        room = room;
        members =
            λ k within unset. h.members k within (unset-before us sizes old new leaf inside h.long set-is k unset);
        leaves = λ k before is. elim (cases_lt k leaf) [
          | inl earlier ↦
              measured-still us sizes old new leaf inside h.long set-is self k (omega arith)
              (leaf-apart us k leaf (omega arith) is) (h.leaves k earlier is)
          | inr late ↦ elim (cases_lt leaf k) [
            | inl after ↦ absurd (false≢true (sym (between k (omega arith) before) ∙ is))
            | inr here ↦
                let same : k ≡ leaf = omega arith in
                rw same (measured-here us sizes old new leaf inside h.long set-is self)
          ]
        ];
        from = h.from;
        first = λ _. h.first inside;
        ranked = λ k low high. absurd (let e = h.first inside in omega arith);
      }

  -- after a node by rank
  pub rank-more : (ordered : IsOrderOf (by_value us) order) → (below : rank < length order.by_rank)
      → length (entries_of us) ≤ leaf
      → leaf ≤ length (entries_of us) → (inside : get_or order.by_rank rank 0 < length (entries_of us))
      → ((k : ℕ) → flag_at new k
      ≡ ((next_may us sizes old new (get_or order.by_rank rank 0) inside h.long
      && nat_eq k (get_or order.by_rank rank 0)) || flag_at old k))
      → AreMeasured us order leaf (rank + 1)
      (next_sizes us sizes old new (get_or order.by_rank rank 0) inside h.long) new
  rank-more ordered below over within inside set-is =
      let node = get_or order.by_rank rank 0 in
      let self = rank-apart us order ordered rank rank (omega arith) below in
      let still = measured-still us sizes old new node inside h.long set-is self in
      record {
        long = length-set sizes node (capped_line us (size_at sizes) node) ∙ h.long;
        typed = next-typed us sizes old new node inside h.long h.typed;
        room = room;
        members =
            λ k within unset. h.members k within (unset-before us sizes old new node inside h.long set-is k unset);
        leaves = λ k before is.
            still k (omega arith) (leaf-apart us k node (omega arith) is) (h.leaves k before is);
        from = let low = h.from in omega arith;
        first = λ low. absurd (omega arith);
        ranked = λ k low high. elim (cases_lt k rank) [
          | inl earlier ↦
              still (get_or order.by_rank k 0) (ranked-in us order ordered k (omega arith))
              (rank-apart us order ordered k rank (omega arith) below) (h.ranked k low earlier)
          | inr late ↦
              let same : k ≡ rank = omega arith in
              rw same (measured-here us sizes old new node inside h.long set-is self)
        ];
      }

-- after the last turn each type is measured
module _ (us : List DebugUnit) (order : Ranking) (leaf rank : ℕ) (sizes : List Size) (asked : Flags)
    (h : AreMeasured us order leaf rank sizes asked) (ordered : IsOrderOf (by_value us) order)
    (leaves : length (entries_of us) ≤ leaf) (ranks : length order.by_rank ≤ rank) where
  type-measured : (node : ℕ) → node < length (entries_of us) → is_type_tag (entry_in us node).head.decl.tag ≡ true
      → IsMeasured us (size_at sizes) asked node
  type-measured node below typed =
      let place = get_or order.ranks node 0 in
      let listed = ordered.listed node (let long = length-by_value us in omega arith) in
      elim (cases_lt place order.leaves) [
        | inl early ↦
            let none : length (steps_of (by_value us) node) ≡ 0 = rw listed.1 at (ordered.leaves.1 place early) in
            h.leaves node (omega arith) (search (rules, by_value-at, eq-eqb))
        | inr late ↦ rw listed.1 at (h.ranked place (omega arith) (let p = listed.0 in omega arith))
      ]

  pub all-obey : ObeysCappedLines us (size_at sizes)
  all-obey node below = elim (cases_Bool (is_type_tag (entry_in us node).head.decl.tag)) [
    | inl typed ↦ (type-measured node below typed).0
    | inr untyped ↦ h.typed node untyped ∙ sym (untyped-line us (size_at sizes) node untyped)
  ]

  pub all-told : TellAsked us (size_at sizes) asked
  all-told = record {
    room = h.room;
    told = λ node below unset. elim (cases_Bool (is_type_tag (entry_in us node).head.decl.tag)) [
      | inl typed ↦ (type-measured node below typed).1 unset
      | inr untyped ↦ rw untyped (h.members node below unset)
    ];
  }

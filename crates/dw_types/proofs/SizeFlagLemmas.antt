-- Flags that tell what is true of each entry before a node, and are not set from it on.
use Rattle.std.proofs.Common.{rules, ◌≡◌, ℕ, [], ◌+◌, ◌<◌, ◌≤◌, Bool, true, false, refl, ◌||◌, ◌&&◌, List, below_more, length, nat_eq, nat_lt, arith, sym, ◌∙◌}
use Rattle.dw_entries.specs.Entries.{entries_of}
use Rattle.dw_entries.specs.Units.{DebugUnit}
use Rattle.dw_forms.specs.Codes.{DW_TAG_member, is_type_tag}
use Rattle.dw_types.specs.Entries.{entry_in}
use Rattle.dw_types.specs.declared.flags.Flags.{Flags}
use Rattle.dw_types.specs.declared.flags.SizeFlags.{SizeFlags}
use Rattle.dw_types.specs.StepFlags.{is_leaf, TellSizeFlags, TellSteps}
use Rattle.dw_types.specs.Steps.{by_value, steps_by_value}
use Rattle.dw_types.specs.StoredFlags.{flag_at, flag_count}
use Rattle.std.proofs.Math.Bool.{and-false}
use Rattle.std.proofs.lemmas.Bool.{lt-ltb, ne_eqb}
use Rattle.dw_types.proofs.FlagLemmas.{told-more, unset-more}
use Rattle.dw_types.proofs.StepLemmas.{by_value-at, length-by_value}

-- there are flags for so many entries, those before a node tell what is true of it, and the others are not set
pub record TellsUpTo (count : ℕ) (is : ℕ → Bool) (flags : Flags) (node : ℕ) : Type 0 where
  pub room : count < flag_count flags
  pub told : (k : ℕ) → k < node → flag_at flags k ≡ is k
  pub unset : (k : ℕ) → node ≤ k → flag_at flags k ≡ false

-- the entry has steps by value
abbrev pub has_steps : List DebugUnit → ℕ → Bool
has_steps us node = nat_lt 0 (length (steps_by_value us node))

-- the entry is a member
abbrev pub is_member : List DebugUnit → ℕ → Bool
is_member us node = nat_eq (entry_in us node).head.decl.tag DW_TAG_member

-- no flag is set
pub tells-none : (count : ℕ) (is : ℕ → Bool) (flags : Flags) → count < flag_count flags
    → ((k : ℕ) → flag_at flags k ≡ false) → TellsUpTo count is flags 0
tells-none count is flags room none = record {
  room = room;
  told = λ k below. absurd (omega arith);
  unset = λ k after. none k;
}

-- the flag of one more entry is set if that is true of it
pub tells-more : (count : ℕ) (is : ℕ → Bool) (old new : Flags) (node : ℕ) (b : Bool) → TellsUpTo count is old node
    → b ≡ is node → flag_count new ≡ flag_count old
    → ((k : ℕ) → flag_at new k ≡ ((b && nat_eq k node) || flag_at old k)) → TellsUpTo count is new (node + 1)
tells-more count is old new node b h same room set =
    let set = rw same at set in
    record {
      room = omega arith;
      told = told-more (flag_at old) is (flag_at new) node h.told h.unset set;
      unset = unset-more (flag_at old) is (flag_at new) node h.told h.unset set;
    }

-- it is not true of one more entry
pub tells-next : (count : ℕ) (is : ℕ → Bool) (flags : Flags) (node : ℕ) → TellsUpTo count is flags node
    → is node ≡ false → TellsUpTo count is flags (node + 1)
tells-next count is flags node h none = record {
  room = h.room;
  told = below_more (λ k. flag_at flags k ≡ is k) node h.told (h.unset node (omega arith) ∙ sym none);
  unset = λ k after. h.unset k (omega arith);
}

module _ (us : List DebugUnit) (node : ℕ) where
  pub typed-leaf : is_type_tag (entry_in us node).head.decl.tag ≡ true → steps_by_value us node ≡ []
      → is_leaf us node ≡ true
  typed-leaf typed none = rw (typed, none) refl

  pub untyped-leaf : is_type_tag (entry_in us node).head.decl.tag ≡ false → is_leaf us node ≡ false
  untyped-leaf untyped = rw untyped refl

  pub no-steps : steps_by_value us node ≡ [] → has_steps us node ≡ false
  no-steps none = rw none refl

  -- an entry with steps
  module _ (some : 0 < length (steps_by_value us node)) where
    pub some-steps : has_steps us node ≡ true
    some-steps = lt-ltb 0 (length (steps_by_value us node)) some

    pub stepped-leaf : is_leaf us node ≡ false
    stepped-leaf = search (rules, ne_eqb, and-false)

-- flags that tell it of each entry
module _ (us : List DebugUnit) (node : ℕ) (over : length (entries_of us) ≤ node) where
  pub tell-steps : (flags : Flags) → TellsUpTo (length (entries_of us)) (has_steps us) flags node
      → TellSteps (by_value us) flags
  tell-steps flags h =
      let long = length-by_value us in
      let room = h.room in
      record {
        room = omega arith;
        told = λ k below. rw (by_value-at us k (omega arith)) (h.told k (omega arith));
      }

  pub tell-sizes : (flags : SizeFlags) → TellsUpTo (length (entries_of us)) (is_leaf us) flags.leaves node
      → TellsUpTo (length (entries_of us)) (is_member us) flags.members node → TellSizeFlags us flags
  tell-sizes flags leaves members = record {
    leaf_room = leaves.room;
    member_room = members.room;
    leaves = λ k below. leaves.told k (omega arith);
    members = λ k below. members.told k (omega arith);
  }

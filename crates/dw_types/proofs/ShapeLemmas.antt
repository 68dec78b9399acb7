-- What a rule on shapes looks at.
use Rattle.std.proofs.Common.{rules, ◌≡◌, ℕ, Bool, true, false, List, Option, Some, None, nat_eq, refl, sym}
use Rattle.std.specs.Prelude.{◌&&◌, is_some}
use Rattle.dw_entries.specs.Units.{DebugUnit}
use Rattle.dw_entries.specs.Failures.{Rule}
use Rattle.dw_forms.specs.declared.rule.Rule.TheVariants.{MissingType, BadCount}
use Rattle.dw_forms.specs.Codes.{DW_TAG_member, is_type_tag}
use Rattle.dw_types.specs.Entries.{entry_in}
use Rattle.dw_types.specs.Kinds.{is_subrange}
use Rattle.dw_types.specs.Shapes.{fails_shape, has_bad_count, misses_type, passes_at, sight, violates_shape, Sight}
use Rattle.dw_types.specs.TypeFailures.{IsLeastAt}

-- a test that each entry passes says whether there is one
pub passes_any : (us : List DebugUnit) (o : Option ℕ) → passes_at us (λ to. true) o ≡ is_some o
passes_any us None = refl
passes_any us (Some node) = refl

-- the last of three tests is not passed
pub none_alone : (a b alone : Bool) → alone ≡ false → false ≡ (a && (b && alone))
none_alone false b alone is = refl
none_alone true false alone is = refl
none_alone true true alone is = sym is

violates-none : (s : Sight) (rule : Rule) → misses_type s ≡ false → has_bad_count s ≡ false
    → violates_shape s rule ≡ false
violates-none s MissingType misses bad = misses
violates-none s BadCount misses bad = bad
violates-none s rule misses bad = refl

-- an entry that is neither a type nor a member violates no rule on shapes
module _ (us : List DebugUnit) (node : ℕ) (untyped : is_type_tag (entry_in us node).head.decl.tag ≡ false) where
  other-misses : nat_eq (entry_in us node).head.decl.tag DW_TAG_member ≡ false → misses_type (sight us node) ≡ false
  other-misses other = search rules

  other-range : is_subrange (entry_in us node) ≡ false
  other-range = search rules

  other-counts : has_bad_count (sight us node) ≡ false
  other-counts = rw other-range refl

  pub other-passes : nat_eq (entry_in us node).head.decl.tag DW_TAG_member ≡ false
      → IsLeastAt (fails_shape us) node None
  other-passes other rule fails =
      let passes = violates-none (sight us node) rule (other-misses other) other-counts in absurd (cc)

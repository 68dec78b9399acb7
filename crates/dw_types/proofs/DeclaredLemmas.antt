-- Entries whose declarations tell whether they are declarations.
use Rattle.std.proofs.Common.{rules, ◌≡◌, ℕ, Bool, true, false, List, [], ◌∷◌, Some, refl, map}
use Rattle.std.specs.Prelude.{◌==◌, ◌<◌, length}
use Rattle.std.proofs.lemmas.Option.{slice_get-get_or}
use Rattle.dw_forms.specs.declared.form.Form.{Form}
use Rattle.dw_forms.specs.declared.abbrev.AttributeSpec.{AttributeSpec}
use Rattle.dw_forms.specs.Codes.{DW_AT_declaration}
use Rattle.dw_forms.specs.declared.form.Form.TheVariants as form
use Rattle.dw_forms.specs.KnownValues.{known_flag, flag_in}
use Rattle.dw_entries.specs.declared.entries.Entries.{Entries}
use Rattle.dw_entries.specs.ByNumber.{no_entry, entry_of, unit_of}
use Rattle.dw_entries.specs.EntryRules.{value_of}
use Rattle.dw_entries.specs.Grammar.{Context, Attribute, AreAttributes}
use Rattle.dw_entries.specs.Lookups.{value_in}
use Rattle.dw_entries.specs.Units.{context_of}
use Rattle.dw_entries.specs.Views.{all_entries, units_of}
use Rattle.dw_entries.proofs.HeadLaws.{head_fits}
use Rattle.dw_links.proofs.LeadSteps.{declared_entry}
use Rattle.dw_links.specs.References.{is_declared, is_true}

-- no form says that a flag is false
never : (f : Form) → known_flag f ≡ Some false → ⊥
never form.FlagPresent says = absurd cc
never _ says = absurd cc

not_there : (x : Context) (specs : List AttributeSpec) (bs : List Attribute) → AreAttributes x specs bs
    → flag_in DW_AT_declaration specs ≡ Some false → is_true (value_in (map value_of bs) DW_AT_declaration) ≡ false
not_there x [] [] are known = refl
not_there x [] (b ∷ bs) are known = absurd are
not_there x (s ∷ specs) [] are known = absurd are
not_there x (s ∷ specs) (b ∷ bs) are known =
    by_code (not_there x specs bs are.1) (s.attribute == DW_AT_declaration) refl
  where
    by_code : (flag_in DW_AT_declaration specs ≡ Some false
        → is_true (value_in (map value_of bs) DW_AT_declaration) ≡ false) → (t : Bool)
        → (s.attribute == DW_AT_declaration) ≡ t
        → is_true (value_in (map value_of (b ∷ bs)) DW_AT_declaration) ≡ false
    by_code others true e = absurd (never s.form (rw e at known))
    by_code others false e = search rules

-- an entry is a declaration, or not, where its own declaration says so
pub told-declared : (entries : Entries) (t : ℕ) → t < length (all_entries entries) → (declared : Bool)
    → flag_in DW_AT_declaration (entry_of (all_entries entries) t).head.decl.attributes ≡ Some declared
    → is_declared (entry_of (all_entries entries) t) ≡ declared
told-declared entries t below true known = declared_entry entries t below known
told-declared entries t below false known =
    let e = entry_of (all_entries entries) t in
    let stands = head_fits _ _ (units_of entries) t e entries.scanned.1.spells
    (slice_get-get_or (all_entries entries) t no_entry below) in
    not_there (context_of (unit_of (units_of entries) e.unit)) e.head.decl.attributes e.head.attributes
    stands.is.attributes known

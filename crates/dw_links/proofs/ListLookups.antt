-- No rule fails at an entry whose declaration has nothing that the rules are asked of.
use Rattle.std.proofs.Common.{rules, ◌≡◌, ℕ, zero, suc, ◌+◌, ◌<◌, List, [], ◌∷◌, length, Some, refl, sym, ap, ◌∙◌, arith, subst, map, eq-or-lt_of_le, slice_get, All, Contains}
use Rattle.std.proofs.lemmas.List.Elements.{All-weaker}
use Rattle.std.proofs.lemmas.Option.{slice_get_within, slice_get-get_or, get_or_from_slice_get}
use Rattle.dw_entries.specs.Grammar.{Context, Attribute, IsAttribute, AreAttributes, Datum, AttributeSpec}
use Rattle.dw_entries.specs.Units.{DebugUnit, context_of, Spells}
use Rattle.dw_entries.specs.Entries.{Entry, entries_of}
use Rattle.dw_entries.specs.ByNumber.{unit_of}
use Rattle.dw_entries.specs.EntryRules.{value_of, AtEntries}
use Rattle.dw_entries.proofs.Firsts.{same_some, none_of_entries, HasNone}
use Rattle.dw_entries.proofs.HeadLaws.{head_fits}
use Rattle.dw_links.specs.RulesOfAttributes.{Rules, AtHead, NeverFailsAt, entry_head}

-- what is at a place of a list
pub there : {X : Type 0} (xs : List X) (k : ℕ) → k < length xs → (x : X) × (slice_get xs k ≡ Some x)
there [] k below = absurd (omega arith)
there (x ∷ xs) zero below = (x, refl)
there (x ∷ xs) (suc k) below = there xs k (omega arith)

-- one item more of a list
pub one_more : {X : Type 0} (xs : List X) (P : X → Type 0) (k : ℕ) (x : X) → slice_get xs k ≡ Some x
    → ((j : ℕ) (y : X) → j < k → slice_get xs j ≡ Some y → P y) → P x
    → (j : ℕ) (y : X) → j < k + 1 → slice_get xs j ≡ Some y → P y
one_more {X} xs P k x is passed here j y below is_y = search (rules, eq-or-lt_of_le, same_some)

-- an attribute of an entry, with what declares it
pub record IsDeclared (x : Context) (specs : List AttributeSpec) (k : ℕ) (item : ℕ × Datum) : Type 0 where
  pub spec : AttributeSpec
  pub is_spec : slice_get specs k ≡ Some spec
  pub attribute : Attribute
  pub is_attribute : IsAttribute x spec attribute
  pub item_is : value_of attribute ≡ item

pub declared_so : (x : Context) (specs : List AttributeSpec) (bs : List Attribute) (k : ℕ) (item : ℕ × Datum)
    → AreAttributes x specs bs → slice_get (map value_of bs) k ≡ Some item → IsDeclared x specs k item
declared_so x [] [] k item are is = absurd cc
declared_so x [] (a ∷ bs) k item are is = absurd are
declared_so x (s ∷ specs) [] k item are is = absurd are
declared_so x (s ∷ specs) (a ∷ bs) zero item are is = search (rules, same_some)
declared_so x (s ∷ specs) (a ∷ bs) (suc k) item are is =
    let more = declared_so x specs bs k item are.1 is in
    record {
      spec = more.spec;
      is_spec = more.is_spec;
      attribute = more.attribute;
      is_attribute = more.is_attribute;
      item_is = more.item_is;
    }

skipped : («abbrev» info : List ℕ) (us : List DebugUnit) (id : ℕ) (e : Entry) (Fails : Rules)
    → Spells «abbrev» us info → slice_get (entries_of us) id ≡ Some e → All (NeverFailsAt Fails) e.head.decl.attributes
    → HasNone (AtHead Fails e)
skipped «abbrev» info us id e Fails spells is pass f fails =
    let stands = head_fits «abbrev» info us id e spells is in
    let x : Context = context_of (unit_of us e.unit) in
    let specs = e.head.decl.attributes in
    let here = declared_so x specs e.head.attributes fails.position (f.attribute, fails.value) stands.is.attributes
    fails.has in
    let P : (ℕ × Datum) → Type 0 = λ q. Fails (entry_head e) q.0 q.1 f.rule in
    let never = subst (NeverFailsAt Fails) (get_or_from_slice_get specs fails.position here.spec here.spec here.is_spec)
    (pass fails.position here.spec (slice_get_within specs fails.position here.spec here.is_spec)) in
    never x here.attribute here.is_attribute (entry_head e) f.rule (subst P (sym here.item_is) fails.fails)

-- where no rule fails at a value of one of these attributes, none fails at an entry whose declarations have no others
pub none_concerned : («abbrev» info : List ℕ) (us : List DebugUnit) (kept : List AttributeSpec) (Fails : Rules)
    → Spells «abbrev» us info
    → ((id : ℕ) (e : Entry) → slice_get (entries_of us) id ≡ Some e
    → All (λ (spec : AttributeSpec). Contains kept spec) e.head.decl.attributes)
    → ((k : ℕ) (spec : AttributeSpec) → slice_get kept k ≡ Some spec → NeverFailsAt Fails spec)
    → HasNone (AtEntries (entries_of us) (AtHead Fails))
none_concerned «abbrev» info us kept Fails spells declared pass =
    none_of_entries (entries_of us) (AtHead Fails)
    (λ id e below is. skipped «abbrev» info us id e Fails spells is
    (All-weaker (λ spec. Contains kept spec) (NeverFailsAt Fails)
    (λ spec (k, within, same). pass k spec (slice_get-get_or kept k spec within ∙ ap Some same))
    e.head.decl.attributes (declared id e is)))

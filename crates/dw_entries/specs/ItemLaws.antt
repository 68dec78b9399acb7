-- Laws: what the formats of items spell is what the grammar says, so no item begins another.
use Rattle.std.proofs.Common.{◌≡◌, ℕ, ◌<◌, Bool, true, false, cond, List, [], ◌∷◌, ◌++◌, Option, Some, None, eqb, refl}
use Rattle.std.proofs.Common.{sym, ap, subst, ◌∙◌, append-nil, arith, length, length-append, eqb-true, flat_map}
use Rattle.dw_forms.specs.declared.rule.Rule.TheVariants.{WrongUnitTag, FormVersion}
use Rattle.dw_forms.specs.Formats.{nothing, failing, choose, mapped}
use Rattle.dw_forms.specs.Leb.{Uleb}
use Rattle.dw_entries.specs.Grammar.{Declaration, Context, declared_in, declared, Attribute, IsAttribute, AreAttributes}
use Rattle.dw_entries.specs.Grammar.{AttributeSpec, attribute_bytes, Head, head_bytes, IsHead, is_allowed}
use Rattle.dw_entries.specs.ItemFormats.{failing_by, value_in, valued, attribute, attributes, code, as_head, head_by}
use Rattle.dw_entries.specs.ItemFormats.{item}
use Rattle.dw_entries.specs.Items.{Item, entry, null, item_bytes, IsItem}
use Rattle.dw_forms.specs.WithBytes.{one_value}

-- ---- attributes

attribute_from : (x : Context) (spec : AttributeSpec) (text : List ℕ) (a : Attribute) → (attribute x spec).Spells text a
    → (text ≡ a.bytes) × IsAttribute x spec a
unfolding attribute
attribute_from x spec text a s = go (is_allowed x.version spec.form) refl s
  where
    go : (b : Bool) → is_allowed x.version spec.form ≡ b
        → (choose b (valued x spec) (failing (failing_by FormVersion spec.attribute))).Spells text a
        → (text ≡ a.bytes) × IsAttribute x spec a
    go true allowed (v, (value, is), same) =
        let here : (value_in x spec).Spells v.1 v.0 = subst (λ (b : List ℕ). (value_in x spec).Spells b v.0) is value in
        rw same (is, record { code = refl; allowed = allowed; value = here })
    go false refused s = absurd s

attribute_to : (x : Context) (spec : AttributeSpec) (a : Attribute) → IsAttribute x spec a
    → (attribute x spec).Spells a.bytes a
unfolding attribute
attribute_to x spec a p = rw p.allowed ((a.value, a.bytes), (p.value, refl), (rw p.code refl))

attributes_from : (x : Context) (specs : List AttributeSpec) (text : List ℕ) (values : List Attribute)
    → (attributes x specs).Spells text values → (text ≡ flat_map attribute_bytes values) × AreAttributes x specs values
unfolding attributes
attributes_from x [] text values s = rw s.1 (s.0, tt)
attributes_from x (spec ∷ specs) text values s =
    let first = attribute_from x spec s.first s.value s.is_first in
    let more = attributes_from x specs s.second s.is_second.0 s.is_second.1 in
    rw s.is_second.2 (s.parts ∙ rw (first.0, more.0) refl, (first.1, more.1))

pub attributes_to : (x : Context) (specs : List AttributeSpec) (values : List Attribute) → AreAttributes x specs values
    → (attributes x specs).Spells (flat_map attribute_bytes values) values
unfolding attributes
attributes_to x [] [] p = (refl, refl)
attributes_to x [] (a ∷ values) p = absurd p
attributes_to x (spec ∷ specs) [] p = absurd p
attributes_to x (spec ∷ specs) (a ∷ values) p = record {
  value = a;
  first = a.bytes;
  second = flat_map attribute_bytes values;
  parts = refl;
  is_first = attribute_to x spec a p.0;
  is_second = (values, attributes_to x specs values p.1, refl);
}

-- ---- entries

-- a code has a byte at least
pub code_has_byte : (bytes : List ℕ) (n : ℕ) → Uleb bytes n → 0 < length bytes
code_has_byte [] n h = absurd h.ended
code_has_byte (a ∷ bs) n h = omega arith

pub declared_code : (ds : List Declaration) (n : ℕ) (d : Declaration) → declared_in ds n ≡ Some d → d.code ≡ n
unfolding declared_in
declared_code [] n d e = absurd (let none : ◌≡◌ {A = Option Declaration} None (Some d) = e in cc)
declared_code (c ∷ ds) n d e = go (eqb c.code n) refl (λ more. declared_code ds n d more) e
  where
    go : (b : Bool) → eqb c.code n ≡ b → (declared_in ds n ≡ Some d → d.code ≡ n)
        → cond b (Some c) (declared_in ds n) ≡ Some d → d.code ≡ n
    go true hit more e = let same : c ≡ d = cc in ap (λ (x : Declaration). x.code) (sym same) ∙ eqb-true _ _ hit
    go false miss more e = more e

module _ (x : Context) (fits : ℕ → Bool) where
  -- an entry after its code
  pub head_from : (n : ℕ) (o : Option Declaration) (spelling text : List ℕ) (h : Head) → Uleb spelling n
      → eqb n 0 ≡ false → declared x n ≡ o → (head_by x fits o spelling).Spells text h
      → (spelling ++ text ≡ head_bytes h) × IsHead x h × (fits h.decl.tag ≡ true)
  unfolding head_by
  head_from n None spelling text h number other known s = absurd s
  head_from n (Some d) spelling text h number other known s = go (fits d.tag) refl s
    where
      go : (b : Bool) → fits d.tag ≡ b → (choose b (mapped (as_head d spelling) (attributes x d.attributes))
          (failing (failing_by WrongUnitTag 0))).Spells text h
          → (spelling ++ text ≡ head_bytes h) × IsHead x h × (fits h.decl.tag ≡ true)
      go true fit (values, spelled, is) =
          let are = attributes_from x d.attributes text values spelled in
          let same : d.code ≡ n = declared_code x.table n d known in
          let head : IsHead x (as_head d spelling values) = record {
            code = rw same number;
            not_null = rw same other;
            decl = ap (declared x) same ∙ known;
            attributes = are.1;
          } in
          rw is (ap (λ (b : List ℕ). spelling ++ b) are.0, head, fit)
      go false wrong s = absurd s

  pub head_to : (h : Head) → IsHead x h → fits h.decl.tag ≡ true
      → (head_by x fits (declared x h.decl.code) h.code).Spells (flat_map attribute_bytes h.attributes) h
  unfolding head_by
  head_to h p fit = rw (p.decl, fit) (h.attributes, attributes_to x h.decl.attributes h.attributes p.attributes, refl)

-- ---- items

pub item_from : (x : Context) (text : List ℕ) (i : Item) → (item x).Spells text i → (text ≡ item_bytes i) × IsItem x i
unfolding item code
item_from x text i s = go (eqb s.value.0 0) refl s.is_second
  where
    number : Uleb s.value.1 s.value.0
    number = subst (λ (b : List ℕ). Uleb b s.value.0) s.is_first.1 s.is_first.0

    whole : text ≡ s.value.1 ++ s.second
    whole = s.parts ∙ ap (λ (b : List ℕ). b ++ s.second) s.is_first.1

    go : (b : Bool) → eqb s.value.0 0 ≡ b → (choose b (nothing (null s.value.1))
        (mapped entry (head_by x (λ tag. true) (declared x s.value.0) s.value.1))).Spells s.second i
        → (text ≡ item_bytes i) × IsItem x i
    go true zero (none, is) =
        let z : s.value.0 ≡ 0 = eqb-true _ _ zero in
        rw is (whole ∙ ap (λ (b : List ℕ). s.value.1 ++ b) none ∙ append-nil s.value.1, subst (Uleb s.value.1) z number)
    go false other (h, spelled, is) =
        let head = head_from x (λ tag. true) s.value.0 (declared x s.value.0) s.value.1 s.second h number other refl
        spelled in
        rw is (whole ∙ head.0, head.1)

pub item_to : (x : Context) (i : Item) → IsItem x i → (item x).Spells (item_bytes i) i
unfolding item code
item_to x (null z) p = record {
  value = (0, z);
  first = z;
  second = [];
  parts = sym (append-nil z);
  is_first = (p, refl);
  is_second = (refl, refl);
}
item_to x (entry h) p = record {
  value = (h.decl.code, h.code);
  first = h.code;
  second = flat_map attribute_bytes h.attributes;
  parts = refl;
  is_first = (p.code, refl);
  is_second = rw p.not_null (h, head_to x (λ tag. true) h p refl, refl);
}

-- no item begins another
pub item_unique : (x : Context) (i j : Item) (a b : List ℕ) → IsItem x i → IsItem x j
    → item_bytes i ++ a ≡ item_bytes j ++ b → (i ≡ j) × (a ≡ b)
item_unique x i j a b p q =
    one_value (item x) (item_bytes i) (item_bytes j) a b i j (item_to x i p) (item_to x j q)

-- an item has a byte at least
pub item_some : (x : Context) (i : Item) → IsItem x i → 0 < length (item_bytes i)
item_some x (null z) h = code_has_byte z 0 h
item_some x (entry h) p =
    omega (arith, code_has_byte h.code h.decl.code p.code, length-append h.code (flat_map attribute_bytes h.attributes))

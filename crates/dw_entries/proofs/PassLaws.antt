-- Values that are passed together, and the value after them.
use Rattle.std.proofs.Common.{rules, ◌≡◌, ◌≢◌, ℕ, zero, suc, ◌+◌, ◌-◌, Bool, true, false, List, [], ◌∷◌, ◌++◌, length, take, drop, map, Option, Some, None, Result, Ok, Err, refl, sym, ap, ◌∙◌, append_assoc, arith, ◌&&◌, slice_index_or, option_map, flat_map, slice_range}
use Rattle.std.proofs.lemmas.Bool.{ne_eqb, eq-eqb}
use Rattle.dw_forms.specs.declared.form.Form.TheVariants.{Flag}
use Rattle.dw_forms.specs.declared.value.Value.{Value}
use Rattle.dw_forms.specs.Value.{view}
use Rattle.dw_forms.specs.Sizes.{rest_at, are_allowed}
use Rattle.dw_forms.specs.KnownValues.{values_end}
use Rattle.dw_forms.specs.FirstPlaces.{StandsFirst, value_behind, ReadsFirst, AnswersFirst}
use Rattle.dw_entries.specs.ItemFormats.{bytes_after, attributes}
use Rattle.dw_forms.specs.WithBytes.{bind_ok}
use Rattle.dw_entries.specs.Lookups.{value_in}
use Rattle.dw_entries.proofs.ReadingSteps.{attributes_turn, attribute_ends, value_again, ValueFault}
use Rattle.dw_entries.proofs.ValueSteps.{value_of_none, value_of, Left, left_unique, Datum, AttributeSpec, Context, Attribute, IsAttribute, AreAttributes, attribute_bytes, is_allowed}
use Rattle.dw_entries.proofs.LeftLaws.{declares_none}

-- ---- values that are read, one by one or together

both_true : (a b : Bool) → (a && b) ≡ true → (a ≡ true) × (b ≡ true)
both_true true b e = (refl, e)
both_true false b e = absurd cc

-- where all forms are allowed, values that are read one after the other are the attributes at the front
pub all_after : (t : Context) (specs : List AttributeSpec) (bytes rest : List ℕ) → are_allowed t.version specs ≡ true
    → values_end t.version t.address_size specs bytes ≡ Ok rest
    → bytes_after ((attributes t specs).read bytes) ≡ Ok rest
unfolding values_end attributes
all_after t [] bytes rest allowed e = search (rules)
all_after t (s ∷ specs) bytes rest allowed e =
    let both = both_true (is_allowed t.version s.form) (are_allowed t.version specs) allowed in
    let next = bind_ok (rest_at t.version s.form t.address_size bytes)
    (λ b. values_end t.version t.address_size specs b) rest e in
    let first = attribute_ends t s t.version bytes (Ok next.0) refl (sym both.0) next.1 in
    sym (attributes_turn t s (s ∷ specs) specs bytes _ (Ok next.0) refl first refl)
    ∙ all_after t specs next.0 rest both.1 next.2

-- ---- values that are left

-- the values of the first of these attributes are read one after the other, and the others are left
pub record Passed (x : Context) (front back : List AttributeSpec) (bs : List Attribute) (rest bytes : List ℕ) : Type 0
  where
    pub behind : List ℕ
    pub others : List Attribute
    pub ends : values_end x.version x.address_size front bytes ≡ Ok behind
    pub before : List ℕ
    pub parts : bytes ≡ before ++ behind
    pub are : AreAttributes x back others
    pub spelled : behind ≡ flat_map attribute_bytes others ++ rest
    pub values : map value_of others ≡ drop (length front) (map value_of bs)

pub one_end : (x : Context) (s : AttributeSpec) (b : Attribute) (rest : List ℕ) → IsAttribute x s b
    → rest_at x.version s.form x.address_size (b.bytes ++ rest) ≡ Ok rest
unfolding rest_at
one_end x s b rest p = rw (value_again x s b rest p) refl

pub passed : (x : Context) (front back : List AttributeSpec) (bs : List Attribute) (rest bytes : List ℕ)
    → AreAttributes x (front ++ back) bs → bytes ≡ flat_map attribute_bytes bs ++ rest
    → Passed x front back bs rest bytes
unfolding values_end
passed x [] back bs rest bytes are spelled =
    record {
      behind = bytes;
      others = bs;
      ends = refl;
      before = [];
      parts = refl;
      are = are;
      spelled = spelled;
      values = refl;
    }
passed x (s ∷ front) back [] rest bytes are spelled = absurd are
passed x (s ∷ front) back (b ∷ bs) rest bytes are spelled =
    let here : bytes ≡ b.bytes ++ (flat_map attribute_bytes bs ++ rest) = search (rules, append_assoc) in
    let p = passed x front back bs rest (flat_map attribute_bytes bs ++ rest) are.1 refl in
    let first : rest_at x.version s.form x.address_size bytes ≡ Ok (flat_map attribute_bytes bs ++ rest) =
    search (rules, one_end) in
    record {
      behind = p.behind;
      others = p.others;
      ends = search rules;
      before = b.bytes ++ p.before;
      parts = search (rules, append_assoc);
      are = p.are;
      spelled = p.spelled;
      values = p.values;
    }

module _ (x : Context) (specs front back : List AttributeSpec) (parts : specs ≡ front ++ back) (bytes : List ℕ)
    (l : Left x specs bytes) where
  pub those : Passed x front back l.0.0 l.0.1 bytes
  those = search (rules, passed)

  pub never_cut : (f : ValueFault) → values_end x.version x.address_size front bytes ≡ Err f → ⊥
  never_cut f e = let ok = those.ends in cc

  behind_is : (rest : List ℕ) → values_end x.version x.address_size front bytes ≡ Ok rest → those.behind ≡ rest
  behind_is rest e = search (rules, those)

  -- their bytes are the first
  pub passed_parts : (rest : List ℕ) → values_end x.version x.address_size front bytes ≡ Ok rest
      → bytes ≡ those.before ++ rest
  passed_parts rest e = search (rules, those, behind_is)

  -- what is left after them
  pub left_on : (rest : List ℕ) → values_end x.version x.address_size front bytes ≡ Ok rest
      → (m : Left x back rest) × (map value_of m.0.0 ≡ drop (length front) (map value_of l.0.0))
  left_on rest e = (
    ((those.others, l.0.1), record { are = those.are; spelled = sym (behind_is rest e) ∙ those.spelled }),
    those.values,
  )

  pub left_rest : (k : ℕ) → k ≡ length front → (rest : List ℕ)
      → values_end x.version x.address_size front bytes ≡ Ok rest → (n : Left x back rest)
      → map value_of n.0.0 ≡ drop k (map value_of l.0.0)
  left_rest k k_is rest e n =
      let m = left_on rest e in let one = left_unique x back rest n m.0 in search rules

-- ---- the value of the first attribute with a code

-- the values before it are read one after the other, and it after them
pub record FirstValue (version size : ℕ) (specs : List AttributeSpec) (bytes : List ℕ) (values : List (ℕ × Datum))
    (code place : ℕ) : Type 0 where
  pub datum : Datum
  pub is_value : Some datum ≡ value_in values code
  pub reads : (d : AttributeSpec)
      → value_behind version size (slice_index_or specs place d).form (values_end version size (take place specs) bytes)
      ≡ Ok datum

pub first_value : (x : Context) (specs : List AttributeSpec) (bs : List Attribute) (rest bytes : List ℕ)
    (code place : ℕ) → AreAttributes x specs bs → bytes ≡ flat_map attribute_bytes bs ++ rest
    → StandsFirst specs code place
    → FirstValue x.version x.address_size specs bytes (map value_of bs) code place
unfolding values_end
first_value x [] bs rest bytes code place are spelled first = absurd (omega arith)
first_value x (s ∷ specs) [] rest bytes code place are spelled first = absurd are
first_value x (s ∷ specs) (b ∷ bs) rest bytes code zero are spelled first =
    let here : bytes ≡ b.bytes ++ (flat_map attribute_bytes bs ++ rest) = search (rules, append_assoc) in
    let same : s.attribute ≡ code = first.has s in
    let is : b.code ≡ code = search rules in
    record {
      datum = b.value;
      is_value = rw (eq-eqb b.code code is) refl;
      reads = λ d. rw (here, value_again x s b (flat_map attribute_bytes bs ++ rest) are.0) refl;
    }
first_value x (s ∷ specs) (b ∷ bs) rest bytes code (suc place) are spelled first =
    let here : bytes ≡ b.bytes ++ (flat_map attribute_bytes bs ++ rest) = search (rules, append_assoc) in
    let other : s.attribute ≢ code = first.none_before 0 s (omega arith) in
    let apart : b.code ≡ code → ⊥ = search rules in
    let behind : StandsFirst specs code place =
    record {
      within = omega arith;
      has = first.has;
      none_before = λ k d less. first.none_before (suc k) d (omega arith);
    } in
    let more = first_value x specs bs rest (flat_map attribute_bytes bs ++ rest) code place are.1 refl behind in
    record {
      datum = more.datum;
      is_value = search (rules, ne_eqb);
      reads = λ d. rw (here, one_end x s b (flat_map attribute_bytes bs ++ rest) are.0) (more.reads d);
    }

front_range : (specs : List AttributeSpec) (k : ℕ) → slice_range specs 0 k ≡ take k specs
front_range specs k = search (rules)

pub value_of_left : (x : Context) (specs : List AttributeSpec) (bytes : List ℕ) (l : Left x specs bytes) (attribute : ℕ)
    (answer : Result Datum ValueFault) → ReadsFirst x.version x.address_size specs attribute bytes answer
    → (v : Datum) × (answer ≡ Ok v) × (Some v ≡ value_in (map value_of l.0.0) attribute)
value_of_left x specs bytes l attribute answer r =
    let f = first_value x specs l.0.0 l.0.1 bytes attribute r.place l.1.are l.1.spelled r.first in
    let any : AttributeSpec = record { attribute = 0; form = Flag } in
    let front = ap (λ (ss : List AttributeSpec). value_behind x.version x.address_size
    (slice_index_or specs r.place any).form (values_end x.version x.address_size ss bytes))
    (front_range specs r.place) in
    (f.datum, r.reads any ∙ front ∙ f.reads any, f.is_value)

-- what reading the first attribute with a code answers is its value, if there is one
pub answers_left : (x : Context) (specs : List AttributeSpec) (bytes : List ℕ) (l : Left x specs bytes) (attribute : ℕ)
    (found : Option Value) → AnswersFirst x.version x.address_size specs attribute bytes (Ok found)
    → option_map view found ≡ value_in (map value_of l.0.0) attribute
answers_left x specs bytes l attribute None none = search (rules, value_of_none, declares_none)
answers_left x specs bytes l attribute (Some v) reads =
    let (w, is, here) = value_of_left x specs bytes l attribute (Ok (view v)) reads in search rules

pub never_answers : (x : Context) (specs : List AttributeSpec) (bytes : List ℕ) (l : Left x specs bytes) (attribute : ℕ)
    (f : ValueFault) → ReadsFirst x.version x.address_size specs attribute bytes (Err f) → ⊥
never_answers x specs bytes l attribute f reads =
    let (w, is, here) = value_of_left x specs bytes l attribute (Err f) reads in
    cc

-- An entry that is not wrong has a term that can be read back from its text, or a path from it is too long.
use Rattle.std.proofs.Common.{◌≡◌, ℕ, zero, suc, ℤ, Bool, true, false, List, [], ◌∷◌, Option, Some, None, refl, sym, ◌∙◌, ap, subst, arith}
use Rattle.std.specs.Prelude.{option_map, option_and_then, All, Any, Contains, IsSome, ◌==◌, ◌||◌, is_some, not, if◌then◌else◌}
use Rattle.std.specs.List.{list_any}
use Rattle.std.proofs.lemmas.List.Splits.{length-slice_split}
use Rattle.std.proofs.lemmas.Option.{same_Some}
use Rattle.dw_cprint.specs.Declarations.{words_of, parts_of, is_miscounted, is_misplaced, nested_arrays, constants_of, has_more, parameters_by, members_by, body_by, term_by, term_at, declaration_by}
use Rattle.dw_cprint.specs.Legible.{is_identifier, IsIdentifier, IsName, AreConstants, IsQualifiable, IsPresent, IsLegible, IsLegibleBody, IsSignature, AreParameters, AreMembers, IsLegibleDeclaration}
use Rattle.dw_cprint.specs.Shapes.{AggregateKeyword, Parameter, Typed, More, Name, TypeAt, MemberOf, details_of, EnumeratorOf, BodyOf, aggregate, enumeration, ShapeOf, base, typedef, Qualifier, Restrict, qualified, pointer, array, function, tagged, body, foreign, other, SubjectOf, typedef_subject, variable_subject, defined_subject, declared_subject, other_subject}
use Rattle.dw_cprint.specs.Steps.{parameter_types, member_types, types_declared, types_reached, entries_among, steps_reached, root, further, IsReached, HasPath, HasPathFrom}
use Rattle.dw_cprint.specs.Terms.{TypeWord, Constant, Valued, Term, Named, Basic, Tagged, Unnamed, Aggregate, Constants, Qualified, Pointer, Function, Unprototyped, Prototyped, Parameters, Parameter as ParameterTerm, Member as MemberTerm, CDeclaration, Typedef, Variable, Defined}
use Rattle.dw_cprint.specs.Wrong.{TypeKind, shape_of, StandsUnder, nothing, itself, IsVoidLike, is_bracketed, is_wrong_row, kind_at, kind_in, lacks_identifier, lacks_member_name, lacks_value, lacks_name, lacks_base_name, HasBadName, is_foreign, is_wrong, is_wrong_enumeration, IsUnspeakable, wrong, row, void_object, has_bad_name, has_own_bad_name, unspeakable}
use Rattle.dw_cprint.specs.Refusals.{other_kind, own_name, own_shape, name_reached, foreign_reached, shape_reached, HoldsNoneBelow, NotPrintable, BadName, Foreign, Unspeakable}
use Rattle.dw_cprint.specs.declared.shape.TypeKind.TheVariants as kind
use Rattle.dw_cprint.proofs.KindLemmas.{all-types, first-of, others-of}
use Rattle.dw_cprint.proofs.NameLemmas.{words-length}
use Rattle.dw_cprint.proofs.OptionLemmas.{not_refuted, or_left, or_right}

-- ---- a value that is right, or a reason for which there is none

abbrev pub Reads : {X : Type 0} → (X → Type 0) → Type 0 → Option X → Type 0
Reads P D None = D
Reads P D (Some x) = P x

reads_some : {X : Type 0} (P : X → Type 0) (D : Type 0) (o : Option X) → Reads P D o → (D → ⊥) → IsSome o
reads_some P D None r none = absurd (none r)
reads_some P D (Some x) r none = refl

reads_at : {X : Type 0} (P : X → Type 0) (D : Type 0) (o : Option X) → Reads P D o → (x : X) → o ≡ Some x → P x
reads_at P D None r x e = absurd (cc)
reads_at P D (Some y) r x e = subst P (same_Some y x e) r

reads_wider : {X : Type 0} (P : X → Type 0) (D E : Type 0) (o : Option X) → (D → E) → Reads P D o → Reads P E o
reads_wider P D E None f r = f r
reads_wider P D E (Some x) f r = r

module _ (D : Type 0) where
  reads_map : {X Y : Type 0} (P : X → Type 0) (Q : Y → Type 0) (f : X → Y) (o : Option X) → Reads P D o
      → ((x : X) → P x → Q (f x)) → Reads Q D (option_map f o)
  reads_map P Q f None r on = r
  reads_map P Q f (Some x) r on = on x r

  reads_both : {X Y Z : Type 0} (P : X → Type 0) (Q : Y → Type 0) (R : Z → Type 0) (f : X → Y → Z) (o : Option X)
      (p : Option Y) → Reads P D o → Reads Q D p → ((x : X) (y : Y) → P x → Q y → R (f x y))
      → Reads R D (option_and_then (λ x. option_map (f x) p) o)
  reads_both P Q R f None p r s on = r
  reads_both P Q R f (Some x) p r s on = reads_map Q R (f x) p s (λ y. on x y r)

  reads_unless : {X : Type 0} (P : X → Type 0) (b : Bool) (o : Option X) → (b ≡ true → ⊥)
      → (b ≡ false → Reads P D o) → Reads P D (if b then None else o)
  reads_unless P true o bad r = absurd (bad refl)
  reads_unless P false o bad r = r refl

any_here : {X : Type 0} (P : X → Type 0) (x : X) (xs : List X) → P x → Any P (x ∷ xs)
any_here P x xs p = (0, x, omega arith, refl, p)

-- ---- one entry

-- nothing is wrong with an entry by the second, third and fourth refusal
record IsFine (shapes : ℕ → ShapeOf) (s : ShapeOf) : Type 0 where
  named : HasBadName shapes s → ⊥
  ours : is_foreign s ≡ true → ⊥
  speakable : IsUnspeakable shapes s → ⊥

-- the term of a type can be read back: no entry's is void, and it is an array or a function only if the shape is one
record IsGood (s : Option ShapeOf) (t : Term) : Type 0 where
  legible : IsLegible t
  present : (s ≡ None → ⊥) → IsPresent t
  qualifiable : (is_bracketed (kind_in s) ≡ true → ⊥) → IsQualifiable t

good : (s : Option ShapeOf) (t : Term) → IsLegible t → IsPresent t → IsQualifiable t → IsGood s t
good s t legible present qualifiable =
    record { legible = legible; present = λ _. present; qualifiable = λ _. qualifiable }

bracketed : (s : Option ShapeOf) (t : Term) → IsLegible t → IsPresent t → is_bracketed (kind_in s) ≡ true → IsGood s t
bracketed s t legible present is =
    record { legible = legible; present = λ _. present; qualifiable = λ plain. absurd (plain is) }

arrays_legible : (counts : List (Option ℕ)) (t : Term) → IsLegible t → IsLegible (nested_arrays counts t)
arrays_legible [] t h = h
arrays_legible (c ∷ cs) t h = arrays_legible cs t h

member_legible : (k : TypeKind) (bits : Option ℕ) (name : Name) → (lacks_member_name k bits name ≡ true → ⊥)
    → IsName name
member_legible k bits None h = tt
member_legible k bits (Some n) h = not_refuted (is_identifier n) h

-- no row of qualifiers is over an array or a function
bracketed_row : (q : Qualifier) (k : TypeKind) → is_bracketed k ≡ true → is_wrong_row q k ≡ true
bracketed_row Restrict (kind.Array unknown) h = refl
bracketed_row Restrict kind.Function h = refl
bracketed_row Restrict _ h = absurd (cc)
bracketed_row _ k h = h

-- one without a number
unvalued : (es : List EnumeratorOf) → list_any lacks_value es ≡ true → is_wrong_enumeration es ≡ true
unvalued [] w = refl
unvalued (e ∷ es) w = w

module _ (shapes : ℕ → ShapeOf) (term : TypeAt → Option Term) (D : Type 0) where
  abbrev Good : TypeAt → Type 0
  Good at = Reads (IsGood (shape_of shapes at)) D (term at)

  base_reads : (name : Name) → (lacks_base_name name ≡ true → ⊥)
      → Reads (IsGood (Some (base name))) D (term_by term (base name))
  base_reads None fine = absurd (fine refl)
  base_reads (Some n) fine = by_name (is_identifier n) refl (words_of 4 (parts_of n)) refl (not_refuted _ fine)
    where
      by_name : (b : Bool) → is_identifier n ≡ b → (o : Option (List TypeWord)) → words_of 4 (parts_of n) ≡ o
          → (b || is_some o) ≡ true
          → Reads (IsGood (Some (base (Some n)))) D (if b then Some (Named n) else option_map Basic o)
      by_name true i o w h = good _ (Named n) i tt tt
      by_name false i None w h = absurd (cc)
      by_name false i (Some ws) w h =
          let long = words-length 4 (parts_of n) ws w in
          good _ (Basic ws) (omega (arith, length-slice_split (λ (b : ℕ). b == 32) n)) tt tt

  parameters_read : (ps : List Parameter) → All Good (parameter_types ps)
      → Reads AreParameters D (parameters_by term ps)
  parameters_read [] h = tt
  parameters_read (Typed at ∷ ps) h =
      reads_both D _ AreParameters AreParameters ParameterTerm (term at) (parameters_by term ps)
      (first-of Good at (parameter_types ps) h) (parameters_read ps (others-of Good at (parameter_types ps) h))
      (λ t us g are. (g.legible, are))
  parameters_read (More ∷ ps) h = parameters_read ps h

  signature_reads : (ps : List Parameter) → (Any (IsVoidLike shapes) (parameter_types ps) → ⊥)
      → is_misplaced ps ≡ false → All Good (parameter_types ps)
      → Reads (λ us. IsSignature (Prototyped us (has_more ps))) D (parameters_by term ps)
  signature_reads [] voids placed h = refl
  signature_reads (More ∷ ps) voids placed h = absurd (cc)
  signature_reads (Typed None ∷ ps) voids placed h =
      absurd (voids (any_here (IsVoidLike shapes) None (parameter_types ps) nothing))
  signature_reads (Typed (Some n) ∷ ps) voids placed h =
      reads_both D _ AreParameters _ ParameterTerm (term (Some n)) (parameters_by term ps)
      (first-of Good (Some n) (parameter_types ps) h)
      (parameters_read ps (others-of Good (Some n) (parameter_types ps) h))
      (λ t us g are. (g.present (λ e. absurd (cc)), g.legible, are))

  members_read : (odd : Bool) (word : AggregateKeyword) (ms : List MemberOf)
      → (has_bad_name (kind_at shapes) (body (aggregate word odd ms)) ≡ true → ⊥) → All Good (member_types ms)
      → Reads AreMembers D (members_by term ms)
  members_read odd word [] named h = tt
  members_read odd word (m ∷ ms) named h =
      reads_both D _ AreMembers AreMembers (λ (t : Term). MemberTerm (details_of m) t) (term m.type_at)
      (members_by term ms) (first-of Good m.type_at (member_types ms) h)
      (members_read odd word ms (λ w. named (or_right _ _ w)) (others-of Good m.type_at (member_types ms) h))
      (λ t us g are. (
        member_legible (kind_at shapes m.type_at) m.bits m.name (λ w. named (or_left _ _ w)),
        g.legible,
        are,
      ))

  constants_read : (es : List EnumeratorOf) → (list_any lacks_identifier es ≡ true → ⊥)
      → (list_any lacks_value es ≡ true → ⊥) → Reads AreConstants D (constants_of es)
  constants_read [] named valued = tt
  constants_read (e ∷ es) named valued =
      one e.name e.value (λ w. named (or_left _ _ w)) (λ w. valued (or_left _ _ w))
      (constants_read es (λ w. named (or_right _ _ w)) (λ w. valued (or_right _ _ w)))
    where
      one : (name : Name) (value : Option ℤ) → (lacks_name name ≡ true → ⊥) → (not (is_some value) ≡ true → ⊥)
          → Reads AreConstants D (constants_of es)
          → Reads AreConstants D (option_and_then (λ (n : List ℕ). option_and_then
          (λ (v : ℤ). option_map (λ (cs : List Constant). Valued n v ∷ cs) (constants_of es)) value) name)
      one None value there number rest = absurd (there refl)
      one (Some n) None there number rest = absurd (number refl)
      one (Some n) (Some v) there number rest =
          reads_map D AreConstants AreConstants (λ (cs : List Constant). Valued n v ∷ cs) (constants_of es) rest
          (λ cs are. (not_refuted (is_identifier n) there, are))

  body_reads : (b : BodyOf) → (has_bad_name (kind_at shapes) (body b) ≡ true → ⊥)
      → (is_wrong (kind_at shapes) (body b) ≡ true → ⊥) → All Good (types_reached (body b))
      → Reads IsLegibleBody D (body_by term b)
  body_reads (aggregate word odd ms) named right h =
      reads_map D AreMembers IsLegibleBody (Aggregate word) (members_by term ms) (members_read odd word ms named h)
      (λ us are. are)
  body_reads (enumeration odd es) named right h =
      reads_map D AreConstants IsLegibleBody Constants (constants_of es)
      (constants_read es named (λ w. right (unvalued es w))) (λ cs are. are)

  -- what a qualifier is over is no array and no function
  plain_under : (q : Qualifier) (at : TypeAt) → (IsUnspeakable shapes (qualified q at) → ⊥)
      → is_bracketed (kind_at shapes at) ≡ true → ⊥
  plain_under q None fine w = absurd (cc)
  plain_under q (Some n) fine w = fine (row (Some n) alone (bracketed_row q (kind_at shapes (Some n)) w))
    where
      alone : StandsUnder shapes (Some n) (Some n)
      alone =
          itself (λ r to same. (let clash : true
          ≡ false = sym w ∙ ap (λ (s : ShapeOf). is_bracketed (kind_in (Some s))) same in absurd (cc)))

  shape_reads : (s : ShapeOf) → IsFine shapes s → All Good (types_reached s)
      → Reads (IsGood (Some s)) D (term_by term s)
  shape_reads (base name) fine h = base_reads name fine.named
  shape_reads (typedef (Some n)) fine h = good _ (Named n) (not_refuted (is_identifier n) fine.named) tt tt
  shape_reads (qualified q at) fine h =
      reads_map D _ (IsGood _) (Qualified q) (term at) (first-of Good at [] h)
      (λ t g. good _ (Qualified q t) (g.qualifiable (plain_under q at fine.speakable), g.legible) tt tt)
  shape_reads (pointer at) fine h =
      reads_map D _ (IsGood _) Pointer (term at) (first-of Good at [] h) (λ t g. good _ (Pointer t) g.legible tt tt)
  shape_reads (array [] strange at) fine h = absurd (fine.speakable (wrong (or_right strange _ refl)))
  shape_reads (array (c ∷ cs) strange at) fine h =
      reads_unless D _ (is_miscounted (c ∷ cs)) _
      (λ w. fine.speakable (wrong (or_right strange _ (or_left (is_miscounted (c ∷ cs)) _ w))))
      (λ placed. reads_map D _ (IsGood _) (nested_arrays (c ∷ cs)) (term at) (first-of Good at [] h)
      (λ t g. bracketed _ (nested_arrays (c ∷ cs) t) (arrays_legible (c ∷ cs) t g.legible) tt refl))
  shape_reads (function at None) fine h =
      reads_map D _ (IsGood _) (λ (t : Term). Function t Unprototyped) (term at) (first-of Good at [] h)
      (λ t g. bracketed _ (Function t Unprototyped) (g.legible, tt) tt refl)
  shape_reads (function at (Some ps)) fine h =
      reads_unless D _ (is_misplaced ps) _ (λ w. fine.speakable (wrong (or_right _ _ w)))
      (λ placed. reads_both D _ _ (IsGood _) (λ (t : Term) (us : Parameters). Function t (Prototyped us (has_more ps)))
      (term at) (parameters_by term ps) (first-of Good at (parameter_types ps) h)
      (signature_reads ps (λ w. fine.speakable (void_object w)) placed (others-of Good at (parameter_types ps) h))
      (λ t us g are. bracketed _ (Function t (Prototyped us (has_more ps))) (g.legible, are) tt refl))
  shape_reads (tagged word n) fine h = good _ (Tagged word n) (not_refuted (is_identifier n) fine.named) tt tt
  shape_reads (body b) fine h =
      reads_map D IsLegibleBody (IsGood _) Unnamed (body_by term b)
      (body_reads b fine.named (λ w. fine.speakable (wrong w)) h) (λ u are. good _ (Unnamed u) are tt tt)
  shape_reads foreign fine h = absurd (fine.ours refl)
  shape_reads other fine h = absurd (fine.ours refl)
  shape_reads _ fine h = absurd (fine.named refl)

-- ---- those that are reached, and the declared one

module _ (shapes : ℕ → ShapeOf) where
  void_reads : (k : ℕ) (D : Type 0) (roots : List ℕ) → (HasPathFrom shapes roots k → D)
      → Reads (IsGood None) D (term_at k shapes None)
  void_reads zero D roots deeper = deeper tt
  void_reads (suc k) D roots deeper =
      record { legible = tt; present = λ entry. absurd (entry refl); qualifiable = λ _. tt }

  -- a path goes on from an entry to those that it leads to
  longer : (k n : ℕ) (roots : List ℕ) → Contains roots n → HasPathFrom shapes (steps_reached shapes n) k
      → HasPathFrom shapes roots (suc k)
  longer zero n roots c path = (n, n, c, refl)
  longer (suc k) n roots c (next, to, step, led) = (n, to, c, (next, step, led))

  entry_reads : (Fine : ℕ → Type 0) → ((n : ℕ) → Fine n → IsFine shapes (shapes n))
      → ((n to : ℕ) → Fine n → Contains (steps_reached shapes n) to → Fine to) → (k n : ℕ) → Fine n → (roots : List ℕ)
      → Contains roots n → Reads (IsGood (Some (shapes n))) (HasPathFrom shapes roots k) (term_at k shapes (Some n))
  entry_reads Fine fine on zero n here roots c = tt
  entry_reads Fine fine on (suc k) n here roots c =
      let types = types_reached (shapes n) in
      let D = HasPathFrom shapes roots (suc k) in
      shape_reads shapes (term_at k shapes) D (shapes n) (fine n here)
      (all-types (Good shapes (term_at k shapes) D) (void_reads k D (entries_among types) (longer k n roots c)) types
      (λ m leads. reads_wider _ _ D (term_at k shapes (Some m)) (longer k n roots c)
      (entry_reads Fine fine on k m (on n m here leads) (entries_among types) leads)))

-- where nothing is wrong, there is a declaration that can be read back, or a path is too long
subject_reads : (k : ℕ) (shapes : ℕ → ShapeOf) (subject : SubjectOf) → HoldsNoneBelow 5 shapes subject
    → Reads IsLegibleDeclaration (HasPath shapes subject k) (declaration_by (term_at k shapes) subject)
subject_reads k shapes subject none =
    by_subject subject none (all-types (Good shapes (term_at k shapes) D)
    (void_reads shapes k D (entries_among (types_declared subject)) (λ path. path)) (types_declared subject)
    (λ n leads. entry_reads shapes (IsReached shapes subject) fine (λ from to r c. further r c) k n (root leads)
    (entries_among (types_declared subject)) leads))
  where
    D : Type 0
    D = HasPath shapes subject k

    term : TypeAt → Option Term
    term = term_at k shapes

    fine : (n : ℕ) → IsReached shapes subject n → IsFine shapes (shapes n)
    fine n reached = record {
      named = λ w. none BadName (omega arith) (name_reached n reached w);
      ours = λ w. none Foreign (omega arith) (foreign_reached n reached w);
      speakable = λ w. none Unspeakable (omega arith) (shape_reached n reached w);
    }

    identifier : (s : SubjectOf) (n : List ℕ) → HoldsNoneBelow 5 shapes s
        → (lacks_name (Some n) ≡ true → has_own_bad_name (kind_at shapes) s ≡ true) → IsIdentifier n
    identifier s n none bad = not_refuted (is_identifier n) (λ w. none BadName (omega arith) (own_name (bad w)))

    by_subject : (s : SubjectOf) → HoldsNoneBelow 5 shapes s → All (Good shapes term D) (types_declared s)
        → Reads IsLegibleDeclaration D (declaration_by term s)
    by_subject (typedef_subject (Some n) at) none h =
        reads_map D _ IsLegibleDeclaration (Typedef n) (term at) (first-of (Good shapes term D) at [] h)
        (λ t g. (identifier (typedef_subject (Some n) at) n none (λ w. w), g.legible))
    by_subject (variable_subject (Some n) at) none h =
        reads_map D _ IsLegibleDeclaration (Variable n) (term at) (first-of (Good shapes term D) at [] h)
        (λ t g. (identifier (variable_subject (Some n) at) n none (λ w. w), g.legible))
    by_subject (defined_subject (Some n) b) none h =
        reads_map D IsLegibleBody IsLegibleDeclaration (Defined n) (body_by term b)
        (body_reads shapes term D b (λ w. none BadName (omega arith) (own_name (or_right _ _ w)))
        (λ w. none Unspeakable (omega arith) (own_shape (unspeakable (wrong w)))) h)
        (λ u are. (identifier (defined_subject (Some n) b) n none (λ w. or_left _ _ w), are))
    by_subject (declared_subject word (Some n)) none h =
        identifier (declared_subject word (Some n)) n none (λ w. w)
    by_subject other_subject none h = absurd (none NotPrintable (omega arith) (other_kind refl))
    by_subject _ none h = absurd (none BadName (omega arith) (own_name refl))

pub subject_some : (k : ℕ) (shapes : ℕ → ShapeOf) (subject : SubjectOf) → HoldsNoneBelow 5 shapes subject
    → (HasPath shapes subject k → ⊥) → IsSome (declaration_by (term_at k shapes) subject)
subject_some k shapes subject none short =
    reads_some IsLegibleDeclaration (HasPath shapes subject k) _ (subject_reads k shapes subject none) short

pub subject_legible : (k : ℕ) (shapes : ℕ → ShapeOf) (subject : SubjectOf) → HoldsNoneBelow 5 shapes subject
    → (d : CDeclaration) → declaration_by (term_at k shapes) subject ≡ Some d → IsLegibleDeclaration d
subject_legible k shapes subject none =
    reads_at IsLegibleDeclaration (HasPath shapes subject k) _ (subject_reads k shapes subject none)

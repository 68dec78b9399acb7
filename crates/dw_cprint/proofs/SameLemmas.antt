-- Shapes that are the same at each entry that is reached: the same declaration, and the same refusals.
use Rattle.std.proofs.Common.{◌≡◌, ℕ, zero, suc, List, [], ◌∷◌, Option, Some, None, refl, sym, ◌∙◌, ap, subst, arith}
use Rattle.std.specs.Prelude.{option_map, All, Any, if◌then◌else◌}
use Rattle.std.proofs.lemmas.List.Elements.{All-weaker}
use Rattle.dw_types.specs.Paths.{Leads}
use Rattle.dw_cprint.specs.Declarations.{nested_arrays, is_miscounted, parameters_by, members_by, body_by, term_by, declaration_by, term_at, declaration_of}
use Rattle.dw_cprint.specs.Refusals.{PrintFault, Holds, other_kind, cycle, own_name, name_reached, own_child, foreign_reached, own_shape, shape_reached, deep, long, number_of, HoldsNoneBelow, Refuses, HasOneReading, IsPrinted}
use Rattle.dw_cprint.specs.Shapes.{Parameter, Typed, More, TypeAt, MemberOf, BodyOf, aggregate, enumeration, ShapeOf, base, typedef, qualified, pointer, array, function, body, SubjectOf, typedef_subject, variable_subject, defined_subject, declared_subject, other_subject}
use Rattle.dw_cprint.specs.Steps.{AreSameFor, parameter_types, member_types, types_reached, types_declared, first_steps, root, further, IsReached, StepsTo}
use Rattle.dw_cprint.specs.Terms.{Term, Qualified, Pointer, Function, Unprototyped, Unnamed, Aggregate, Typedef, Variable, Defined}
use Rattle.dw_cprint.specs.Wrong.{shape_of, StandsUnder, nothing, itself, below, HasBadName, is_wrong_row, kind_at, kind_in, object_types, IsVoidLike, IsUnspeakable, wrong, void_object, row, IsOwnUnspeakable, void_variable, unspeakable, declared_enumeration}
use Rattle.dw_cprint.specs.Kept.{kept}
use Rattle.dw_cprint.specs.Summaries.{AreAmong, IsSurveyOf}
use Rattle.dw_cprint.specs.declared.survey.Survey.{Survey}
use Rattle.dw_cprint.proofs.KindLemmas.{all-types, first-of, others-of, names-alike, own-names-alike, wrong-alike}
use Rattle.dw_cprint.proofs.FaultLemmas.{objects-of}
use Rattle.dw_cprint.proofs.LegibleLemmas.{subject_legible}
use Rattle.dw_cprint.proofs.FoundLemmas.{reached-wider}
use Rattle.dw_cprint.proofs.TextLaws.{one_text}

module _ (shapes others : ℕ → ShapeOf) (subject : SubjectOf) (same : AreSameFor shapes others subject) where
  abbrev Good : ℕ → Type 0
  Good = IsReached shapes subject

  abbrev GoodAt : TypeAt → Type 0
  GoodAt None = Unit {0}
  GoodAt (Some entry) = Good entry

  -- the types of an entry that is reached, and of the declared one, are reached
  goods-of : (entry : ℕ) → Good entry → All GoodAt (types_reached (shapes entry))
  goods-of entry good = all-types GoodAt tt (types_reached (shapes entry)) (λ n c. further good c)

  goods-declared : All GoodAt (types_declared subject)
  goods-declared = all-types GoodAt tt (types_declared subject) (λ n c. root c)

  leads-same : (k from to : ℕ) → Good from → Leads (StepsTo shapes) k from to → Leads (StepsTo others) k from to
  leads-same zero from to good e = e
  leads-same (suc k) from to good (next, c, path) =
      (next, rw (same from good) at c, leads-same k next to (further good c) path)

  shape-same : (at : TypeAt) → GoodAt at → shape_of shapes at ≡ shape_of others at
  shape-same None good = refl
  shape-same (Some entry) good = ap Some (same entry good)

  stands-same : {at under : TypeAt} → StandsUnder shapes at under → GoodAt at
      → StandsUnder others at under × GoodAt under
  stands-same nothing good = (nothing, tt)
  stands-same (itself {entry} free) good = (itself (λ q at e. free q at (same entry good ∙ e)), good)
  stands-same (below {entry} q at e rest) good =
      let P : ShapeOf → Type 0 = λ shape. All GoodAt (types_reached shape) in
      let inner = stands-same rest (first-of GoodAt at [] (subst P e (goods-of entry good))) in
      (below q at (sym (same entry good) ∙ e) inner.0, inner.1)

  any-types : (P Q : TypeAt → Type 0) (ats : List TypeAt) → All GoodAt ats → ((at : TypeAt) → GoodAt at → P at → Q at)
      → Any P ats → Any Q ats
  any-types P Q ats goods f (k, at, w, e, p) = (k, at, w, e, f at (subst GoodAt e (goods k at w)) p)

  -- ---- what is wrong

  kinds-same : (ats : List TypeAt) → All GoodAt ats → All (λ at. kind_at shapes at ≡ kind_at others at) ats
  kinds-same ats goods =
      All-weaker GoodAt (λ at. kind_at shapes at ≡ kind_at others at) (λ at good. ap kind_in (shape-same at good)) ats
      goods

  bad-same : (shape : ShapeOf) → All GoodAt (types_reached shape) → HasBadName shapes shape → HasBadName others shape
  bad-same shape goods h =
      sym (names-alike (kind_at shapes) (kind_at others) shape (kinds-same (types_reached shape) goods)) ∙ h

  void-same : (at : TypeAt) → GoodAt at → IsVoidLike shapes at → IsVoidLike others at
  void-same at good h = (stands-same h good).0

  unspeakable-same : (shape : ShapeOf) → All GoodAt (types_reached shape) → IsUnspeakable shapes shape
      → IsUnspeakable others shape
  unspeakable-same shape goods (wrong h) =
      wrong (sym (wrong-alike (kind_at shapes) (kind_at others) shape (kinds-same (types_reached shape) goods)) ∙ h)
  unspeakable-same shape goods (void_object some) =
      void_object (any-types (IsVoidLike shapes) (IsVoidLike others) (object_types shape)
      (objects-of GoodAt shape goods) void-same some)
  unspeakable-same (qualified q at) goods (row under stands h) =
      let u = stands-same stands (first-of GoodAt at [] goods) in
      row under u.0 (ap (λ (o : Option ShapeOf). is_wrong_row q (kind_in o)) (sym (shape-same under u.1)) ∙ h)

  -- ---- terms

  module _ (one two : TypeAt → Option Term) where
    abbrev SameTerm : TypeAt → Type 0
    SameTerm at = one at ≡ two at

    parameters-same : (ps : List Parameter) → All SameTerm (parameter_types ps)
        → parameters_by one ps ≡ parameters_by two ps
    parameters-same [] h = refl
    parameters-same (Typed at ∷ ps) h =
        let first = first-of SameTerm at (parameter_types ps) h in
        let rest = parameters-same ps (others-of SameTerm at (parameter_types ps) h) in
        rw (first, rest) refl
    parameters-same (More ∷ ps) h = parameters-same ps h

    members-same : (ms : List MemberOf) → All SameTerm (member_types ms) → members_by one ms ≡ members_by two ms
    members-same [] h = refl
    members-same (m ∷ ms) h =
        let first = first-of SameTerm m.type_at (member_types ms) h in
        let rest = members-same ms (others-of SameTerm m.type_at (member_types ms) h) in
        rw (first, rest) refl

    body-same : (b : BodyOf) → All SameTerm (types_reached (body b)) → body_by one b ≡ body_by two b
    body-same (aggregate word odd ms) h = ap (option_map (Aggregate word)) (members-same ms h)
    body-same (enumeration odd es) h = refl

    by-shape-same : (shape : ShapeOf) → All SameTerm (types_reached shape) → term_by one shape ≡ term_by two shape
    by-shape-same (base None) h = refl
    by-shape-same (typedef None) h = refl
    by-shape-same (qualified q at) h = ap (option_map (Qualified q)) (first-of SameTerm at [] h)
    by-shape-same (pointer at) h = ap (option_map Pointer) (first-of SameTerm at [] h)
    by-shape-same (array counts strange at) h =
        ap (λ (o : Option Term). if is_miscounted counts then None else option_map (nested_arrays counts) o)
        (first-of SameTerm at [] h)
    by-shape-same (function at None) h =
        ap (option_map (λ (t : Term). Function t Unprototyped)) (first-of SameTerm at [] h)
    by-shape-same (function at (Some ps)) h =
        let first = first-of SameTerm at (parameter_types ps) h in
        let rest = parameters-same ps (others-of SameTerm at (parameter_types ps) h) in
        rw (first, rest) refl
    by-shape-same (body b) h = ap (option_map Unnamed) (body-same b h)
    by-shape-same _ h = refl

    by-subject-same : (subject : SubjectOf) → All SameTerm (types_declared subject)
        → declaration_by one subject ≡ declaration_by two subject
    by-subject-same (typedef_subject (Some name) at) h = ap (option_map (Typedef name)) (first-of SameTerm at [] h)
    by-subject-same (variable_subject (Some name) at) h =
        ap (option_map (Variable name)) (first-of SameTerm at [] h)
    by-subject-same (defined_subject (Some name) b) h = ap (option_map (Defined name)) (body-same b h)
    by-subject-same _ h = refl

  void-term : (k : ℕ) → term_at k shapes None ≡ term_at k others None
  void-term zero = refl
  void-term (suc k) = refl

  entry-same : (k entry : ℕ) → Good entry → term_at k shapes (Some entry) ≡ term_at k others (Some entry)
  entry-same zero entry good = refl
  entry-same (suc k) entry good =
      by-shape-same (term_at k shapes) (term_at k others) (shapes entry)
      (all-types (λ at. term_at k shapes at ≡ term_at k others at) (void-term k) (types_reached (shapes entry))
      (λ n leads. entry-same k n (further good leads)))
      ∙ ap (term_by (term_at k others)) (same entry good)

  -- ---- the declared entry

  reached-there : {entry : ℕ} → Good entry → IsReached others subject entry
  reached-there (root c) = root c
  reached-there (further {from} r c) = further (reached-there r) (rw (same from r) at c)

  reached-back : {entry : ℕ} → IsReached others subject entry → Good entry
  reached-back (root c) = root c
  reached-back (further {from} r c) = further (reached-back r) (rw (← same from (reached-back r)) at c)

  same-back : AreSameFor others shapes subject
  same-back entry reached = sym (same entry (reached-back reached))

  pub declaration-same : declaration_of shapes subject ≡ declaration_of others subject
  unfolding declaration_of
  declaration-same =
      by-subject-same (term_at 65 shapes) (term_at 65 others) subject
      (all-types (λ at. term_at 65 shapes at ≡ term_at 65 others at) refl (types_declared subject)
      (λ n leads. entry-same 65 n (root leads)))

  own-unspeakable-same : (s : SubjectOf) → All GoodAt (types_declared s) → IsOwnUnspeakable shapes s
      → IsOwnUnspeakable others s
  own-unspeakable-same (typedef_subject name at) goods h = elim h [ ]
  own-unspeakable-same (variable_subject name at) goods (void_variable h) =
      void_variable (void-same at (first-of GoodAt at [] goods) h)
  own-unspeakable-same (defined_subject name b) goods (unspeakable h) =
      unspeakable (unspeakable-same (body b) goods h)
  own-unspeakable-same (declared_subject word name) goods declared_enumeration = declared_enumeration
  own-unspeakable-same other_subject goods h = elim h [ ]

  holds-same : (rule : PrintFault) → Holds shapes subject rule → Holds others subject rule
  holds-same rule (other_kind e) = other_kind e
  holds-same rule (cycle entry r (k, path)) = cycle entry (reached-there r) (k, leads-same (suc k) entry entry r path)
  holds-same rule (own_name h) =
      own_name (sym (own-names-alike (kind_at shapes) (kind_at others) subject
      (kinds-same (types_declared subject) goods-declared)) ∙ h)
  holds-same rule (name_reached entry r h) =
      name_reached entry (reached-there r)
      (subst (HasBadName others) (same entry r) (bad-same (shapes entry) (goods-of entry r) h))
  holds-same rule (own_child h) = own_child h
  holds-same rule (foreign_reached entry r h) =
      foreign_reached entry (reached-there r) (rw (same entry r) at h)
  holds-same rule (own_shape h) = own_shape (own-unspeakable-same subject goods-declared h)
  holds-same rule (shape_reached entry r h) =
      shape_reached entry (reached-there r)
      (subst (IsUnspeakable others) (same entry r) (unspeakable-same (shapes entry) (goods-of entry r) h))
  holds-same rule (deep (next, to, c, path)) = deep (next, to, c, leads-same 64 next to (root c) path)
  holds-same rule (long (d, e, more)) = long (d, sym declaration-same ∙ e, more)

-- ---- what the public calls say

module _ (shapes others : ℕ → ShapeOf) (subject : SubjectOf) (same : AreSameFor shapes others subject) where
  pub none-same : (number : ℕ) → HoldsNoneBelow number shapes subject → HoldsNoneBelow number others subject
  none-same number none rule less holds =
      none rule less (holds-same others shapes subject (same-back shapes others subject same) rule holds)

  pub refuses-same : (rule : PrintFault) → Refuses shapes subject rule → Refuses others subject rule
  refuses-same rule r =
      record { holds = holds-same shapes others subject same rule r.holds; least = none-same (number_of rule) r.least }

  pub one-same : HasOneReading shapes subject → HasOneReading others subject
  one-same one d another e legible text = one d another (declaration-same shapes others subject same ∙ e) legible text

-- ---- what holds by the shapes of an image holds by the shapes that a survey of it keeps

-- the kept shapes are the same for each declaration that was surveyed
pub kept-same : (shapes : ℕ → ShapeOf) (roots : List ℕ) (s : Survey) (subject : SubjectOf) → IsSurveyOf shapes roots s
    → AreAmong (first_steps subject) roots → AreSameFor shapes (kept s) subject
kept-same shapes roots s subject survey among entry r = sym (survey.keeps entry (reached-wider among r))

-- so its declaration is the same
pub declaration-kept : (shapes : ℕ → ShapeOf) (roots : List ℕ) (s : Survey) (subject : SubjectOf)
    → IsSurveyOf shapes roots s → AreAmong (first_steps subject) roots
    → declaration_of (kept s) subject ≡ declaration_of shapes subject
declaration-kept shapes roots s subject survey among =
    sym (declaration-same shapes (kept s) subject (kept-same shapes roots s subject survey among))

-- no other declaration has the text of one that is printed
pub printed-one : (shapes : ℕ → ShapeOf) (subject : SubjectOf) → IsPrinted shapes subject
    → HasOneReading shapes subject
unfolding declaration_of
printed-one shapes subject printed d another e legible text =
    one_text another d legible
    (subject_legible 65 shapes subject (λ rule below holds. printed rule (omega arith) holds) d e) text

-- Summaries: of void, of one entry by those of the types that it names, and of all nodes in turn.
use Rattle.dw_cprint.proofs.NumberLemmas.{marked-more}
use Rattle.std.proofs.Common.{◌≡◌, ℕ, zero, suc, ◌+◌, ◌<◌, false, List, [], ◌∷◌, Option, Some, None, refl, sym, ap, subst, ◌∙◌, ◌⊎◌, inl, inr, length, get_or, set, take, arith}
use Rattle.std.specs.Prelude.{All, slice_get, is_none, option_and_then, unwrap_or}
use Rattle.std.proofs.lemmas.Bool.{cases_eq}
use Rattle.std.proofs.lemmas.List.{take_more, get_or-set_same, get_or-set_other}
use Rattle.std.proofs.lemmas.List.Elements.{All-weaker}
use Rattle.dw_cprint.specs.Declarations.{term_at, term_by}
use Rattle.dw_cprint.specs.Shapes.{Qualifier, TypeAt, ShapeOf, qualified, view_shape}
use Rattle.dw_cprint.specs.Steps.{types_reached}
use Rattle.dw_cprint.specs.Lengths.{IsLength, base_kind}
use Rattle.dw_cprint.specs.Summaries.{TypeKind, Summary, AreFindings, IsBase, IsSummary, known_of, KnowsType, AreNodes, HaveSummaries, summary_at}
use Rattle.dw_cprint.specs.Terms.{Term, Void}
use Rattle.dw_cprint.specs.declared.survey.Survey.{Survey}
use Rattle.dw_cprint.specs.Wrong.{kind_in, nothing, itself, below}
use Rattle.dw_cprint.specs.declared.shape.Shape.{Shape}
use Rattle.dw_cprint.specs.declared.shape.Shape.TheVariants as shape
use Rattle.dw_cprint.specs.declared.survey.TheConstants.{UNKNOWN, VOID}
use Rattle.dw_cprint.proofs.FoundLemmas.{found-none}
use Rattle.dw_cprint.proofs.KindLemmas.{all-types}
use Rattle.dw_cprint.proofs.LengthLemmas.{void-length}
use Rattle.dw_cprint.proofs.PartLengthLemmas.{Tells}

-- ---- void

pub void_summary : (shapes : ℕ → ShapeOf) → IsSummary shapes None VOID
void_summary shapes =
    let none = found-none shapes VOID.findings refl refl refl refl in
    record {
      is_kind = refl;
      is_base = (None, nothing, refl);
      are_found =
          record {
            bad_name = none.bad_name;
            foreign_type = none.foreign_type;
            unspeakable = none.unspeakable;
            deep = none.deep;
          };
      is_length = λ k t e. of_term k t e;
    }
  where
    of_term : (k : ℕ) (t : Term) → term_at k shapes None ≡ Some t → IsLength t VOID.kind VOID.base VOID.length
    of_term zero t e = absurd (cc)
    of_term (suc k) t e =
        let same : Void ≡ t = cc in
        rw (← same) void-length

-- ---- what stands under a row

pub base_qualified : (shapes : ℕ → ShapeOf) (entry : ℕ) (q : Qualifier) (at : TypeAt) (b : TypeKind)
    → shapes entry ≡ qualified q at → IsBase shapes at b → IsBase shapes (Some entry) b
base_qualified shapes entry q at b is (under, stands, same) = (under, below q at is stands, same)

pub base_itself : (shapes : ℕ → ShapeOf) (entry : ℕ) (s : Shape) (b : TypeKind) → shapes entry ≡ view_shape s
    → ((q : Qualifier) (at : TypeAt) → s ≡ shape.Qualified q at → ⊥) → b ≡ kind_in (Some (view_shape s))
    → IsBase shapes (Some entry) b
base_itself shapes entry s b is plain same = (
  Some entry,
  itself (λ q at e. unqualified s plain q at (sym is ∙ e)),
  same
      ∙ ap (λ (x : ShapeOf). kind_in (Some x)) (sym is),
)
  where
    unqualified : (s : Shape) → ((q : Qualifier) (at : TypeAt) → s ≡ shape.Qualified q at → ⊥)
        → (q : Qualifier) (at : TypeAt) → view_shape s ≡ qualified q at → ⊥
    unqualified (shape.Qualified r to) plain q at e = plain r to refl
    unqualified _ plain q at e = cc

-- it is the base of its shape too
pub base_plain : (known : TypeAt → Summary) (s : Shape) → ((q : Qualifier) (at : TypeAt) → s ≡ shape.Qualified q at → ⊥)
    → kind_in (Some (view_shape s)) ≡ base_kind known (view_shape s)
base_plain known (shape.Qualified q at) plain = absurd (plain q at refl)
base_plain known _ plain = refl

-- ---- one entry

pub entry_summary : (shapes : ℕ → ShapeOf) (entry : ℕ) (s : ShapeOf) (known : Summary) → shapes entry ≡ s
    → known.kind ≡ kind_in (Some s) → IsBase shapes (Some entry) known.base
    → AreFindings shapes (Some entry ∷ []) known.findings
    → ((k : ℕ) (t : Term) → term_by (term_at k shapes) s ≡ Some t → IsLength t known.kind known.base known.length)
    → IsSummary shapes (Some entry) known
entry_summary shapes entry s known is kind base found long =
    record {
      is_kind = kind ∙ ap (λ (x : ShapeOf). kind_in (Some x)) (sym is);
      is_base = base;
      are_found = found;
      is_length = of_term;
    }
  where
    of_term : (k : ℕ) (t : Term) → term_at k shapes (Some entry) ≡ Some t
        → IsLength t known.kind known.base known.length
    of_term zero t e = absurd (cc)
    of_term (suc k) t e = long k t (ap (term_by (term_at k shapes)) (sym is) ∙ e)

-- what is known of the lengths of some types is right
pub knows-lengths : (shapes : ℕ → ShapeOf) (s : Survey) (k : ℕ) (types : List TypeAt) → All (KnowsType shapes s) types
    → All (Tells (term_at k shapes) (known_of s)) types
knows-lengths shapes s k types all =
    All-weaker (KnowsType shapes s) (Tells (term_at k shapes) (known_of s)) (λ at known t is. known.is_length k t is)
    types
    all

-- ---- all nodes

pub have_more : (clear : List ℕ) (nodes : List (Option Summary)) (i : ℕ) (s : Summary) → i < length clear
    → get_or clear i 0 < length nodes → HaveSummaries (take i clear) nodes
    → HaveSummaries (take (i + 1) clear) (set nodes (get_or clear i 0) (Some s))
have_more clear nodes i s within there have =
    rw (take_more clear i 0 within) (marked-more (λ (o : Option Summary). is_none o ≡ false) nodes (Some s) None
    (take i clear) (get_or clear i 0) refl there have)

-- what is known by two lists
abbrev pub known_by : List ℕ → List (Option Summary) → TypeAt → Summary
known_by places nodes at = unwrap_or (summary_at VOID places nodes at) UNKNOWN

-- the summaries of the first nodes are right
abbrev pub RightBefore : (ℕ → ShapeOf) → (found clear places : List ℕ) → List (Option Summary) → ℕ → Type 0
RightBefore all found clear places nodes i =
    (j : ℕ) → j < i → IsSummary all (Some (get_or found (get_or clear j 0) 0))
    (known_by places nodes (Some (get_or found (get_or clear j 0) 0)))

flattened : (nodes : List (Option Summary)) (n : ℕ)
    → option_and_then (λ (s : Option Summary). s) (slice_get nodes n) ≡ get_or nodes n None
flattened [] n = refl
flattened (s ∷ nodes) zero = refl
flattened (s ∷ nodes) (suc n) = flattened nodes n

-- the summary of an entry is that of its node
pub summary-there : (places : List ℕ) (nodes : List (Option Summary)) (entry n : ℕ) → slice_get places entry ≡ Some n
    → summary_at VOID places nodes (Some entry) ≡ get_or nodes n None
summary-there places nodes entry n placed =
    ap (λ (o : Option ℕ). option_and_then (λ (s : Option Summary). s) (option_and_then (slice_get nodes) o)) placed
    ∙ flattened nodes n

module _ {all : ℕ → ShapeOf} {places found : List ℕ} {kept : List Shape} {clear : List ℕ}
    (are : AreNodes all places found kept clear) where
  -- what the steps of a node lead to is known
  pub all_known : (nodes : List (Option Summary)) (i : ℕ) → i < length clear
      → RightBefore all found clear places nodes i
      → All (λ at. IsSummary all at (known_by places nodes at))
      (types_reached (all (get_or found (get_or clear i 0) 0)))
  all_known nodes i within right =
      all-types (λ at. IsSummary all at (known_by places nodes at)) (void_summary all)
      (types_reached (all (get_or found (get_or clear i 0) 0)))
      (λ to c. (let behind = are.behind i to within c in rw (← behind.2) (right behind.0 behind.1)))

  pub right_more : (nodes : List (Option Summary)) (i : ℕ) (s : Summary) → i < length clear
      → get_or clear i 0 < length nodes → RightBefore all found clear places nodes i
      → IsSummary all (Some (get_or found (get_or clear i 0) 0)) s
      → RightBefore all found clear places (set nodes (get_or clear i 0) (Some s)) (i + 1)
  right_more nodes i s within there right new j lower = by_node (cases_eq (get_or clear i 0) (get_or clear j 0))
    where
      by_node : ((get_or clear i 0 ≡ get_or clear j 0) ⊎ (get_or clear i 0 ≡ get_or clear j 0 → ⊥))
          → IsSummary all (Some (get_or found (get_or clear j 0) 0))
          (known_by places (set nodes (get_or clear i 0) (Some s)) (Some (get_or found (get_or clear j 0) 0)))
      by_node (inl same) =
          let n = get_or clear i 0 in
          let at = summary-there places (set nodes n (Some s)) (get_or found n 0) n (are.placed n (are.within i within))
          ∙ get_or-set_same nodes n (Some s) None there in
          let P : Option Summary → Type 0 = λ o. IsSummary all (Some (get_or found n 0)) (unwrap_or o UNKNOWN) in
          rw (← same) (subst P (sym at) new)
      by_node (inr apart) =
          let n = get_or clear i 0 in
          let m = get_or clear j 0 in
          let earlier : j < i = before (cases_eq i j) in
          let placed = are.placed m (are.within j (omega arith)) in
          let P : Option Summary → Type 0 = λ o. IsSummary all (Some (get_or found m 0)) (unwrap_or o UNKNOWN) in
          subst P (summary-there places nodes (get_or found m 0) m placed
          ∙ sym (get_or-set_other nodes n m (Some s) None (λ e. apart (sym e)))
          ∙ sym (summary-there places (set nodes n (Some s)) (get_or found m 0) m placed)) (right j earlier)
        where
          before : (i ≡ j) ⊎ (i ≡ j → ⊥) → j < i
          before (inl e) = absurd (apart (ap (λ (k : ℕ). get_or clear k 0) e))
          before (inr ne) = omega (arith, ne)

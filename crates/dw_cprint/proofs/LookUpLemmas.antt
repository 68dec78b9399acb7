-- What is read of an entry, and of its children from the first on.
use Rattle.std.proofs.Common.{[], ◌∷◌, ◌≡◌, ℕ, ◌<◌, List, Option, Some, None, refl, ap, length, ◌++◌, append-nil, map, ◌∙◌}
use Rattle.std.specs.List.{cons_option, filter_map}
use Rattle.std.specs.Prelude.{option_map, All}
use Rattle.std.proofs.lemmas.List.Elements.{All-head, All-rest, All-tail}
use Rattle.dw_entries.specs.Entries.{Entry}
use Rattle.dw_cprint.specs.Children.{AreKept}
use Rattle.dw_types.specs.Children.{children_of}
use Rattle.dw_types.proofs.SiblingLemmas.{children-all}

-- the children of an entry are entries
pub children_within : (es : List Entry) (id : ℕ) → All (λ child. child < length es) (children_of es id)
children_within es id = λ k d below. (children-all es id k d below).0

-- so is the first of those that are left, and so are the others
pub child_within : (es : List Entry) {left rest : List ℕ} {child : ℕ} → left ≡ child ∷ rest
    → All (λ child. child < length es) left → child < length es
child_within es {rest = rest} {child = child} is all =
    All-head (λ child. child < length es) child rest (rw is at all)

pub children_rest : (es : List Entry) {left rest : List ℕ} {child : ℕ} → left ≡ child ∷ rest
    → All (λ child. child < length es) left → All (λ child. child < length es) rest
children_rest es {left = left} {rest = rest} {child = child} is all =
    All-rest (λ child. child < length es) child rest left is all

-- ---- reading children from the first on

-- what is kept of all, if the rest is kept of those that are left
abbrev pub KeepsSoFar : {T : Type 0} → (ℕ → Option T → Type 0) → (all left : List ℕ) → List T → Type 0
KeepsSoFar {T = T} read all left kept = (rest : List T) → AreKept read left rest → AreKept read all (kept ++ rest)

-- none is left
pub kept-all : {T : Type 0} (read : ℕ → Option T → Type 0) (all left : List ℕ) (kept : List T)
    → KeepsSoFar read all left kept → left ≡ [] → AreKept read all kept
kept-all {T = T} read all [] kept so_far is = rw (append-nil kept) at (so_far [] refl)
kept-all read all (x ∷ xs) kept so_far is = absurd cc

mapped-option : {T V : Type 0} (view : T → V) (o : Option T) (rest : List T)
    → map view (cons_option o rest) ≡ cons_option (option_map view o) (map view rest)
mapped-option view None rest = refl
mapped-option view (Some one) rest = refl

-- what is kept of the children of an entry, if a function gives the value of what each call returns
pub kept-are : {T V : Type 0} (view : T → V) (f : ℕ → Option V) (es : List Entry) (id : ℕ)
    (read : ℕ → Option T → Type 0) (kept : List T) → AreKept read (children_of es id) kept
    → ((child : ℕ) (one : Option T) → child < length es → read child one → option_map view one ≡ f child)
    → map view kept ≡ filter_map f (children_of es id)
kept-are {T} view f es id read kept keeps says = go (children_of es id) kept keeps (children_within es id)
  where
    go : (all : List ℕ) (kept : List T) → AreKept read all kept → All (λ child. child < length es) all
        → map view kept ≡ filter_map f all
    go [] kept keeps within = ap (map view) keeps
    go (child ∷ all) kept (one, rest, is, same, keeps) within =
        ap (map view) same ∙ mapped-option view one rest
        ∙ rw (
          says child one (All-head (λ child. child < length es) child all within) is,
          go all rest keeps (All-tail (λ child. child < length es) child all within),
        ) refl

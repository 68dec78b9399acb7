-- The members, enumerators and parameters that are left to be written, item by item.
use Rattle.std.proofs.lemmas.Grind.{common_steps, flat_map-append}
use Rattle.std.proofs.Common.{arith, rules, ◌≡◌, ℕ, ℤ, ◌+◌, ◌<◌, false, List, [], ◌∷◌, ◌++◌, Option, Some, None, refl, sym, ◌∙◌, ap, append_assoc, append-nil, drop, length, get_or, map}
use Rattle.std.specs.Prelude.{Bool, true, option_map, if◌then◌else◌}
use Rattle.std.specs.List.{cons_option}
use Rattle.std.proofs.lemmas.Option.{same_Some}
use Rattle.std.proofs.lemmas.List.{drop_more}
use Rattle.dw_cprint.specs.Declarations.{is_cut_short, has_more, constants_of, parameters_by, members_by, body_by}
use Rattle.dw_cprint.specs.Declarators.{comma}
use Rattle.dw_cprint.specs.Kept.{Writes, EnumeratorsLeft, constants_left, WritesEnumerator, WritesEnumerators, WritesParameter, WritesParameters, kept_term}
use Rattle.dw_cprint.specs.Shapes.{AggregateKeyword, OfAggregate, Enum, Parameter, Typed, More, Name, TypeAt, MemberOf, details_of, EnumeratorOf, aggregate, enumeration}
use Rattle.dw_cprint.specs.Terms.{Constant, Valued, Term, Body, Aggregate, Constants, Parameters, Parameter as ParameterTerm, Members, Member as MemberTerm}
use Rattle.dw_cprint.specs.Tokens.{Token, Blank, LeftBrace, RightBrace, Comma, Dot, TagWord, text_of, spelling}
use Rattle.dw_cprint.specs.Writing.{body_tokens, front_tokens, spell, name_tokens, ellipsis, constant_tokens, constants, more_constants, more_parameters, member_tokens, members_tokens, written}
use Rattle.dw_cprint.specs.declared.survey.Survey.{Survey}
use Rattle.dw_cprint.proofs.OptionLemmas.{both_hold, map_holds, map_inverted, then_inverted, unless_holds}
use Rattle.dw_cprint.proofs.WriterLemmas.{both}

-- what is left of a list, one item on
pub next-of : {X Y : Type 0} (f : X → Y) (xs : List X) (i : ℕ) (one : X) → one ≡ get_or xs i one → i < length xs
    → map f (drop i xs) ≡ f one ∷ map f (drop (i + 1) xs)
next-of f xs i one is within = ap (map f) (drop_more xs i one within) ∙ ap (λ z. f z ∷ map f (drop (i + 1) xs)) (sym is)

-- what is written is followed by the same rest
pub moved : (a rest whole : List Token) (old out out' : List ℕ) (all : List ℕ) → Writes a out out'
    → a ++ rest ≡ whole
    → out ++ text_of whole ≡ old ++ all → out' ++ text_of rest ≡ old ++ all
moved a rest whole old out out' all h parts so_far = search (rules, append_assoc, (flat_map-append spelling))

-- ---- items of any kind, by the tokens of some of them, if all of these have terms

-- the items that are left are still to be written
pub record IsLeft {X : Type 0} (tokens : List X → Option (List Token)) (all : List X) (old : List ℕ)
    (left : List X)
    (out : List ℕ) : Type 0 where
  pub rest : (us : List Token) → tokens all ≡ Some us
      → (vs : List Token) × (tokens left ≡ Some vs) × (out ++ text_of vs ≡ old ++ text_of us)

-- the tokens of an item, which is written, and those of the others
abbrev IsSplit : {X : Type 0} → (List X → Option (List Token)) → List X → List Token → List ℕ → List ℕ
    → Type 0
IsSplit tokens left us out out' =
    (one others : List Token) × (tokens left ≡ Some others) × (one ++ others ≡ us) × Writes one out out'

module _ {X : Type 0} (tokens : List X → Option (List Token)) (all : List X) (old : List ℕ) where
  left-next : (x : X) (left : List X) (out out' : List ℕ) → IsLeft tokens all old (x ∷ left) out
      → ((us : List Token) → tokens (x ∷ left) ≡ Some us → IsSplit tokens left us out out')
      → IsLeft tokens all old left out'
  left-next x left out out' so_far split = grind (arith, common_steps, moved)

  left-done : (out : List ℕ) (us : List Token) → tokens [] ≡ Some [] → IsLeft tokens all old [] out
      → tokens all ≡ Some us → Writes us old out
  left-done out us none so_far e = search (rules, same_Some, append-nil)

-- ---- members

abbrev pub members_left : (TypeAt → Option Term) → List MemberOf → Option (List Token)
members_left term ms = option_map members_tokens (members_by term ms)

pub members_next : (term : TypeAt → Option Term) (all : List MemberOf) (m : MemberOf) (left : List MemberOf)
    (old out out' : List ℕ) → IsLeft (members_left term) all old (m ∷ left) out
    → ((t : Term) → term m.type_at ≡ Some t
    → Writes (member_tokens (details_of m) (spell [] t (name_tokens m.name))) out out')
    → IsLeft (members_left term) all old left out'
members_next term all m left old out out' so_far written = left-next (members_left term) all old m left out out' so_far
    (map_holds (λ (us : List Token). IsSplit (members_left term) left us out out') members_tokens
    (members_by term (m ∷ left))
    (both_hold (λ (ms : Members). IsSplit (members_left term) left (members_tokens ms) out out')
    (λ (t : Term). MemberTerm (details_of m) t) (term m.type_at) (members_by term left)
    (λ t is us are. (
      _,
      members_tokens us,
      ap (option_map members_tokens) are,
      refl,
      written
          t is,
    ))))

-- the members, in braces
pub members_done : (term : TypeAt → Option Term) (word : AggregateKeyword) (name : Name) (odd : Bool)
    (all : List MemberOf) (begin mid old out new : List ℕ)
    → Writes (TagWord (OfAggregate word) ∷ Blank ∷ front_tokens name) begin mid
    → Writes (LeftBrace ∷ Blank ∷ []) mid old
    → IsLeft (members_left term) all old [] out → Writes (RightBrace ∷ []) out new → (u : Body)
    → body_by term (aggregate word odd all) ≡ Some u → Writes (body_tokens name u) begin new
members_done term word name odd all begin mid old out new front opens left closes =
    map_holds (λ (u : Body). Writes (body_tokens name u) begin new) (Aggregate word) (members_by term all)
    (λ us e. both (TagWord (OfAggregate word) ∷ Blank ∷ front_tokens name)
    (LeftBrace ∷ Blank ∷ (members_tokens us ++ RightBrace ∷ [])) begin mid new front
    (both (LeftBrace ∷ Blank ∷ []) (members_tokens us ++ RightBrace ∷ []) mid old new opens
    (both (members_tokens us) (RightBrace ∷ []) old out new
    (left-done (members_left term) all old out (members_tokens us) refl left (ap (option_map members_tokens) e))
    closes)))

-- ---- enumerators

-- the constants of one enumerator more
pub record IsMoreConstants (x : EnumeratorOf) (es : List EnumeratorOf) (cs : List Constant) : Type 0 where
  pub name : List ℕ
  pub value : ℤ
  pub others : List Constant
  pub is_name : x.name ≡ Some name
  pub is_value : x.value ≡ Some value
  pub are_others : constants_of es ≡ Some others
  pub is : Valued name value ∷ others ≡ cs

pub more-constants : (x : EnumeratorOf) (es : List EnumeratorOf) (cs : List Constant) → constants_of (x ∷ es) ≡ Some cs
    → IsMoreConstants x es cs
more-constants x es cs e = search (rules, then_inverted, map_inverted)

-- all are left
pub enumerators_begin : (all : List EnumeratorOf) (begin : List ℕ) → EnumeratorsLeft all begin false all begin
enumerators_begin all begin = record { rest = λ us is. (us, is, refl) }

-- one is written that was left
pub enumerators_next : (all left : List EnumeratorOf) (x : EnumeratorOf) (begin out mid out' : List ℕ)
    (others : Bool) → EnumeratorsLeft all begin others (cons_option (Some x) left) out → Writes (comma others) out mid
    → WritesEnumerator x mid out' → EnumeratorsLeft all begin true left out'
enumerators_next all left x begin out mid out' others so_far first written = record {
  rest =
      λ us is.
      let (vs, are, so_far) = so_far.rest us is in
      let m = more-constants x left vs are in
      let c = constant_tokens (Valued m.name m.value) in (
        m.others,
        m.are_others,
        moved (comma others ++ c) (more_constants m.others) (constants_left others vs) begin out out'
            (text_of (constants us))
            (both (comma others) c out mid out' first (written m.name m.value m.is_name m.is_value))
            (parts others m.others (Valued m.name m.value) ∙ ap (constants_left others) m.is) so_far,
      );
}
  where
    parts : (others : Bool) (cs : List Constant) (one : Constant)
        → (comma others ++ constant_tokens one) ++ more_constants cs ≡ constants_left others (one ∷ cs)
    parts false cs one = refl
    parts true cs one = refl

-- all are written, in braces
pub enumerators_done : (all : List EnumeratorOf) (begin old out new : List ℕ) (others : Bool)
    → Writes (LeftBrace ∷ Blank ∷ []) begin old → EnumeratorsLeft all old others [] out
    → Writes (Blank ∷ RightBrace ∷ []) out new → WritesEnumerators all begin new
enumerators_done all begin old out new others opens left closes us is =
    let (vs, are, so_far) = left.rest us is in
    let none : [] ≡ vs = cc in
    let inner : Writes (constants us) old out =
    sym (append-nil out) ∙ ap (λ (u : List Token). out ++ text_of u) (nothing others)
    ∙ ap (λ (cs : List Constant). out ++ text_of (constants_left others cs)) none ∙ so_far in
    both (LeftBrace ∷ Blank ∷ []) (constants us ++ Blank ∷ RightBrace ∷ []) begin old new opens
    (both (constants us) (Blank ∷ RightBrace ∷ []) old out new inner closes)
  where
    nothing : (others : Bool) → [] ≡ constants_left others []
    nothing false = refl
    nothing true = refl

-- and after the keyword and a name
pub enumeration_done : (term : TypeAt → Option Term) (name : Name) (odd : Bool) (es : List EnumeratorOf)
    (begin mid new : List ℕ) → Writes (TagWord Enum ∷ Blank ∷ front_tokens name) begin mid
    → WritesEnumerators es mid new → (u : Body) → body_by term (enumeration odd es) ≡ Some u
    → Writes (body_tokens name u) begin new
enumeration_done term name odd es begin mid new front inner =
    map_holds (λ (u : Body). Writes (body_tokens name u) begin new) Constants (constants_of es)
    (λ cs e. both (TagWord Enum ∷ Blank ∷ front_tokens name)
    (LeftBrace ∷ Blank ∷ (constants cs ++ Blank ∷ RightBrace ∷ [])) begin mid new front (inner cs e))

-- ---- parameters

-- what stands behind the first parameter
abbrev following : Parameters → List Parameter → List Token
following us ps = more_parameters us ++ ellipsis (has_more ps)

abbrev pub parameters_left : (TypeAt → Option Term) → List Parameter → Option (List Token)
parameters_left term ps =
    if is_cut_short ps then None else option_map (λ (us : Parameters). following us ps) (parameters_by term ps)

parameters-are : (term : TypeAt → Option Term) (ps : List Parameter) (us : Parameters) → is_cut_short ps ≡ false
    → parameters_by term ps ≡ Some us → parameters_left term ps ≡ Some (following us ps)
parameters-are term ps us placed e = rw (placed, e) refl

pub parameters_next : (s : Survey) (k : ℕ) (all : List Parameter) (p : Parameter) (left : List Parameter)
    (old out mid out' : List ℕ) → IsLeft (parameters_left (kept_term s k)) all old (p ∷ left) out
    → Writes (Comma ∷ Blank ∷ []) out mid
    → WritesParameter s k p mid out' → IsLeft (parameters_left (kept_term s k)) all old left out'
parameters_next s k all p left old out mid out' so_far comma written =
    left-next (parameters_left term) all old p left out out' so_far (split p left written)
  where
    term : TypeAt → Option Term
    term = kept_term s k

    split : (p : Parameter) (left : List Parameter) → WritesParameter s k p mid out' → (us : List Token)
        → parameters_left term (p ∷ left) ≡ Some us → IsSplit (parameters_left term) left us out out'
    split (Typed at) left writes us e =
        let Split : List Token → Type 0 = λ us. IsSplit (parameters_left term) left us out out' in
        unless_holds Split (is_cut_short left) _
        (λ placed. map_holds Split (λ (ps : Parameters). following ps left) (parameters_by term (Typed at ∷ left))
        (both_hold (λ (ps : Parameters). Split (following ps left)) ParameterTerm (term at) (parameters_by term left)
        (λ t is ps are. (
          Comma ∷ Blank ∷ spell [] t [],
          following ps left,
          parameters-are term left ps placed are,
          ap (λ (u : List Token). Comma ∷ Blank ∷ u)
              (sym (append_assoc (spell [] t []) (more_parameters ps) (ellipsis (has_more left)))),
          both (Comma ∷ Blank ∷ []) (spell [] t []) out mid out' comma (writes t is),
        )))) us e
    split More [] writes us e = (
      Comma ∷ Blank ∷ Dot ∷ Dot ∷ Dot
          ∷ [],
      [],
      refl,
      same_Some _ us e,
      both (Comma ∷ Blank ∷ []) (Dot ∷ Dot ∷ Dot ∷ []) out mid out' comma writes,
    )
    split More (another ∷ left) writes us e = absurd (cc)

pub parameters_done : (s : Survey) (k : ℕ) (p : Parameter) (others : List Parameter) (begin old new : List ℕ)
    → WritesParameter s k p begin old → IsLeft (parameters_left (kept_term s k)) others old [] new
    → WritesParameters s k (p ∷ others) begin new
parameters_done s k More others begin old new first left placed us e = absurd (cc)
parameters_done s k (Typed at) others begin old new first left placed us e =
    search (rules, then_inverted, map_inverted, left-done, parameters-are, both)

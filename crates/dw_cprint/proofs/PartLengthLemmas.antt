-- The text of what a type lists, members, parameters or enumerators, has as many bytes as are counted for it, up to
-- the limit.
use Rattle.std.proofs.Common.{◌≡◌, ℕ, ◌+◌, Bool, true, false, List, [], ◌∷◌, ◌++◌, Option, Some, None, sym, ap, subst, ◌∙◌, length, length-append, arith}
use Rattle.std.proofs.lemmas.Grind.{flat_map-append}
use Rattle.std.specs.Prelude.{All, sum_by}
use Rattle.std.proofs.lemmas.List.Sums.{sum_by-cons}
use Rattle.dw_cprint.specs.Declarations.{body_by, constants_of, has_more, is_misplaced, is_cut_short, members_by, parameters_by}
use Rattle.dw_cprint.specs.Declarators.{before, after}
use Rattle.dw_cprint.specs.Lengths.{byte_count, capped, type_bytes, space, has_gap, IsLength, name_bytes, value_bytes, enumerator_bytes, enumerators_bytes, named_bytes, member_bytes, parameter_bytes, parameters_bytes, shape_bytes, tag_bytes}
use Rattle.dw_cprint.specs.Shapes.{Parameter, Typed, More, Name, TagKeyword, OfAggregate, Enum, TypeAt, MemberOf, details_of, EnumeratorOf, BodyOf, aggregate, enumeration, body}
use Rattle.dw_cprint.specs.Steps.{member_types, parameter_types, types_reached}
use Rattle.dw_cprint.specs.Summaries.{Summary}
use Rattle.dw_cprint.specs.Terms.{Constant, Valued, Details, Term, Body, Aggregate, Constants, Prototyped, Parameters, NoParameter, Parameter as ParameterTerm, Members, NoMember, Member as MemberTerm}
use Rattle.dw_cprint.specs.Tokens.{Token, Blank, LeftBrace, RightBrace, Semicolon, Comma, Equals, TagWord, Identifier, spelling, text_of}
use Rattle.dw_cprint.specs.Writing.{body_tokens, front_tokens, spell, bits_tokens, constant_tokens, constants, ellipsis, member_tokens, members_tokens, more_constants, more_parameters, name_tokens, signature_tokens, value_tokens}
use Rattle.dw_cprint.specs.Wrong.{TypeKind}
use Rattle.dw_cprint.proofs.DeclaratorLemmas.{in_parts}
use Rattle.dw_cprint.proofs.ItemWriterLemmas.{more-constants}
use Rattle.dw_cprint.proofs.KindLemmas.{first-of, others-of}
use Rattle.dw_cprint.proofs.OptionLemmas.{both_hold, map_holds}

-- ---- counts

pub count-append : (a b : List Token) → byte_count (a ++ b) ≡ byte_count a + byte_count b
count-append a b = ap (λ (u : List ℕ). length u) (flat_map-append spelling a b) ∙ length-append (text_of a) (text_of b)

pub count-cons : (x : Token) (ts : List Token) → byte_count (x ∷ ts) ≡ length (spelling x) + byte_count ts
count-cons x ts = length-append (spelling x) (text_of ts)

-- ---- the terms of what an entry names

-- what is known of the length of a type is right, if it has a term
abbrev pub Tells : (TypeAt → Option Term) → (TypeAt → Summary) → TypeAt → Type 0
Tells term known at = (t : Term) → term at ≡ Some t → IsLength t (known at).kind (known at).base (known at).length

-- a type without a declarator, by what is before and after one
bare-bytes : (t : Term) → byte_count (spell [] t []) ≡ type_bytes t false
bare-bytes t =
    omega (arith, ap (λ (u : List Token). byte_count u) (in_parts [] t []), count-append (before [] t false) (after t))

pub bare-length : (t : Term) (n : ℕ) → n ≡ capped (type_bytes t false) → n ≡ capped (byte_count (spell [] t []))
bare-length t n is = is ∙ ap (λ (m : ℕ). capped m) (sym (bare-bytes t))

pub bare-known : (t : Term) (k b : TypeKind) (n : ℕ) → IsLength t k b n → n ≡ capped (type_bytes t false)
bare-known t k b n is = is.bare ∙ ap (λ (m : ℕ). capped m) (bare-bytes t)

-- a type with a declarator
pub around-length : (t : Term) (k b : TypeKind) (n : ℕ) → IsLength t k b n
    → capped (n + space (has_gap k b)) ≡ capped (type_bytes t true)
around-length t k b n is = omega (arith, bare-known t k b n is, is.around)

-- a member by its type and name and what is around them
around-member : (d : Details) (typed : List Token)
    → byte_count (member_tokens d typed) ≡ byte_count typed + byte_count (member_tokens d [])
around-member d typed = count-append typed (bits_tokens d.bits ++ Semicolon ∷ Blank ∷ [])

-- what is around them
pub details_counted : (d : Details) → byte_count (member_tokens d []) ≡ byte_count (bits_tokens d.bits) + 2
details_counted d = count-append (bits_tokens d.bits) (Semicolon ∷ Blank ∷ [])

-- a parameter with the comma and the space before it, and those after it
more-bytes : (t : Term) (ps : Parameters) (variadic : Bool)
    → byte_count (more_parameters (ParameterTerm t ps) ++ ellipsis variadic)
    ≡ 2 + byte_count (spell [] t []) + (byte_count (more_parameters ps) + byte_count (ellipsis variadic))
more-bytes t ps variadic =
    let one = spell [] t [] ++ more_parameters ps in
    omega (
      arith,
      count-append (Comma ∷ Blank ∷ one) (ellipsis variadic),
      count-append (Comma ∷ Blank ∷ []) one,
      count-append (spell [] t []) (more_parameters ps),
    )

module _ (term : TypeAt → Option Term) (known : TypeAt → Summary) where
  -- a type with a name, or with nothing
  pub named-length : (t : Term) (at : TypeAt) (name : Name)
      → IsLength t (known at).kind (known at).base (known at).length
      → capped (named_bytes known at name) ≡ capped (byte_count (spell [] t (name_tokens name)))
  named-length t at None is = omega (arith, is.bare)
  named-length t at (Some name) is =
      let parts = ap (λ (u : List Token). byte_count u) (in_parts [] t (Identifier name ∷ [])) in
      omega (
        arith,
        parts,
        count-append (before [] t true) (Identifier name ∷ after t),
        count-cons (Identifier name)
            (after t),
        bare-known t (known at).kind (known at).base (known at).length is,
        is.around,
      )

  members-length : (ms : List MemberOf) (us : Members) → All (Tells term known) (member_types ms)
      → members_by term ms ≡ Some us
      → capped (sum_by (member_bytes known) ms) ≡ capped (byte_count (members_tokens us))
  members-length [] us all e =
      (let same : NoMember ≡ us = cc in ap (λ (u : Members). capped (byte_count (members_tokens u))) same)
  members-length (m ∷ ms) us all e =
      both_hold (λ (us : Members). capped (sum_by (member_bytes known) (m ∷ ms))
      ≡ capped (byte_count (members_tokens us)))
      (λ (t : Term). MemberTerm (details_of m) t) (term m.type_at) (members_by term ms) (λ t is vs are.
      let inner = members-length ms vs (others-of (Tells term known) m.type_at (member_types ms) all) are in
      let here = named-length t m.type_at m.name (first-of (Tells term known) m.type_at (member_types ms) all t is) in
      let typed = spell [] t (name_tokens m.name) in
      omega (
        arith,
        here,
        inner,
        sum_by-cons (member_bytes known) m ms,
        count-append (member_tokens (details_of m) typed) (members_tokens vs),
        around-member (details_of m) typed,
      )) us e

  -- those after the first, and the dots
  parameters-length : (ps : List Parameter) (us : Parameters) → is_cut_short ps ≡ false
      → All (Tells term known) (parameter_types ps) → parameters_by term ps ≡ Some us
      → capped (sum_by (parameter_bytes known) ps) ≡ capped (byte_count (more_parameters us ++ ellipsis (has_more ps)))
  parameters-length [] us placed all e =
      (let same : NoParameter ≡ us = cc in ap (λ (u : Parameters). capped (byte_count (more_parameters u ++ []))) same)
  parameters-length (Typed at ∷ ps) us placed all e =
      both_hold (λ (us : Parameters). capped (sum_by (parameter_bytes known) (Typed at ∷ ps))
      ≡ capped (byte_count (more_parameters us ++ ellipsis (has_more ps)))) ParameterTerm (term at)
      (parameters_by term ps) (λ t is vs are.
      let inner = parameters-length ps vs placed (others-of (Tells term known) at (parameter_types ps) all) are in
      let here = named-length t at None (first-of (Tells term known) at (parameter_types ps) all t is) in
      omega (
        arith,
        here,
        inner,
        sum_by-cons (parameter_bytes known) (Typed at) ps,
        more-bytes t vs (has_more ps),
        count-append (more_parameters vs) (ellipsis (has_more ps)),
      )) us e
  parameters-length (More ∷ []) us placed all e =
      (let same : NoParameter ≡ us = cc in
      ap (λ (u : Parameters). capped (byte_count (more_parameters u ++ ellipsis true))) same)
  parameters-length (More ∷ p ∷ ps) us placed all e = absurd (cc)

  -- the parentheses make up for the comma and the space that are not before the first parameter
  pub signature-length : (ps : List Parameter) (us : Parameters) → is_misplaced ps ≡ false
      → All (Tells term known) (parameter_types ps) → parameters_by term ps ≡ Some us
      → capped (parameters_bytes known ps) ≡ capped (byte_count (signature_tokens (Prototyped us (has_more ps))) + 2)
  signature-length [] us placed all e =
      (let same : NoParameter ≡ us = cc in
      ap (λ (u : Parameters). capped (byte_count (signature_tokens (Prototyped u false)) + 2)) same)
  signature-length (Typed at ∷ ps) us placed all e =
      parameters-length (Typed at ∷ ps) us placed all e
      ∙ both_hold (λ (us : Parameters). capped (byte_count (more_parameters us ++ ellipsis (has_more ps)))
      ≡ capped (byte_count (signature_tokens (Prototyped us (has_more ps))) + 2)) ParameterTerm (term at)
      (parameters_by term ps) (λ t is vs are.
      omega (
        arith,
        more-bytes t vs (has_more ps),
        count-append (spell [] t []) (more_parameters vs ++ ellipsis (has_more ps)),
        count-append (more_parameters vs) (ellipsis (has_more ps)),
      )) us e
  signature-length (More ∷ ps) us placed all e = absurd (cc)

constants-length : (es : List EnumeratorOf) (cs : List Constant) → constants_of es ≡ Some cs
    → sum_by enumerator_bytes es ≡ byte_count (more_constants cs)
constants-length [] cs e = (let same : [] ≡ cs = cc in ap (λ (u : List Constant). byte_count (more_constants u)) same)
constants-length (x ∷ es) cs e =
    let m = more-constants x es cs e in
    let inner = constants-length es m.others m.are_others in
    let one = constant_tokens (Valued m.name m.value) in
    let whole = ap (λ (u : List Constant). byte_count (more_constants u)) m.is in
    let named = ap name_bytes m.is_name in
    let valued = ap value_bytes m.is_value in
    let a = count-cons (Identifier m.name) (Blank ∷ Equals ∷ Blank ∷ value_tokens m.value) in
    let b = count-append (Blank ∷ Equals ∷ Blank ∷ []) (value_tokens m.value) in
    omega (
      arith,
      sum_by-cons enumerator_bytes x es,
      count-append (Comma ∷ Blank ∷ []) (one ++ more_constants m.others),
      count-append one (more_constants m.others),
    )

-- the braces make up for the comma and the space that are not before the first enumerator
more-length : (c : Constant) (cs : List Constant)
    → byte_count (more_constants (c ∷ cs)) ≡ byte_count (constants (c ∷ cs)) + 2
more-length c cs =
    omega (arith, count-append (Comma ∷ Blank ∷ []) (constant_tokens c ++ more_constants cs))

enumerators-length : (es : List EnumeratorOf) (cs : List Constant) → constants_of es ≡ Some cs
    → enumerators_bytes es ≡ 2 + byte_count (constants cs ++ Blank ∷ RightBrace ∷ [])
enumerators-length [] cs e =
    (let same : [] ≡ cs = cc in
    ap (λ (u : List Constant). 2 + byte_count (constants u ++ Blank ∷ RightBrace ∷ [])) same)
enumerators-length (x ∷ es) cs e =
    let m = more-constants x es cs e in
    let P : List Constant → Type 0 = λ u. sum_by enumerator_bytes (x ∷ es) ≡ byte_count (more_constants u) in
    let Q : List Constant → Type 0 = λ u. enumerators_bytes (x ∷ es)
    ≡ 2 + byte_count (constants u ++ Blank ∷ RightBrace ∷ []) in
    let all = constants (Valued m.name m.value ∷ m.others) in
    subst Q m.is (omega (
      arith,
      subst P (sym m.is) (constants-length (x ∷ es) cs e),
      more-length (Valued m.name m.value) m.others,
      count-append all (Blank ∷ RightBrace ∷ []),
    ))

-- ---- bodies

-- what is in braces after a keyword and a name
braces-length : (tag : TagKeyword) (name : Name) (inner : List Token)
    → byte_count (TagWord tag ∷ Blank ∷ (front_tokens name ++ LeftBrace ∷ Blank ∷ inner))
    ≡ tag_bytes tag None + byte_count (front_tokens name) + (2 + byte_count inner)
braces-length tag name inner =
    omega (
      arith,
      count-cons (TagWord tag) (Blank ∷ (front_tokens name ++ LeftBrace ∷ Blank ∷ inner)),
      count-cons Blank (front_tokens name ++ LeftBrace ∷ Blank ∷ inner),
      count-append (front_tokens name) (LeftBrace ∷ Blank ∷ inner),
      count-append (LeftBrace ∷ Blank ∷ []) inner,
    )

pub body-length : (term : TypeAt → Option Term) (known : TypeAt → Summary) (b : BodyOf) (u : Body) (name : Name)
    → All (Tells term known) (types_reached (body b)) → body_by term b ≡ Some u
    → capped (shape_bytes known (body b) + byte_count (front_tokens name)) ≡ capped (byte_count (body_tokens name u))
body-length term known (aggregate word odd ms) u name all e =
    map_holds (λ (u : Body). capped (shape_bytes known (body (aggregate word odd ms)) + byte_count (front_tokens name))
    ≡ capped (byte_count (body_tokens name u))) (Aggregate word) (members_by term ms) (λ us are.
    omega (
      arith,
      members-length term known ms us all are,
      braces-length (OfAggregate word) name (members_tokens us ++ RightBrace ∷ []),
      count-append (members_tokens us) (RightBrace ∷ []),
    )) u e
body-length term known (enumeration odd es) u name all e =
    map_holds (λ (u : Body). capped (shape_bytes known (body (enumeration odd es)) + byte_count (front_tokens name))
    ≡ capped (byte_count (body_tokens name u))) Constants (constants_of es) (λ cs are.
    omega (
      arith,
      enumerators-length es cs are,
      braces-length Enum name (constants cs ++ Blank ∷ RightBrace ∷ []),
    )) u e

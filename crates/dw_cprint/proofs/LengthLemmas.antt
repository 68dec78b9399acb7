-- The text of a type has as many bytes as are counted for it, up to the limit.
use Rattle.std.proofs.Common.{◌≡◌, ℕ, ◌+◌, Bool, true, false, List, [], ◌∷◌, ◌++◌, Option, Some, None, refl, sym, ap, subst, ◌∙◌, length, arith}
use Rattle.std.specs.Prelude.{All, sum_by, flat_map, if◌then◌else◌, ◌||◌, not}
use Rattle.std.proofs.lemmas.List.Sums.{sum_by-cons}
use Rattle.dw_types.specs.Sizes.{has_elements}
use Rattle.dw_cprint.specs.Declarations.{nested_arrays, body_by, declaration_by, has_more, is_miscounted, term_by}
use Rattle.dw_cprint.specs.Declarators.{gap, opening, closing, pointer_row, before, after, core}
use Rattle.dw_cprint.specs.Lengths.{byte_count, capped, count_bytes, type_bytes, space, has_gap, qualifier_bytes, IsLength, tag_bytes, shape_bytes, base_kind, declared_bytes}
use Rattle.dw_cprint.specs.Shapes.{Qualifier, TypeAt, BodyOf, aggregate, enumeration, ShapeOf, base, typedef, qualified, pointer, array, function, tagged, body, SubjectOf, typedef_subject, variable_subject, defined_subject, declared_subject}
use Rattle.dw_cprint.specs.Steps.{parameter_types, types_declared, types_reached}
use Rattle.dw_cprint.specs.Summaries.{Summary}
use Rattle.dw_cprint.specs.Terms.{Term, Void, Unnamed, Qualified, Pointer, Function, Unprototyped, Prototyped, CDeclaration, Typedef, Variable, Defined}
use Rattle.dw_cprint.specs.Tokens.{Token, Blank, Star, Open, Close, Semicolon, TypedefWord, TagWord, QualifierWord, Identifier, qualifier_spelling}
use Rattle.dw_cprint.specs.Writing.{body_tokens, front_tokens, spell, qualifying, count_tokens, signature_tokens, written}
use Rattle.dw_cprint.specs.Wrong.{TypeKind, is_bracketed, is_pointer, kind_in}
use Rattle.dw_cprint.specs.declared.shape.TypeKind.TheVariants as kind
use Rattle.dw_cprint.proofs.KindLemmas.{first-of, others-of}
use Rattle.dw_cprint.proofs.OptionLemmas.{map_holds, map_inverted, unless_holds}
use Rattle.dw_cprint.proofs.PartLengthLemmas.{count-append, count-cons, Tells, bare-length, bare-known, body-length, around-length, named-length, signature-length}
use Rattle.dw_cprint.proofs.WriterLemmas.{IsSpecifier, specifier-of, base-core, before-arrays, after-arrays, function-parts}

-- a specifier
core-length : (t : Term) (k : TypeKind) (n : ℕ) → IsSpecifier t → byte_count (core t) ≡ n → is_bracketed k ≡ false
    → is_pointer k ≡ false → IsLength t k k (capped n)
core-length t k n spec counted plain other = record {
  bare = bare-length t (capped n) (omega (arith, front [] false, count-append (core t) (gap false), back, counted));
  around =
      rw (plain, other) (omega (
        arith,
        front [] false,
        front [] true,
        count-append (core t) (gap false),
        count-append
            (core t) (gap true),
      ));
  qualifier = λ q qs inside.
      rw (plain, other) (omega (
        arith,
        front (q ∷ qs) inside,
        front qs inside,
        count-cons (QualifierWord q) (Blank ∷ (qualifying qs ++ (core t ++ gap inside))),
        count-cons Blank (qualifying qs ++ (core t ++ gap inside)),
      ));
  parentheses = rw (plain, spec.not_opened, spec.not_closed) refl;
}
  where
    front : (qs : List Qualifier) (inside : Bool)
        → byte_count (qualifying qs ++ (core t ++ gap inside)) ≡ byte_count (before qs t inside)
    front qs inside = ap (λ (u : List Token). byte_count u) (spec.front qs inside)

    back : byte_count (after t) ≡ 0
    back = ap (λ (u : List Token). byte_count u) spec.back

pub void-length : IsLength Void kind.Void kind.Void 4
void-length =
    core-length Void kind.Void 4 (record {
      front = λ qs inside. refl;
      back = refl;
      not_opened = refl;
      not_closed = refl;
    }) refl refl refl

qualified-length : (q : Qualifier) (u : Term) (k b : TypeKind) (n : ℕ) → IsLength u k b n
    → IsLength (Qualified q u) kind.Qualified b (capped (n + qualifier_bytes k b q false))
qualified-length q u k b n is = record {
  bare = bare-length (Qualified q u) _ (omega (arith, bare-known u k b n is, is.qualifier q [] false));
  around = by (is_bracketed b) (is_pointer k) refl refl;
  qualifier =
      λ r qs inside. is.qualifier r (qs ++ q ∷ []) inside
      ∙ ap (λ (m : ℕ). byte_count (before (qs ++ q ∷ []) u inside) + m) (alike r qs inside);
  parentheses = refl;
}
  where
    by : (x y : Bool) → is_bracketed b ≡ x → is_pointer k ≡ y
        → type_bytes (Qualified q u) true ≡ type_bytes (Qualified q u) false + space (has_gap kind.Qualified b)
    by x y ex ey = omega (arith, is.qualifier q [] false, is.qualifier q [] true, is.around, sum x y ex ey)
      where
        sum : (x y : Bool) → is_bracketed b ≡ x → is_pointer k ≡ y
            → space (has_gap k b) + qualifier_bytes k b q true
            ≡ qualifier_bytes k b q false + space (has_gap kind.Qualified b)
        sum true y ex ey = rw ex refl
        sum false true ex ey = rw (ex, ey) (omega arith)
        sum false false ex ey = rw (ex, ey) (omega arith)

    there : (qs : List Qualifier) (inside : Bool) → (has_elements (qs ++ q ∷ []) || inside) ≡ true
    there [] inside = refl
    there (r ∷ qs) inside = refl

    alike : (r : Qualifier) (qs : List Qualifier) (inside : Bool)
        → qualifier_bytes k b r (has_elements (qs ++ q ∷ []) || inside)
        ≡ qualifier_bytes kind.Qualified b r (has_elements qs || inside)
    alike r qs inside = rw (there qs inside) (last (is_pointer k))
      where
        last : (y : Bool) → (if is_bracketed b then 0 else length (qualifier_spelling r) + space (not y || true))
            ≡ (if is_bracketed b then 0 else length (qualifier_spelling r) + 1)
        last true = refl
        last false = refl

pointer-length : (u : Term) (k b : TypeKind) (n : ℕ) → IsLength u k b n
    → IsLength (Pointer u) kind.Pointer kind.Pointer
    (capped (n + space (has_gap k b) + (if is_bracketed k then 3 else 1)))
pointer-length u k b n is = record {
  bare = bare-length (Pointer u) _ (omega (arith, around-length u k b n is, whole false));
  around = omega (arith, whole true, whole false);
  qualifier = row;
  parentheses = refl;
}
  where
    star : (is_bracket : Bool) → (if is_bracket then 3 else 1) ≡ (if is_bracket then 2 else 0) + 1
    star true = refl
    star false = refl

    front : (qs : List Qualifier) (inside : Bool)
        → byte_count (before qs (Pointer u) inside)
        ≡ byte_count (before [] u true) + (byte_count (opening u) + (1 + byte_count (pointer_row qs inside)))
    front qs inside =
        omega (
          arith,
          count-append (before [] u true) (opening u ++ Star ∷ pointer_row qs inside),
          count-append
              (opening u) (Star ∷ pointer_row qs inside),
          count-cons Star (pointer_row qs inside),
        )

    whole : (inside : Bool) → type_bytes (Pointer u) inside ≡ type_bytes u true + (if is_bracketed k then 3 else 1)
    whole inside =
        omega (arith, front [] inside, count-append (closing u) (after u), is.parentheses, star (is_bracketed k))

    row : (q : Qualifier) (qs : List Qualifier) (inside : Bool)
        → byte_count (before (q ∷ qs) (Pointer u) inside)
        ≡ byte_count (before qs (Pointer u) inside)
        + qualifier_bytes kind.Pointer kind.Pointer q (has_elements qs || inside)
    row q qs inside =
        omega (
          arith,
          front (q ∷ qs) inside,
          front qs inside,
          count-cons (QualifierWord q) (gap (has_elements qs || inside) ++ pointer_row qs inside),
          count-append (gap (has_elements qs || inside)) (pointer_row qs inside),
          one (has_elements qs || inside),
        )
      where
        one : (more : Bool) → byte_count (gap more) ≡ space more
        one true = refl
        one false = refl

-- what comes before its declarator does not change with qualifiers, and there is no gap
bracketed-length : (t u : Term) (k b m : TypeKind) (n more : ℕ) → IsLength u k b n → is_bracketed m ≡ true
    → ((qs : List Qualifier) (inside : Bool) → before qs t inside ≡ before [] u true)
    → byte_count (after t) ≡ byte_count (after u) + more
    → byte_count (opening t) + byte_count (closing t) ≡ 2 → (bytes : ℕ)
    → capped bytes ≡ capped (n + space (has_gap k b) + more) → IsLength t m m (capped bytes)
bracketed-length t u k b m n more is is_bracket same behind parens bytes counted = record {
  bare = bare-length t _ (omega (arith, counted, around-length u k b n is, front [] false, behind));
  around = rw is_bracket (omega (arith, front [] false, front [] true));
  qualifier = λ q qs inside. rw is_bracket (omega (arith, front (q ∷ qs) inside, front qs inside));
  parentheses = rw is_bracket parens;
}
  where
    front : (qs : List Qualifier) (inside : Bool) → byte_count (before qs t inside) ≡ byte_count (before [] u true)
    front qs inside = ap (λ (x : List Token). byte_count x) (same qs inside)

pub same-length : (t : Term) (k k' b b' : TypeKind) (n n' : ℕ) → k' ≡ k → b' ≡ b → n' ≡ n → IsLength t k b n
    → IsLength t k' b' n'
same-length t k k' b b' n n' kinds bases numbers is = rw (kinds, bases, numbers) is

abbrev core-count : Option Term → ℕ
core-count None = 0
core-count (Some t) = byte_count (core t)

abbrev written-count : Option CDeclaration → ℕ
written-count None = 0
written-count (Some d) = length (written d)

counts-length : (counts : List (Option ℕ))
    → byte_count (flat_map count_tokens counts) ≡ sum_by count_bytes counts
counts-length [] = refl
counts-length (c ∷ cs) =
    count-append (count_tokens c) (flat_map count_tokens cs)
    ∙ ap (λ (m : ℕ). byte_count (count_tokens c) + m) (counts-length cs)
    ∙ sym (sum_by-cons count_bytes c cs)

plain-body : (b : BodyOf)
    → (is_bracketed (kind_in (Some (body b))) ≡ false) × (is_pointer (kind_in (Some (body b))) ≡ false)
plain-body (aggregate word odd ms) = (refl, refl)
plain-body (enumeration odd es) = (refl, refl)

module _ (term : TypeAt → Option Term) (known : TypeAt → Summary) where
  -- what is counted for a shape is right
  pub shape-length : (s : ShapeOf) (t : Term) → All (Tells term known) (types_reached s) → term_by term s ≡ Some t
      → IsLength t (kind_in (Some s)) (base_kind known s) (capped (shape_bytes known s))
  shape-length (base (Some name)) t all e =
      core-length t kind.Other (length name) (specifier-of term (base (Some name)) t refl e)
      (sym (ap (λ (u : List ℕ). length u) (base-core name t e)) ∙ omega (arith, count-cons (Identifier name) []))
      refl refl
  shape-length (typedef (Some name)) t all e =
      core-length t kind.Typedef (length name) (specifier-of term (typedef (Some name)) t refl e)
      (ap (λ (o : Option Term). core-count o) (sym e) ∙ omega (arith, count-cons (Identifier name) [])) refl refl
  shape-length (qualified q at) t all e =
      map_holds (λ (x : Term). IsLength x kind.Qualified (known at).base (capped (shape_bytes known (qualified q at))))
      (Qualified q) (term at)
      (λ u is. qualified-length q u (known at).kind (known at).base (known at).length
      (first-of (Tells term known) at [] all u is)) t e
  shape-length (pointer at) t all e =
      map_holds (λ (x : Term). IsLength x kind.Pointer kind.Pointer (capped (shape_bytes known (pointer at)))) Pointer
      (term at)
      (λ u is. pointer-length u (known at).kind (known at).base (known at).length
      (first-of (Tells term known) at [] all u is)) t e
  shape-length (array (c ∷ cs) strange at) t all e =
      let m = kind_in (Some (array (c ∷ cs) strange at)) in
      let P : Term → Type 0 = λ x. IsLength x m m (capped (shape_bytes known (array (c ∷ cs) strange at))) in
      unless_holds P (is_miscounted (c ∷ cs)) _ (λ placed. map_holds P (nested_arrays (c ∷ cs)) (term at) (λ u is.
      bracketed-length (nested_arrays (c ∷ cs) u) u (known at).kind (known at).base m (known at).length
      (sum_by count_bytes (c ∷ cs))
      (first-of (Tells term known) at [] all u is) refl (λ qs inside. before-arrays cs u)
      (omega (
        arith,
        ap (λ (x : List Token). byte_count x) (after-arrays (c ∷ cs) u),
        count-append
            (flat_map count_tokens (c ∷ cs)) (after u),
        counts-length (c ∷ cs),
      ))
      refl (shape_bytes known (array (c ∷ cs) strange at)) refl)) t e
  shape-length (function at None) t all e =
      map_holds (λ (x : Term). IsLength x kind.Function kind.Function (capped (shape_bytes known (function at None))))
      (λ (u : Term). Function u Unprototyped) (term at)
      (λ u is. bracketed-length (Function u Unprototyped) u (known at).kind (known at).base kind.Function
      (known at).length 2
      (first-of (Tells term known) at [] all u is) refl (λ qs inside. refl)
      (omega (arith, count-cons Open (Close ∷ after u), count-cons Close (after u)))
      refl (shape_bytes known (function at None)) refl) t e
  shape-length (function at (Some ps)) t all e =
      let f = function-parts term at ps t e in
      let signature = signature_tokens (Prototyped f.parameters (has_more ps)) in
      let P : Term → Type 0 = λ x. IsLength x kind.Function kind.Function
      (capped (shape_bytes known (function at (Some ps)))) in
      let counted = signature-length term known ps f.parameters f.placed
      (others-of (Tells term known) at (parameter_types ps) all) f.are_parameters in
      subst P f.is
      (bracketed-length (Function f.result (Prototyped f.parameters (has_more ps))) f.result (known at).kind
      (known at).base kind.Function (known at).length (byte_count signature + 2)
      (first-of (Tells term known) at (parameter_types ps) all f.result f.is_result) refl (λ qs inside. refl)
      (omega (
        arith,
        count-cons Open (signature ++ Close ∷ after f.result),
        count-append signature
            (Close ∷ after f.result),
        count-cons Close (after f.result),
      ))
      refl (shape_bytes known (function at (Some ps))) (omega (arith, counted)))
  shape-length (tagged word name) t all e =
      core-length t kind.Other (tag_bytes word (Some name)) (specifier-of term (tagged word name) t refl e)
      (ap (λ (o : Option Term). core-count o) (sym e)
      ∙ omega (
        arith,
        count-cons (TagWord word) (Blank ∷ Identifier name ∷ []),
        count-cons Blank
            (Identifier name ∷ []),
        count-cons (Identifier name) [],
      )) refl refl
  shape-length (body b) t all e =
      let k = kind_in (Some (body b)) in
      let f = map_inverted Unnamed (body_by term b) t e in
      let own = byte_count (core t) in
      let long = ap (λ (u : Term). byte_count (core u)) f.2 in
      let none : byte_count (front_tokens None) ≡ 0 = refl in
      let same : capped (shape_bytes known (body b)) ≡ capped own =
      omega (arith, body-length term known b f.0 None all f.1, none, long) in
      subst (λ (n : ℕ). IsLength t k k n) (sym same)
      (core-length t k own (specifier-of term (body b) t refl e) refl (plain-body b).0 (plain-body b).1)
  shape-length _ t all e = absurd (cc)

  -- and for a declaration
  pub declared-length : (subject : SubjectOf) (d : CDeclaration) → All (Tells term known) (types_declared subject)
      → declaration_by term subject ≡ Some d
      → capped (declared_bytes known subject) ≡ capped (length (written d))
  declared-length (typedef_subject (Some name) at) d all e =
      map_holds (λ (d : CDeclaration). capped (declared_bytes known (typedef_subject (Some name) at))
      ≡ capped (length (written d))) (Typedef name) (term at) (λ t is.
      let text = spell [] t (Identifier name ∷ []) in
      let own = named-length term known t at (Some name) (first-of (Tells term known) at [] all t is) in
      let a = count-append (TypedefWord ∷ Blank ∷ []) (text ++ Semicolon ∷ []) in
      omega (arith, own, a, count-append text (Semicolon ∷ []))) d e
  declared-length (variable_subject (Some name) at) d all e =
      map_holds (λ (d : CDeclaration). capped (declared_bytes known (variable_subject (Some name) at))
      ≡ capped (length (written d))) (Variable name) (term at) (λ t is.
      let text = spell [] t (Identifier name ∷ []) in
      let own = named-length term known t at (Some name) (first-of (Tells term known) at [] all t is) in
      omega (arith, own, count-append text (Semicolon ∷ []))) d e
  declared-length (defined_subject (Some name) b) d all e =
      map_holds (λ (d : CDeclaration). capped (declared_bytes known (defined_subject (Some name) b))
      ≡ capped (length (written d))) (Defined name) (body_by term b) (λ u are.
      omega (
        arith,
        body-length term known b u (Some name) all are,
        count-cons (Identifier name) (Blank ∷ []),
        count-append (body_tokens (Some name) u) (Semicolon ∷ []),
      )) d e
  declared-length (declared_subject word (Some name)) d all e =
      let a = count-cons (TagWord word) (Blank ∷ Identifier name ∷ Semicolon ∷ []) in
      ap (λ (n : ℕ). capped n) (omega
      (arith, a, count-cons Blank (Identifier name ∷ Semicolon ∷ []), count-cons (Identifier name) (Semicolon ∷ [])))
      ∙ ap (λ (o : Option CDeclaration). capped (written-count o)) e
  declared-length _ d all e = absurd (cc)

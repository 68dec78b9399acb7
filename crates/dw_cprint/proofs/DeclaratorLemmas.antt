-- The text of a type is what stands before its declarator, the declarator, and what stands behind it.
use Rattle.std.proofs.Common.{◌≡◌, ℕ, Bool, true, List, [], ◌∷◌, ◌++◌, Option, Some, None, refl, sym, ap, ◌∙◌, append_assoc}
use Rattle.std.specs.Prelude.{◌||◌}
use Rattle.std.proofs.lemmas.List.{append-nil}
use Rattle.dw_types.specs.Sizes.{has_elements}
use Rattle.dw_cprint.specs.Terms.{Qualifier, Term, Void, Named, Basic, Tagged, Unnamed, Qualified, Pointer, Array, Function}
use Rattle.dw_cprint.specs.Tokens.{Token, Blank, Star, Open, Close, VoidWord, TagWord, QualifierWord, Identifier, LeftBracket, RightBracket, Number}
use Rattle.dw_cprint.specs.Writing.{spell, spaced, qualifying, qualified_declarator, basic, enclosed, count_tokens, body_tokens, signature_tokens}
use Rattle.dw_cprint.specs.Declarators.{gap, pointer_row, opening, closing, before, after}

spaced-gap : (d : List Token) → spaced d ≡ gap (has_elements d) ++ d
spaced-gap [] = refl
spaced-gap (x ∷ d) = refl

there-append : (a b : List Token) → has_elements (a ++ b) ≡ has_elements a || has_elements b
there-append [] b = refl
there-append (x ∷ a) b = refl

there-row : (qs : List Qualifier) (inside : Bool) → has_elements (pointer_row qs inside) ≡ has_elements qs
there-row [] inside = refl
there-row (q ∷ qs) inside = refl

qualified-row : (qs : List Qualifier) (d : List Token)
    → qualified_declarator qs d ≡ pointer_row qs (has_elements d) ++ d
qualified-row [] d = refl
qualified-row (q ∷ qs) d =
    let inner = qualified-row qs d in
    let outer : spaced (qualified_declarator qs d)
    ≡ gap (has_elements qs || has_elements d) ++ (pointer_row qs (has_elements d) ++ d) =
    rw inner (spaced-gap (pointer_row qs (has_elements d) ++ d)
    ∙ rw (there-append (pointer_row qs (has_elements d)) d, there-row qs (has_elements d)) refl) in
    ap (λ (u : List Token). QualifierWord q ∷ u) (outer
    ∙ sym (append_assoc (gap (has_elements qs || has_elements d)) (pointer_row qs (has_elements d)) d))

enclosed-open : (t : Term) (d : List Token) → enclosed t d ≡ opening t ++ (d ++ closing t)
enclosed-open (Array n t) d = refl
enclosed-open (Function t s) d = refl
enclosed-open _ d = sym (append-nil d)

there-enclosed : (t : Term) (x : Token) (d : List Token) → has_elements (enclosed t (x ∷ d)) ≡ true
there-enclosed (Array n t) x d = refl
there-enclosed _ x d = refl

there-behind : (d : List Token) (x : Token) (e : List Token) → has_elements (d ++ x ∷ e) ≡ true
there-behind [] x e = refl
there-behind (y ∷ d) x e = refl

there-count : (d : List Token) (n : Option ℕ) → has_elements (d ++ count_tokens n) ≡ true
there-count d None = there-behind d LeftBracket (RightBracket ∷ [])
there-count d (Some n) = there-behind d LeftBracket (Number n ∷ RightBracket ∷ [])

-- a specifier with a declarator that may be empty
parts-many : (front core d : List Token)
    → front ++ (core ++ spaced d) ≡ (front ++ (core ++ gap (has_elements d))) ++ (d ++ [])
parts-many front core d = rw (spaced-gap d) (simp (append_assoc, append-nil))

pointed : (t : Term) (qs : List Qualifier) (d : List Token) (b : Bool → List Token) (a : List Token)
    → b (has_elements (enclosed t (Star ∷ qualified_declarator qs d)))
    ++ (enclosed t (Star ∷ qualified_declarator qs d) ++ a)
    ≡ (b true ++ (opening t ++ Star ∷ pointer_row qs (has_elements d))) ++ (d ++ (closing t ++ a))
pointed t qs d b a =
    rw (
      there-enclosed t Star (qualified_declarator qs d),
      enclosed-open t (Star ∷ qualified_declarator qs d),
      qualified-row qs d,
    ) (simp append_assoc)

counted : (n : Option ℕ) (b : Bool → List Token) (a d : List Token)
    → b (has_elements (d ++ count_tokens n)) ++ ((d ++ count_tokens n) ++ a) ≡ b true ++ (d ++ (count_tokens n ++ a))
counted n b a d = rw (there-count d n) (simp append_assoc)

called : (b : Bool → List Token) (s a d : List Token)
    → b (has_elements (d ++ Open ∷ (s ++ Close ∷ []))) ++ ((d ++ Open ∷ (s ++ Close ∷ [])) ++ a)
    ≡ b true ++ (d ++ Open ∷ (s ++ Close ∷ a))
called b s a d = rw (there-behind d Open (s ++ Close ∷ [])) (simp append_assoc)

-- the text of a type in its parts
pub in_parts : (qs : List Qualifier) (t : Term) (d : List Token)
    → spell qs t d ≡ before qs t (has_elements d) ++ (d ++ after t)
in_parts qs Void d = parts-many (qualifying qs) (VoidWord ∷ []) d
in_parts qs (Named name) d = parts-many (qualifying qs) (Identifier name ∷ []) d
in_parts qs (Basic words) d = parts-many (qualifying qs) (basic words) d
in_parts qs (Tagged tag name) d = parts-many (qualifying qs) (TagWord tag ∷ Blank ∷ Identifier name ∷ []) d
in_parts qs (Unnamed b) d = parts-many (qualifying qs) (body_tokens None b) d
in_parts qs (Qualified q t) d = in_parts (qs ++ q ∷ []) t d
in_parts qs (Pointer t) d =
    let inner = in_parts [] t (enclosed t (Star ∷ qualified_declarator qs d)) in
    inner ∙ pointed t qs d (before [] t) (after t)
in_parts qs (Array n t) d =
    let inner = in_parts [] t (d ++ count_tokens n) in
    inner ∙ counted n (before [] t) (after t) d
in_parts qs (Function t s) d =
    let inner = in_parts [] t (d ++ Open ∷ (signature_tokens s ++ Close ∷ [])) in
    inner ∙ called (before [] t) (signature_tokens s) (after t) d

-- The tokens of declarators and qualifiers are read as what they were written from.
use Rattle.std.proofs.Common.{rules, arith, ◌≡◌, ℕ, Bool, true, false, List, [], ◌∷◌, ◌++◌, Option, Some, None, refl, ◌∙◌, ap, append_assoc, append-nil}
use Rattle.std.proofs.lemmas.Grind.{common_steps}
use Rattle.dw_cprint.specs.Terms.{Qualifier, TypeWord, Term, Basic, Qualified, Pointer, Array, Function, Signature}
use Rattle.dw_cprint.specs.Tokens.{Token, Blank, Star, Open, Close, LeftBracket, RightBracket, Semicolon, Colon, Comma, Identifier, Number}
use Rattle.dw_cprint.specs.Writing.{spaced, qualifying, qualified_declarator, basic, enclosed, count_tokens, name_tokens, signature_tokens}
use Rattle.dw_cprint.specs.Legible.{IsIdentifier, IsName, IsQualifiable}
use Rattle.dw_cprint.specs.Reading.{Shape, same, ReaderPlace, OfFirst, After, Grouped, Before, Inside, Behind, End, AtClose, AtComma, AtSemicolon, AtColon, ended, finished}
use Rattle.dw_cprint.proofs.LexingLemmas.{checked, checked-name}

-- the tokens at which a declarator ends
abbrev pub end_tokens : End → List Token
end_tokens AtClose = Close ∷ []
end_tokens AtComma = Comma ∷ []
end_tokens AtSemicolon = Semicolon ∷ []
end_tokens AtColon = Blank ∷ Colon ∷ []

-- a type under qualifiers, the first outermost
abbrev pub qualified : List Qualifier → Shape
qualified [] t = t
qualified (q ∷ qs) t = Qualified q (qualified qs t)

-- DECLARATORS

-- The declarator d reads as this name and shape, where it ends,
abbrev pub Ends : List Token → Option (List ℕ) → Shape → Type 0
Ends d name shape = (q p : Shape) (place : ReaderPlace) (end : End) (r : List Token)
    → checked false (Inside q p place) (d ++ (end_tokens end ++ r))
    ≡ checked false (finished end name (λ t. shape (q (p t))) place) r

-- where an array or a function goes on,
abbrev pub bracket : Bool → Token
bracket true = LeftBracket
bracket false = Open

abbrev pub GoesOn : List Token → Option (List ℕ) → Shape → Type 0
GoesOn d name shape = (q p : Shape) (place : ReaderPlace) (square : Bool) (r : List Token)
    → checked false (Inside q p place) (d ++ bracket square ∷ r)
    ≡ checked false (Behind name (λ t. q (p t)) shape place) (bracket square ∷ r)

-- and wherever it stands.
abbrev pub Closed : List Token → Option (List ℕ) → Shape → Type 0
Closed d name shape = (q p : Shape) (place : ReaderPlace) (r : List Token)
    → checked false (Inside q p place) (d ++ r) ≡ checked false (Behind name (λ t. q (p t)) shape place) r

closed_end : (touching : Bool) (name : Option (List ℕ)) (p s : Shape) (place : ReaderPlace) (end : End) (r : List Token)
    → checked touching (Behind name p s place) (end_tokens end ++ r)
    ≡ checked false (finished end name (λ t. s (p t)) place) r
closed_end touching name p s place AtClose r = refl
closed_end touching name p s place _ r = refl

ends_closed : (d : List Token) (name : Option (List ℕ)) (shape : Shape) → Closed d name shape → Ends d name shape
ends_closed d name shape h q p place end r =
    h q p place (end_tokens end ++ r) ∙ closed_end false name (λ t. q (p t)) shape place end r

ends_nothing : Ends [] None same
ends_nothing q p place AtClose r = refl
ends_nothing q p place _ r = refl

goes_on_nothing : GoesOn [] None same
goes_on_nothing q p place true r = refl
goes_on_nothing q p place false r = refl

ends_name : (name : List ℕ) → IsIdentifier name → Ends (Identifier name ∷ []) (Some name) same
ends_name name h q p place end r =
    checked-name name h (Inside q p place) (end_tokens end ++ r)
    ∙ closed_end true (Some name) (λ t. q (p t)) same place end r

goes_on_name : (name : List ℕ) → IsIdentifier name → GoesOn (Identifier name ∷ []) (Some name) same
goes_on_name name h q p place true r = checked-name name h (Inside q p place) (LeftBracket ∷ r)
goes_on_name name h q p place false r = checked-name name h (Inside q p place) (Open ∷ r)

-- The declarator d may stand in the text of t.
abbrev pub Stands : Term → List Token → Option (List ℕ) → Shape → Type 0
Stands (Array n t) d name shape = GoesOn d name shape
Stands (Function t signature) d name shape = GoesOn d name shape
Stands _ d name shape = Ends d name shape

pub stands_closed : (t : Term) (d : List Token) (name : Option (List ℕ)) (shape : Shape) → Closed d name shape
    → Stands t d name shape
stands_closed (Array n t) d name shape h = λ q p place square r. h q p place (bracket square ∷ r)
stands_closed (Function t signature) d name shape h = λ q p place square r. h q p place (bracket square ∷ r)
stands_closed _ d name shape h = ends_closed d name shape h

stands_both : (t : Term) (d : List Token) (name : Option (List ℕ)) (shape : Shape) → Ends d name shape
    → GoesOn d name shape → Stands t d name shape
stands_both (Array n t) d name shape h g = g
stands_both (Function t signature) d name shape h g = g
stands_both _ d name shape h g = h

pub stands_nothing : (t : Term) → Stands t [] None same
stands_nothing t = stands_both t [] None same ends_nothing goes_on_nothing

pub stands_name : (t : Term) (name : Option (List ℕ)) → IsName name → Stands t (name_tokens name) name same
stands_name t None h = stands_nothing t
stands_name t (Some name) h =
    stands_both t (Identifier name ∷ []) (Some name) same (ends_name name h) (goes_on_name name h)

-- what is qualified is no array and no function
pub stands_qualifiable : (t : Term) (d : List Token) (name : Option (List ℕ)) (shape : Shape) → IsQualifiable t
    → Ends d name shape → Stands t d name shape
stands_qualifiable (Array n t) d name shape h e = absurd h
stands_qualifiable (Function t signature) d name shape h e = absurd h
stands_qualifiable _ d name shape h e = e

closed_group : (d : List Token) (name : Option (List ℕ)) (shape : Shape) → Ends (Star ∷ d) name shape
    → Closed (Open ∷ (Star ∷ d ++ Close ∷ [])) name shape
closed_group d name shape h q p place r =
    rw (append_assoc d (Close ∷ []) r) (h same same (Grouped (λ t. q (p t)) place) AtClose r)

pub closed_count : (n : Option ℕ) (d : List Token) (name : Option (List ℕ)) (shape : Shape)
    → GoesOn d name shape
    → Closed (d ++ count_tokens n) name (λ t. shape (Array n t))
closed_count None d name shape h q p place r =
    rw (append_assoc d (count_tokens None) r) (h q p place true (RightBracket ∷ r))
closed_count (Some n) d name shape h q p place r =
    rw (append_assoc d (count_tokens (Some n)) r) (h q p place true (Number n ∷ RightBracket ∷ r))

-- The signature's tokens read as the signature.
abbrev pub ReadsSignature : Signature → Type 0
ReadsSignature signature = (name : Option (List ℕ)) (p s : Shape) (place : ReaderPlace) (r : List Token)
    → checked false (Before same (OfFirst name p s place)) (signature_tokens signature ++ Close ∷ r)
    ≡ checked false (Behind name p (λ t. s (Function t signature)) place) r

pub closed_signature : (signature : Signature) (d : List Token) (name : Option (List ℕ)) (shape : Shape)
    → ReadsSignature signature → GoesOn d name shape
    → Closed (d ++ Open ∷ (signature_tokens signature ++ Close ∷ [])) name (λ t. shape (Function t signature))
closed_signature signature d name shape reads h q p place r =
    let tokens = signature_tokens signature in
    rw (append_assoc d (Open ∷ (tokens ++ Close ∷ [])) r, append_assoc tokens (Close ∷ []) r)
    (h q p place false (tokens ++ Close ∷ r) ∙ reads name (λ t. q (p t)) shape place r)

-- SPACES AND QUALIFIERS

-- a space before a declarator changes nothing
spaced_end : (d : List Token) (touching : Bool) (q p : Shape) (place : ReaderPlace) (end : End) (r : List Token)
    → checked touching (Inside q p place) (spaced d ++ (end_tokens end ++ r))
    ≡ checked false (Inside q p place) (d ++ (end_tokens end ++ r))
spaced_end [] touching q p place AtClose r = refl
spaced_end [] touching q p place _ r = refl
spaced_end (t ∷ ts) touching q p place end r = refl

-- after the type that a declarator stands around
pub core_end : (d : List Token) (name : Option (List ℕ)) (shape : Shape) → Ends d name shape
    → (touching : Bool) (q : Shape) (t : Term) (place : ReaderPlace) (end : End) (r : List Token)
    → checked touching (Inside same same (After q t place)) (spaced d ++ (end_tokens end ++ r))
    ≡ checked false (ended end name (shape (q t)) place) r
core_end d name shape h touching q t place end r =
    spaced_end d touching same same (After q t place) end r ∙ h same same (After q t place) end r

qualified_end : (qs : List Qualifier) (d : List Token) (name : Option (List ℕ)) (shape : Shape) → Ends d name shape
    → (q p : Shape) (place : ReaderPlace) (end : End) (r : List Token)
    → checked false (Inside q p place) (qualified_declarator qs d ++ (end_tokens end ++ r))
    ≡ checked false (finished end name (λ t. shape (q (qualified qs (p t)))) place) r
qualified_end [] d name shape h q p place end r = h q p place end r
qualified_end (x ∷ qs) d name shape h q p place end r =
    spaced_end (qualified_declarator qs d) true (λ t. q (Qualified x t)) p place end r
    ∙ qualified_end qs d name shape h (λ t. q (Qualified x t)) p place end r

pub ends_pointer : (qs : List Qualifier) (d : List Token) (name : Option (List ℕ)) (shape : Shape) → Ends d name shape
    → Ends (Star ∷ qualified_declarator qs d) name (λ t. shape (qualified qs (Pointer t)))
ends_pointer qs d name shape h q p place end r =
    qualified_end qs d name shape h same (λ t. Pointer (q (p t))) place end r

pub stands_enclosed : (t : Term) (d : List Token) (name : Option (List ℕ)) (shape : Shape) → Ends (Star ∷ d) name shape
    → Stands t (enclosed t (Star ∷ d)) name shape
stands_enclosed (Array n t) d name shape h =
    stands_closed (Array n t) (enclosed (Array n t) (Star ∷ d)) name shape (closed_group d name shape h)
stands_enclosed (Function t s) d name shape h =
    stands_closed (Function t s) (enclosed (Function t s) (Star ∷ d)) name shape (closed_group d name shape h)
stands_enclosed _ d name shape h = h

qualifying_read : (qs : List Qualifier) (q : Shape) (place : ReaderPlace) (r : List Token)
    → checked false (Before q place) (qualifying qs ++ r) ≡ checked false (Before (λ t. q (qualified qs t)) place) r
qualifying_read [] q place r = refl
qualifying_read (x ∷ qs) q place r = qualifying_read qs (λ t. q (Qualified x t)) place r

-- the qualifiers before the tokens ts of a type
pub after_qualifiers : (qs : List Qualifier) (place : ReaderPlace) (ts r : List Token)
    → checked false (Before same place) ((qualifying qs ++ ts) ++ r)
    ≡ checked false (Before (qualified qs) place) (ts ++ r)
after_qualifiers qs place ts r = grind (arith, common_steps, checked, append_assoc, qualifying_read)

pub qualified-snoc : (qs : List Qualifier) (x : Qualifier) (t : Term)
    → qualified (qs ++ x ∷ []) t ≡ qualified qs (Qualified x t)
qualified-snoc [] x t = refl
qualified-snoc (q ∷ qs) x t = ap (Qualified q) (qualified-snoc qs x t)

-- further words of a basic type
pub words_read : (words : List TypeWord) (before : List TypeWord) (q : Shape) (place : ReaderPlace) (d : List Token)
    (name : Option (List ℕ)) (shape : Shape)
    → Ends d name shape → (end : End) (r : List Token)
    → checked true (Inside same same (After q (Basic before) place))
    (spaced (basic words) ++ (spaced d ++ (end_tokens end ++ r)))
    ≡ checked false (ended end name (shape (q (Basic (before ++ words)))) place) r
words_read [] before q place d name shape h end r = search (rules, core_end, checked, append-nil)
words_read (w ∷ words) before q place d name shape h end r =
    words_read words (before ++ w ∷ []) q place d name shape h end r
    ∙ ap (λ (ws : List TypeWord). checked false (ended end name (shape (q (Basic ws))) place) r)
    (append_assoc before (w ∷ []) words)

-- State: the text of a type in two parts: before its declarator, and after it.
use Rattle.std.specs.Prelude.{Bool, true, false, ◌||◌, List, [], ◌∷◌, ◌++◌, None}
use Rattle.dw_types.specs.Sizes.{has_elements}
use Rattle.dw_cprint.specs.Terms.{Qualifier, Term, Void, Named, Basic, Tagged, Unnamed, Qualified}
use Rattle.dw_cprint.specs.Terms.{Pointer, Array, Function}
use Rattle.dw_cprint.specs.Tokens.{Token, Blank, Star, Open, Close, VoidWord, TagWord, QualifierWord, Identifier, Comma}
use Rattle.dw_cprint.specs.Writing.{basic, body_tokens, count_tokens, qualifying, signature_tokens}

-- a space, where a declarator that is not empty comes inside
abbrev pub gap : Bool → List Token
gap false = []
gap true = Blank ∷ []

-- a comma and a space, where others come before
abbrev pub comma : Bool → List Token
comma false = []
comma true = Comma ∷ Blank ∷ []

-- the qualifiers of a pointer, joined by spaces, and one after them where a declarator follows
abbrev pub pointer_row : List Qualifier → Bool → List Token
pointer_row [] inside = []
pointer_row (q ∷ qs) inside = QualifierWord q ∷ (gap (has_elements qs || inside) ++ pointer_row qs inside)

-- the parenthesis before the star of a pointer to t: an array's or a function's brackets would bind before the star
abbrev pub opening : Term → List Token
opening (Array n t) = Open ∷ []
opening (Function t signature) = Open ∷ []
opening _ = []

-- the parenthesis that closes the one of `opening`
abbrev pub closing : Term → List Token
closing (Array n t) = Close ∷ []
closing (Function t signature) = Close ∷ []
closing _ = []

-- the specifier that a type is without its qualifiers; nothing, where a declarator belongs to the type
abbrev pub core : Term → List Token
core Void = VoidWord ∷ []
core (Named name) = Identifier name ∷ []
core (Basic words) = basic words
core (Tagged tag name) = TagWord tag ∷ Blank ∷ Identifier name ∷ []
core (Unnamed b) = body_tokens None b
core _ = []

-- what comes before the declarator of the type t under the qualifiers
abbrev pub before : List Qualifier → Term → Bool → List Token
before qs (Qualified q t) inside = before (qs ++ q ∷ []) t inside
before qs (Pointer t) inside = before [] t true ++ (opening t ++ Star ∷ pointer_row qs inside)
before qs (Array n t) inside = before [] t true
before qs (Function t signature) inside = before [] t true
before qs t inside = qualifying qs ++ (core t ++ gap inside)

-- what comes after it
abbrev pub after : Term → List Token
after (Qualified q t) = after t
after (Pointer t) = closing t ++ after t
after (Array n t) = count_tokens n ++ after t
after (Function t signature) = Open ∷ (signature_tokens signature ++ Close ∷ after t)
after _ = []

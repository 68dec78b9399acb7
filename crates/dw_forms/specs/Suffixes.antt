-- State: attributes of a declaration: all of them, or those from one on.
use Rattle.std.specs.Borrow.{Bor}
use Rattle.std.specs.Prelude.{◌≡◌, List, [], ◌∷◌, Bool, Option, Some, None}
use Rattle.dw_forms.specs.declared.abbrev.AttributeSpec.{AttributeSpec}
pub use Rattle.dw_forms.specs.declared.attributes.Attributes.{Attributes}
use Rattle.dw_forms.specs.declared.decl.DeclAt.{DeclAt}
use Rattle.dw_forms.specs.Chains.{Numbered, items_of, number_where}
use Rattle.dw_forms.specs.AttributeLists.{numbered_in, EndsWith, Node}
use Rattle.dw_forms.specs.LeadingWalks.{IsFirstStep, Step}

-- all attributes that are kept
abbrev pub nodes_of : Attributes → List Node
nodes_of a = a.lists.now.nodes.items

-- the attributes with their numbers
abbrev pub numbered : Attributes → List (Numbered AttributeSpec)
numbered a = numbered_in (nodes_of a) a.first

-- the attributes
abbrev pub specs_in : Attributes → List AttributeSpec
specs_in a = items_of (numbered a)

-- the attributes of a declaration with their numbers
abbrev pub numbered_of : DeclAt → List (Numbered AttributeSpec)
numbered_of d = numbered_in d.lists.now.nodes.items d.kept.now.first

-- the attributes are these, and then the others
pub record Ends (all others : Attributes) (before : List (Numbered AttributeSpec)) : Type 0 where
  pub nodes : nodes_of others ≡ nodes_of all
  pub parts : EndsWith (nodes_of all) all.first others.first before

-- the attributes from the first one on that passes the test, or none
pub record IsFrom (test : AttributeSpec → Bool) (all found : Attributes) : Type 0 where
  pub nodes : nodes_of found ≡ nodes_of all
  pub first : found.first ≡ number_where test (numbered all)

-- the first attribute, and those after it; or there are none
abbrev pub IsSplitFirst : Attributes → Option (AttributeSpec × Attributes) → Type 0
IsSplitFirst all None = specs_in all ≡ []
IsSplitFirst all (Some found) = Ends all found.1 (record { number = all.first; item = found.0 } ∷ [])

-- the first attribute, those after it, and the first step in those; or there are none
abbrev pub IsSplitStep : Attributes → Option (AttributeSpec × Attributes × Bor Step) → Type 0
IsSplitStep all None = specs_in all ≡ []
IsSplitStep all (Some found) =
    Ends all found.1 (record { number = all.first; item = found.0 } ∷ []) × IsFirstStep (numbered found.1) found.2.now

-- State: lists of attributes, in which each attribute is kept once, with what is known of the values of a list before
-- any entry is read. A list is a chain of attributes.
use Rattle.std.specs.Prelude.{◌≡◌, ℕ, suc, ◌+◌, ◌-◌, ◌*◌, ◌<◌, ◌≤◌, ◌==◌, nat_lt, if◌then◌else◌, List, [], ◌∷◌, ◌++◌}
use Rattle.std.specs.Prelude.{length, map, take, drop, get_or, Bool, true, false, Option, Some, None}
pub use Rattle.dw_forms.specs.declared.attribute_lists.Node.{Node}
use Rattle.dw_forms.specs.Abbrev.{AreAttributeSpecs}
use Rattle.dw_forms.specs.AbbrevReading.{has_attribute, AttributeSpec}
use Rattle.dw_forms.specs.Chains.{Numbered, items_of, chain_in, chains_of, codes_in, number_where, AreFound, Link}
use Rattle.dw_forms.specs.KnownValues.{known_sum, does_vary}
use Rattle.dw_forms.specs.Classes.{is_open}
use Rattle.dw_forms.specs.AttributeBits.{AreBitsOf}
use Rattle.dw_forms.specs.Sizes.{are_allowed}
use Rattle.dw_forms.specs.LeadingWalks.{IsFirstStep}

-- the attribute of the node
abbrev pub spec_of : Node → AttributeSpec
spec_of n = record { attribute = n.attribute; form = n.form }

-- the attributes, each with the number of the list after it
abbrev pub specs_of : List Node → List (AttributeSpec × ℕ)
specs_of nodes = map (λ (n : Node). (spec_of n, n.next)) nodes

-- how many attributes a short list has at most
abbrev pub SHORT : ℕ
SHORT = 32

-- the node as a link of its attribute's code, in a chain that ends where a short list begins
abbrev pub link_of : Node → Link
link_of n = record {
  code = n.attribute;
  branches = n.branches;
  rest = if nat_lt (suc SHORT) n.count then n.next else 0;
  run = 0;
  places = n.places;
}

-- all nodes as links
abbrev pub links_of : List Node → List Link
links_of nodes = map link_of nodes

-- the attributes of the list of this number, with their numbers
abbrev pub numbered_in : List Node → ℕ → List (Numbered AttributeSpec)
numbered_in nodes number = chain_in (chains_of (specs_of nodes)) number

-- the attributes of the list of this number
abbrev pub list_in : List Node → ℕ → List AttributeSpec
list_in nodes number = items_of (numbered_in nodes number)

-- the values of the attribute have no one size
abbrev pub varies : AttributeSpec → Bool
varies spec = does_vary spec.form

-- the attribute has this code
abbrev pub has_this : ℕ → AttributeSpec → Bool
has_this code spec = spec.attribute == code

-- this is known of a list: the next lists whose first attribute is of a kind, and the sum of the sizes of values, of
-- which some are addresses: each of them takes 8 bytes, or 4
pub record Knows (list : List (Numbered AttributeSpec)) (n : Node) : Type 0 where
  pub varying : n.next_varying ≡ number_where varies list
  pub next_open : n.next_open ≡ number_where is_open list
  pub known_with_8 : n.known_with_8 ≡ known_sum 8 (items_of list)
  pub known_with_4 : n.known_with_8 ≡ known_sum 4 (items_of list) + 4 * n.addresses
  pub small : n.known_with_8 ≤ 0xff * length list
  pub addresses : n.addresses ≤ length list
  pub bits : AreBitsOf (items_of list) n.bits
  pub count : n.count ≡ length list
  pub allowed : n.in_version_4 ≡ are_allowed 4 (items_of list)

-- the known sum of the sizes where addresses have this size
abbrev pub known_with : ℕ → Node → ℕ
known_with size n = n.known_with_8 - (8 - size) * n.addresses

-- the node of this number tells what is known of the list that begins with it, which list comes after it, and the
-- first step in that one
pub record IsKnown (nodes : List Node) (number : ℕ) (n : Node) : Type 0 where
  pub next : n.next < number
  pub begins : numbered_in nodes number ≡ record { number = number; item = spec_of n } ∷ numbered_in nodes n.next
  pub attributes : AreAttributeSpecs (list_in nodes number)
  pub knows : Knows (numbered_in nodes number) n
  pub after : IsFirstStep (numbered_in nodes n.next) n.after

-- each node tells what is known of its list
abbrev pub AreKnown : List Node → Type 0
AreKnown nodes = (k : ℕ) (n : Node) → k < length nodes → n ≡ get_or nodes k n → IsKnown nodes (suc k) n

-- the attributes of a list before its last 32
abbrev pub long_part : List (Numbered AttributeSpec) → List (Numbered AttributeSpec)
long_part list = take (length list - SHORT) list

-- the last 32
abbrev pub short_part : List (Numbered AttributeSpec) → List (Numbered AttributeSpec)
short_part list = drop (length list - SHORT) list

-- the codes of attributes, with their numbers
abbrev pub numbered_codes : List (Numbered AttributeSpec) → List (Numbered ℕ)
numbered_codes list = map (λ n. record { number = n.number; item = n.item.attribute }) list

-- the list of this number is the attributes of a chain and then those of a short list, which have these numbers
pub record IsJoined (nodes : List Node) (number chain short : ℕ) : Type 0 where
  pub codes : codes_in (links_of nodes) chain ≡ numbered_codes (long_part (numbered_in nodes number))
  pub rest : numbered_in nodes short ≡ short_part (numbered_in nodes number)
  pub within : short ≤ length nodes

-- a list that is not short is its own chain and the short list whose number comes before its branches
pub record IsLongList (branches : List ℕ) (nodes : List Node) (number : ℕ) (n : Node) : Type 0 where
  pub some : 0 < n.branches
  pub within : n.branches ≤ length branches
  pub joined : IsJoined nodes number number (get_or branches (n.branches - 1) 0)

-- the node of this number tells so, if its list is not short
abbrev pub HasShortRest : List ℕ → List Node → ℕ → Node → Type 0
HasShortRest branches nodes number n = SHORT < n.count → IsLongList branches nodes number n

-- attributes are found in these lists: by their branches, and in short lists one after another
pub record AreSearched (branches : List ℕ) (nodes : List Node) : Type 0 where
  pub found : AreFound branches (links_of nodes)
  pub rests : (k : ℕ) (n : Node) → k < length nodes → n ≡ get_or nodes k n → HasShortRest branches nodes (suc k) n

-- the node of this attribute before the list of this number, of which this is known, with these branches
pub record IsLongNode (rest : ℕ) (next : Node) (attribute : ℕ) (made : ℕ × ℕ) (n : Node) : Type 0 where
  pub attribute_is : n.attribute ≡ attribute
  pub next_is : n.next ≡ rest
  pub count_is : n.count ≡ next.count + 1
  pub branches_are : n.branches ≡ made.0
  pub places_are : n.places ≡ made.1

-- a node of this attribute before this list comes after the others
pub record IsLast (spec : AttributeSpec) (rest : ℕ) (old new : List Node) : Type 0 where
  pub node : Node
  pub spec_is : spec_of node ≡ spec
  pub next_is : node.next ≡ rest
  pub nodes : new ≡ old ++ node ∷ []

-- the attribute and the list of this number are a new list, unless the attribute is in that list
abbrev pub AddedSpec : AttributeSpec → ℕ → List Node → List Node → Option ℕ → Type 0
AddedSpec spec rest old new (Some number) =
    (has_attribute spec.attribute (list_in old rest) ≡ false) × (number ≡ suc (length old))
    × IsLast spec rest old new
AddedSpec spec rest old new None = (has_attribute spec.attribute (list_in old rest) ≡ true) × (new ≡ old)

-- the list of one number is these attributes, and then the list of another
abbrev pub EndsWith : List Node → ℕ → ℕ → List (Numbered AttributeSpec) → Type 0
EndsWith nodes from to before = numbered_in nodes from ≡ before ++ numbered_in nodes to

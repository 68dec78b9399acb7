-- State: what is kept of the attributes of a declaration.
use Rattle.std.specs.Prelude.{◌≡◌, ◌≤◌, ◌<◌, ◌+◌, ◌%◌, ◌^◌, ◌==◌, ℕ, Bool, false, Option}
use Rattle.std.specs.Prelude.{if◌then◌else◌, List, [], ◌∷◌, length, count_ones, get_or}
use Rattle.std.specs.Option.{ForSome}
use Rattle.std.specs.Int.{bit_at}
use Rattle.std.specs.List.{list_any}
pub use Rattle.dw_forms.specs.declared.known_places.KnownPlace.{KnownPlace}
use Rattle.dw_forms.specs.AttributeBits.{bit_of, own_bits, AreBitsOf}
use Rattle.dw_forms.specs.AttributeLists.{has_this, list_in, numbered_in, varies, Node}
use Rattle.dw_forms.specs.Chains.{Numbered, items_of, number_where}
use Rattle.dw_forms.specs.Codes.{DW_AT_declaration}
use Rattle.dw_forms.specs.KnownValues.{flag_in, known_sum, whole_in, AttributeSpec}
use Rattle.dw_forms.specs.LeadingWalks.{IsFirstStep, Step}

-- the attributes before the first one with this code, or all
abbrev pub before_code : ℕ → List AttributeSpec → List AttributeSpec
before_code code [] = []
before_code code (spec ∷ specs) = if spec.attribute == code then [] else spec ∷ before_code code specs

-- the values before the first attribute with this code have one size each, and this sum where addresses have 8 bytes
pub record AreTogether (list : List (Numbered AttributeSpec)) (code sum : ℕ) : Type 0 where
  pub sized : list_any varies (before_code code (items_of list)) ≡ false
  pub sum_is : sum ≡ known_sum 8 (before_code code (items_of list))

-- the place is that of the first attribute with this code
pub record IsPlaced (list : List (Numbered AttributeSpec)) (code : ℕ) (p : KnownPlace) : Type 0 where
  pub list_is : p.list ≡ number_where (has_this code) list
  pub before : ForSome p.at (AreTogether list code)

-- the place with this number among these is that of the first attribute with this code
abbrev pub IsPlacedAt : List (Numbered AttributeSpec) → ℕ → List KnownPlace → ℕ → Type 0
IsPlacedAt list code places number =
    (number < length places) × ((p : KnownPlace) → p ≡ get_or places number p → IsPlaced list code p)

-- the attributes whose bits are set have places from this one on, in the order of the bits, as far as these are below
-- this place
abbrev pub HavePlacesBelow : ℕ → List (Numbered AttributeSpec) → ℕ → ℕ → List KnownPlace → Type 0
HavePlacesBelow end list bits first places =
    (code : ℕ) → bit_of code < end → bit_at bits (bit_of code) ≡ 1
    → IsPlacedAt list code places (first + count_ones (bits % 2 ^ bit_of code))

-- the attributes with bits of their own that are set have places from this one on, in the order of the bits
abbrev pub HavePlaces : List (Numbered AttributeSpec) → ℕ → ℕ → List KnownPlace → Type 0
HavePlaces list bits first places = HavePlacesBelow own_bits list bits first places

-- the list of this number is kept, this is the first step in it, these are the bits of its attributes, and so much is
-- known of DW_AT_declaration and of the size of all values where addresses have 8 bytes
pub record HasList (nodes : List Node) (first : ℕ) (s : Step) (bits : ℕ) (known : Option Bool) (whole : Option ℕ)
    : Type 0 where
  pub within : first ≤ length nodes
  pub declared : known ≡ flag_in DW_AT_declaration (list_in nodes first)
  pub whole_is : whole ≡ whole_in 8 (list_in nodes first)
  pub step : IsFirstStep (numbered_in nodes first) s
  pub bits_are : AreBitsOf (list_in nodes first) bits

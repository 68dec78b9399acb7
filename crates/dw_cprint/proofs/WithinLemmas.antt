-- Each type that a shape or a declaration of an image names is an entry.
use Rattle.std.proofs.Common.{rules, ◌≡◌, ℕ, ◌<◌, Bool, true, false, List, [], ◌∷◌, Option, Some, None, refl, length, arith}
use Rattle.std.specs.Prelude.{option_and_then, All, flat_map, if◌then◌else◌}
use Rattle.std.specs.List.{cons_option, filter_map}
use Rattle.std.proofs.lemmas.List.Elements.{All-nil, All-cons, All-append}
use Rattle.std.proofs.lemmas.Option.{slice_get_within}
use Rattle.dw_entries.specs.Entries.{Entry}
use Rattle.dw_image.specs.References.{is_declared}
use Rattle.dw_image.specs.declared.image.Image.{Image}
use Rattle.dw_image.specs.Images.{entries_in, type_in}
use Rattle.dw_image.specs.Lookups.{type_number}
use Rattle.dw_cprint.specs.EntryShapes.{member_at, parameter_at, shape_in, subject_in, body_in, tag_in, tag_shape}
use Rattle.dw_cprint.specs.LookUps.{entry_by, type_at, children_at}
use Rattle.dw_cprint.specs.Shapes.{Parameter, Typed, More, TagKeyword, OfAggregate, Enum, function, Name, TypeAt, MemberOf, ShapeOf, nameless, body, SubjectOf, defined_subject}
use Rattle.dw_cprint.specs.Steps.{entries_among, parameter_types, member_types, types_reached, types_declared, first_steps}

one_within : (b : Bool) (n id to : ℕ) → id < n → (if b then Some id else None) ≡ Some to → to < n
one_within true n id to below is = (let same : id ≡ to = cc in omega arith)
one_within false n id to below is = absurd cc

number_within : (es : List Entry) (id to : ℕ) → type_number es id ≡ Some to → to < length es
number_within es id to is = search (rules, slice_get_within, one_within)

named_within : (es : List Entry) (at : Option ℕ) (to : ℕ) → option_and_then (type_number es) at ≡ Some to
    → to < length es
named_within es None to is = absurd cc
named_within es (Some id) to is = number_within es id to is

-- a type that an entry has is an entry
pub type_within : (image : Image) (id to : ℕ) → type_at image id ≡ Some to → to < length (entries_in image)
unfolding type_at type_in
type_within image id to is = search (rules, named_within)

-- the types are entries
pub record AreWithin (n : ℕ) (types : List (Option ℕ)) : Type 0 where
  pub all : All (λ to. to < n) (entries_among types)

-- those that a shape names are entries
abbrev pub NamesWithin : ℕ → ShapeOf → Type 0
NamesWithin n s = AreWithin n (types_reached s)

none_within : (n : ℕ) → AreWithin n []
none_within n = record { all = All-nil (λ to. to < n) }

more_within : (n : ℕ) (at : Option ℕ) (types : List (Option ℕ)) → ((to : ℕ) → at ≡ Some to → to < n) → AreWithin n types
    → AreWithin n (at ∷ types)
more_within n None types below rest = record { all = rest.all }
more_within n (Some to) types below rest =
    record { all = All-cons (λ to. to < n) to (entries_among types) (below to refl) rest.all }

member_more : (n : ℕ) (b : Bool) (m : MemberOf) (ms : List MemberOf) → ((to : ℕ) → m.type_at ≡ Some to → to < n)
    → AreWithin n (member_types ms)
    → AreWithin n (member_types (cons_option (if b then Some m else None) ms))
member_more n true m ms below rest = more_within n m.type_at (member_types ms) below rest
member_more n false m ms below rest = rest

parameter_more : (n : ℕ) (a b : Bool) (at : TypeAt) (ps : List Parameter) → ((to : ℕ) → at ≡ Some to → to < n)
    → AreWithin n (parameter_types ps)
    → AreWithin n (parameter_types (cons_option (if a then Some (Typed at) else if b then Some More else None) ps))
parameter_more n true b at ps below rest = more_within n at (parameter_types ps) below rest
parameter_more n false true at ps below rest = rest
parameter_more n false false at ps below rest = rest

if_within : {X : Type 0} (types : X → List (Option ℕ)) (n : ℕ) (b : Bool) (x y : X) → AreWithin n (types x)
    → AreWithin n (types y) → AreWithin n (types (if b then x else y))
if_within types n true x y one another = one
if_within types n false x y one another = another

module _ (image : Image) where
  abbrev n : ℕ
  n = length (entries_in image)

  type_more : (id : ℕ) (types : List (Option ℕ)) → AreWithin n types → AreWithin n (type_at image id ∷ types)
  type_more id types rest = more_within n (type_at image id) types (type_within image id) rest

  members_within : (ids : List ℕ) → AreWithin n (member_types (filter_map (member_at image) ids))
  members_within [] = none_within n
  members_within (id ∷ ids) =
      member_more n _ _ (filter_map (member_at image) ids) (type_within image id) (members_within ids)

  parameters_within : (ids : List ℕ) → AreWithin n (parameter_types (filter_map (parameter_at image) ids))
  parameters_within [] = none_within n
  parameters_within (id ∷ ids) =
      parameter_more n _ _ (type_at image id) (filter_map (parameter_at image) ids) (type_within image id)
      (parameters_within ids)

  function_within : (id : ℕ) (b : Bool) (ids : List ℕ)
      → NamesWithin n
      (function (type_at image id) (if b then Some (filter_map (parameter_at image) ids) else None))
  function_within id true ids =
      type_more id (parameter_types (filter_map (parameter_at image) ids)) (parameters_within ids)
  function_within id false ids = type_more id [] (none_within n)

  body_within : (id : ℕ) (word : TagKeyword) → NamesWithin n (body (body_in image id word))
  body_within id (OfAggregate word) = members_within (children_at image id)
  body_within id Enum = none_within n

  tag_within : (id : ℕ) (word : TagKeyword) (name : Name) → NamesWithin n (tag_shape image id word name)
  tag_within id word (Some name) = none_within n
  tag_within id word None =
      if_within types_reached n (is_declared (entry_by image id)) (nameless word) (body (body_in image id word))
      (none_within n)
      (body_within id word)

  -- those that a shape of an image names
  pub shape_within : (id : ℕ) → NamesWithin n (shape_in image id)
  unfolding shape_in
  shape_within id =
      search (rules, (if_within types_reached), none_within, type_more, function_within, tag_within) depth 20

  -- ---- the same of the entry that is declared

  abbrev pub DeclaresWithin : SubjectOf → Type 0
  DeclaresWithin s = AreWithin n (types_declared s)

  defined_within : (id : ℕ) (word : TagKeyword) (name : Name)
      → DeclaresWithin (defined_subject name (body_in image id word))
  defined_within id (OfAggregate word) name = members_within (children_at image id)
  defined_within id Enum name = none_within n

  worded_within : (id : ℕ) (o : Option TagKeyword) → DeclaresWithin (tag_in image id o)
  worded_within id None = none_within n
  worded_within id (Some word) = search (rules, (if_within types_declared), none_within, defined_within)

  -- those that a declaration of an image names
  pub subject_within : (id : ℕ) → DeclaresWithin (subject_in image id)
  unfolding subject_in
  subject_within id = search (rules, (if_within types_declared), none_within, type_more, worded_within)

  -- and so are the roots of some declarations
  pub roots_within : (ids : List ℕ) → All (λ to. to < n) (flat_map (λ id. first_steps (subject_in image id)) ids)
  roots_within [] = All-nil (λ to. to < n)
  roots_within (id ∷ ids) =
      All-append (λ to. to < n) (first_steps (subject_in image id)) _ (subject_within id).all (roots_within ids)

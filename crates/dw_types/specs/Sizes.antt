-- Chapter: the size of each type entry (DWARF 5, 5.1 to 5.13).
use Rattle.std.specs.Prelude.{◌≡◌, ℕ, ◌*◌, ◌<◌, Bool, true, false, ◌||◌, List, [], ◌∷◌, Option, Some, None}
use Rattle.std.specs.Prelude.{length, map, if◌then◌else◌}
use Rattle.std.specs.List.{list_any}
use Rattle.dw_entries.specs.Entries.{Entry, entries_of, DebugUnit}
use Rattle.dw_links.specs.declared.constant.Constant.{Constant}
use Rattle.dw_links.specs.declared.constant.Constant.TheVariants.{Absent, NotNumber, Unsigned, Signed}
use Rattle.dw_types.specs.declared.kind.Kind.{Kind}
use Rattle.dw_types.specs.declared.kind.Kind.TheVariants.{Declared, OwnSized, Pointer, Alias, Enumeration, Array}
use Rattle.dw_types.specs.declared.kind.Kind.TheVariants.{Subroutine, NoType}
use Rattle.dw_forms.specs.Codes.{DW_AT_bit_stride, DW_AT_byte_stride, DW_TAG_enumeration_type}
use Rattle.dw_forms.specs.Codes.{DW_TAG_generic_subrange}
use Rattle.dw_links.specs.Constants.{constant_at, is_present, natural, natural_of}
use Rattle.dw_types.specs.Children.{children_of}
use Rattle.dw_types.specs.Counts.{count_of, known_natural}
use Rattle.dw_types.specs.Entries.{unit_address_size, byte_size, entry_in, signature_target, type_target}
use Rattle.dw_types.specs.Kinds.{is_subrange, kind_of}
use Rattle.dw_links.specs.Classes.{is_one_of}
use Rattle.dw_types.specs.SizeTables.{Size}

-- the product of two numbers that are known
abbrev pub times : Size → Size → Size
times None b = None
times (Some a) None = None
times (Some a) (Some b) = Some (a * b)

-- the product of numbers, if all are known
abbrev pub product_of : List Size → Size
product_of [] = Some 1
product_of (n ∷ rest) = times n (product_of rest)

-- a stride of bits or of bytes
abbrev pub has_stride : Entry → Bool
has_stride entry =
    is_present (constant_at entry DW_AT_bit_stride) || is_present (constant_at entry DW_AT_byte_stride)

-- an enumeration or a generic subrange, which counts an array in another way
abbrev pub is_other_index : Entry → Bool
is_other_index entry = is_one_of (DW_TAG_enumeration_type ∷ DW_TAG_generic_subrange ∷ []) entry.head.decl.tag

-- by how much a child of an array multiplies its number of elements: a dimension by its count, if that is known. The
-- number is unknown for an index of another kind and for a dimension with a stride
abbrev pub factor_of : List DebugUnit → (child : ℕ) → Size
factor_of us child =
    if is_other_index (entry_in us child) then None
    else if is_subrange (entry_in us child)
    then (if has_stride (entry_in us child) then None else known_natural (count_of us child))
    else Some 1

-- how many elements an array with these children has; without a dimension none is known
abbrev pub elements_by : List DebugUnit → (children : List ℕ) → Size
elements_by us children =
    if list_any (λ child. is_subrange (entry_in us child)) children then product_of (map (factor_of us) children)
    else None

-- how many elements an array has, by its children
abbrev pub element_count : List DebugUnit → ℕ → Size
element_count us array = elements_by us (children_of (entries_of us) array)

-- the list is not empty
abbrev pub has_elements : {A : Type 0} → List A → Bool
has_elements [] = false
has_elements (x ∷ xs) = true

-- the size at a target, none if there is no target
abbrev pub size_to : (ℕ → Size) → Option ℕ → Size
size_to table None = None
size_to table (Some to) = table to

-- the number of 0 or more under an attribute, or another size if the attribute is absent
abbrev pub constant_or : Constant → Size → Size
constant_or Absent other = other
constant_or NotNumber other = None
constant_or (Unsigned n) other = Some n
constant_or (Signed n) other = natural n

-- element storage times the number of elements; none with a stride of bits
abbrev pub array_size : List DebugUnit → (ℕ → Size) → ℕ → Size
array_size us table array =
    if is_present (constant_at (entry_in us array) DW_AT_bit_stride) then None
    else times
    (constant_or (constant_at (entry_in us array) DW_AT_byte_stride) (size_to table (type_target us array)))
    (element_count us array)

-- the size of an entry of a kind, by those of others: one equation for each row
abbrev pub size_of_kind : Kind → List DebugUnit → (ℕ → Size) → ℕ → Size
size_of_kind Declared us table node = size_to table (signature_target us node)
size_of_kind OwnSized us table node = natural_of (byte_size (entry_in us node))
size_of_kind Pointer us table node = constant_or (byte_size (entry_in us node)) (Some (unit_address_size us node))
size_of_kind Alias us table node = size_to table (type_target us node)
size_of_kind Enumeration us table node =
    constant_or (byte_size (entry_in us node)) (size_to table (type_target us node))
size_of_kind Array us table node = constant_or (byte_size (entry_in us node)) (array_size us table node)
size_of_kind Subroutine us table node = None
size_of_kind NoType us table node = None

-- the size of an entry, by those of others
abbrev pub size_line : List DebugUnit → (ℕ → Size) → ℕ → Size
size_line us table node = size_of_kind (kind_of (entry_in us node)) us table node

-- at each entry the table has the size that its line says, and none at an entry that is no type
abbrev pub ObeysSizeLines : List DebugUnit → (ℕ → Size) → Type 0
ObeysSizeLines us table = (node : ℕ) → node < length (entries_of us) → table node ≡ size_line us table node

-- the one table of sizes: no other has the sizes that its lines say
pub record IsSizeTable (us : List DebugUnit) (table : ℕ → Size) : Type 0 where
  pub obeys : ObeysSizeLines us table
  pub only : (other : ℕ → Size) → ObeysSizeLines us other → (node : ℕ) → node < length (entries_of us)
      → other node ≡ table node

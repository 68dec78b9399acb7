-- Chapter: the line of each entry of an image, and the text of a type's size.
use Rattle.std.specs.Prelude.{ℕ, ◌*◌, ◌==◌, ◌||◌, nat_lt, List, [], ◌∷◌, ◌++◌, codes, replicate, Option, None, Some}
use Rattle.std.specs.Prelude.{if◌then◌else◌}
use Rattle.std.specs.Option.{option_and_then}
use Rattle.std.specs.List.{enumerate_from, flat_map}
use Rattle.std.specs.Fmt.{decimal}
use Rattle.dw_entries.specs.Entries.{Entry}
use Rattle.dw_image.specs.declared.image.Image.{Image}
use Rattle.dw_image.specs.Images.{entries_in, name_in, size_table_in}
use Rattle.dw_image.specs.Lookups.{is_type_entry, entry_at, type_number}
use Rattle.dw_cprint.specs.Digits.{places}
use Rattle.dw_report.specs.Lines.{line, offset_text}
use Rattle.dw_report.specs.declared.request.Status.{Status}
use Rattle.dw_report.specs.declared.request.Status.TheVariants.{Sound, NotAType}

-- an offset, a space and two more for each depth, and the four digits of a tag
unfoldable pub entry_part : ℕ → ℕ → ℕ → List ℕ
entry_part offset depth tag = offset_text offset ++ codes " " ++ replicate (2 * depth) 32 ++ codes "0x" ++ places 4 tag

-- a byte of a name: a printable one as it is, but the quote, the backslash and any other byte as `\x` and two digits
unfoldable pub glyph : ℕ → List ℕ
glyph b = if nat_lt b 0x20 || nat_lt 0x7e b || b == 0x22 || b == 0x5c then codes "\\x" ++ places 2 b else b ∷ []

-- ` "NAME"`, if there is a name
unfoldable pub name_part : Option (List ℕ) → List ℕ
name_part None = []
name_part (Some name) = codes " \"" ++ flat_map glyph name ++ codes "\""

-- ` size N`, if there is a size
unfoldable pub size_part : Option ℕ → List ℕ
size_part None = []
size_part (Some n) = codes " size " ++ decimal n

-- a line: offset, depth and tag, name, size
unfoldable pub shown_line : (offset depth tag : ℕ) → (name : Option (List ℕ)) → (size : Option ℕ) → List ℕ
shown_line offset depth tag name size = line (entry_part offset depth tag ++ name_part name ++ size_part size)

-- the size of the entry with a number, if it is a type and has one
unfoldable pub entry_size : Image → ℕ → Entry → Option ℕ
entry_size i number e = if is_type_entry e then size_table_in i number else None

-- the line of an entry and its number
unfoldable pub entry_line : Image → ℕ × Entry → List ℕ
entry_line i (number, e) = shown_line e.at e.depth e.head.decl.tag (name_in i e) (entry_size i number e)

-- a line for each entry, in order
unfoldable pub show_lines : Image → List ℕ
show_lines i = flat_map (entry_line i) (enumerate_from 0 (entries_in i))

-- the number of the type whose entry starts at an offset
unfoldable pub type_at_offset : Image → ℕ → Option ℕ
type_at_offset i offset = option_and_then (type_number (entries_in i)) (entry_at (entries_in i) offset)

-- `size N` or `no size`
unfoldable pub line_of_size : Option ℕ → List ℕ
line_of_size None = line (codes "no size")
line_of_size (Some n) = line (codes "size " ++ decimal n)

-- what is written of the type with a number, or if there is none
abbrev pub size_text : Image → Option ℕ → List ℕ
size_text i None = line (codes "not a type")
size_text i (Some number) = line_of_size (size_table_in i number)

-- the status that goes with it
abbrev pub size_status : Option ℕ → Status
size_status None = NotAType
size_status (Some number) = Sound

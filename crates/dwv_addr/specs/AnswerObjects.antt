-- Chapter: the object in JSON for an address.
use Rattle.std.specs.Prelude.{ℕ, ◌==◌, nat_lt, false, List, ◌++◌, codes, Option, None, Some}
use Rattle.std.specs.Prelude.{if◌then◌else◌}
use Rattle.std.specs.List.{flat_map}
use Rattle.std.specs.Fmt.{digits}
use Rattle.std.specs.Str.{is_utf8}
use Rattle.serde_json.specs.Data.{Data, null, number, unsigned, string, array, object, member, no_members}
use Rattle.serde_json.specs.View.{items_of}
use Rattle.dw_cprint.specs.Digits.{places}
use Rattle.dwv_addr.specs.Answers.{glyph}

-- a byte of a name or a path that is not UTF-8: as in a line, but a byte from 0x80 on as `\x` and two digits too
unfoldable pub ascii_glyph : ℕ → List ℕ
ascii_glyph b = if nat_lt b 0x80 then glyph b else codes "\\x" ++ places 2 b

-- the text of a name or a path: as in a line if that is UTF-8
abbrev pub object_text : List ℕ → List ℕ
object_text bytes = if is_utf8 (flat_map glyph bytes) then flat_map glyph bytes else flat_map ascii_glyph bytes

-- a name or a path, or `null` if it is not known
abbrev pub text_or_null : Option (List ℕ) → Data
text_or_null None = null
text_or_null (Some bytes) = string (object_text bytes)

-- a line or a column, or `null` if it is not known
abbrev pub number_or_null : ℕ → Data
number_or_null n = if n == 0 then null else number (unsigned n)

-- a frame
abbrev pub frame_object : (function path : Option (List ℕ)) → (line column : ℕ) → Data
frame_object function path line column =
    object (member (codes "column") (number_or_null column)
    (member (codes "file") (text_or_null path)
    (member (codes "function") (text_or_null function)
    (member (codes "line") (number_or_null line) no_members))))

-- an address: `0x` and its hexadecimal digits in lower case, or `null` for a word that is no address
abbrev pub address_or_null : Option ℕ → Data
address_or_null None = null
address_or_null (Some address) = string (codes "0x" ++ digits 16 false address)

-- an address and its frames
abbrev pub answer_object : Option ℕ → List Data → Data
answer_object address frames =
    object (member (codes "address") (address_or_null address)
    (member (codes "frames") (array (items_of frames)) no_members))

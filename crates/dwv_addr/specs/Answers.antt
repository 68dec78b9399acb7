-- Chapter: what is written for an address.
use Rattle.std.specs.Prelude.{ℕ, ◌==◌, ◌||◌, nat_lt, List, [], ◌∷◌, ◌++◌, codes, Option, None, Some}
use Rattle.std.specs.Prelude.{if◌then◌else◌}
use Rattle.std.specs.List.{flat_map}
use Rattle.std.specs.Fmt.{decimal}
use Rattle.dw_cprint.specs.Digits.{places}

-- a byte of a name or a path in a line: as it is, but a byte below 0x20, 0x7f and the backslash as `\x` and two digits
unfoldable pub glyph : ℕ → List ℕ
glyph b = if nat_lt b 0x20 || b == 0x7f || b == 0x5c then codes "\\x" ++ places 2 b else b ∷ []

-- a name or a path in a line, or `??` if it is not known
abbrev pub known_text : Option (List ℕ) → List ℕ
known_text None = codes "??"
known_text (Some bytes) = flat_map glyph bytes

-- the two lines of a frame: its function, and `PATH:LINE:COLUMN`
unfoldable pub frame_lines : (function path : Option (List ℕ)) → (line column : ℕ) → List ℕ
frame_lines function path line column =
    known_text function ++ codes "\n" ++ known_text path ++ codes ":" ++ decimal line ++ codes ":" ++ decimal column
    ++ codes "\n"

-- the lines for an address that nothing has, and for a word that is no address
abbrev pub unknown_lines : List ℕ
unknown_lines = codes "??\n??:0:0\n\n"

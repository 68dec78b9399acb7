use Rattle.std.proofs.Common.{◌≡◌, ◌++◌, take}
use Rattle.std.specs.List.{flat_map}
use Rattle.dwv_addr.specs.AnswerObjects.{ascii_glyph}
use Rattle.dwv_addr.proofs.json.put_ascii_glyphs.Given as goal

abbrev pub invariant-loop-byte : goal.invariant-loop-byte
invariant-loop-byte l = l.text.items ≡ l.fn.text.items ++ flat_map ascii_glyph (take l.byte-index l.bytes)

-- State: what is known of a text, and of the strings of a section at each 64th offset, counted from the section's end.
use Rattle.std.specs.Prelude.{◌≡◌, ℕ, ◌+◌, ◌-◌, ◌*◌, ◌/◌, ◌==◌, ◌||◌, Bool, List, length, drop, slice_get, Some}
use Rattle.std.specs.List.{list_all}
use Rattle.std.specs.Char.{is_ascii_alphanumeric}
use Rattle.dw_links.specs.Contributions.{string_at}
use Rattle.dw_links.specs.declared.string_spans.StringSpan.{StringSpan}

-- a letter, a digit or an underscore
abbrev pub is_word_byte : ℕ → Bool
is_word_byte b = is_ascii_alphanumeric b || b == 95

-- how many bytes a text has, and whether all of them are letters, digits or underscores
pub record IsSpan (text : List ℕ) (span : StringSpan) : Type 0 where
  pub long : span.len ≡ length text
  pub words : span.words ≡ list_all is_word_byte text

-- what is known of the string at the front of the last 0, 64, 128, .. bytes of a section
pub record AreSpans (section : List ℕ) (spans : List StringSpan) : Type 0 where
  pub count : length spans ≡ length section / 64 + 1
  pub each : (k : ℕ) (span : StringSpan) → slice_get spans k ≡ Some span
      → IsSpan (string_at (drop (length section - 64 * k) section) 0) span

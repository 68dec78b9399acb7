-- State: strings that begin within their sections.
use Rattle.std.specs.Prelude.{◌≡◌, ℕ, ◌≤◌, length, Option, Some}
use Rattle.dw_forms.specs.Value.{Datum}
use Rattle.dw_links.specs.declared.texts.TextPlace.TheVariants.{Info, Str, LineStr}
use Rattle.dw_links.specs.Contributions.{HasZeroFrom}
use Rattle.dw_links.specs.declared.texts.StringValue.TheVariants.{Own, Shared}
use Rattle.dw_links.specs.ValueTexts.{text_of_value, text_place_of, text_there, Sections, StringValue, TextPlace}

-- a place is within its section
abbrev pub IsTextPlace : Sections → TextPlace → Type 0
IsTextPlace sections (Info offset) = offset ≤ length sections.info.now
IsTextPlace sections (Str offset) = offset ≤ length sections.str.now
IsTextPlace sections (LineStr offset) = offset ≤ length sections.line_str.now

-- a string begins at a place
abbrev pub BeginsString : Sections → TextPlace → Type 0
BeginsString sections (Info offset) = HasZeroFrom sections.info.now offset
BeginsString sections (Str offset) = HasZeroFrom sections.str.now offset
BeginsString sections (LineStr offset) = HasZeroFrom sections.line_str.now offset

-- of the place of a string that entries share
abbrev pub IfShared : (TextPlace → Type 0) → StringValue → Type 0
IfShared P (Own bytes) = Unit {0}
IfShared P (Shared place) = P place

-- a string begins at this place, and is the text of a value in a unit that has this base
pub record IsStringOf (s : Sections) (base : Option ℕ) (v : Datum) (p : TextPlace) : Type 0 where
  pub place : (end : ℕ) → text_place_of s base v end ≡ Some p
  pub text : text_of_value s base v ≡ Some (text_there s p)
  pub begins : BeginsString s p

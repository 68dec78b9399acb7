-- A text is no longer than its section.
use Rattle.std.proofs.Common.{rules, ℕ, List, length, ◌≤◌, length-take, length-drop}
use Rattle.dw_elf.specs.declared.sections.Sections.{Sections}
use Rattle.dw_elf.specs.Limits.{section_limit}
use Rattle.dw_links.specs.declared.texts.TextPlace.{TextPlace}
use Rattle.dw_links.specs.Contributions.{string_at}
use Rattle.dw_links.specs.ValueTexts.{text_there}

string_short : (section : List ℕ) (offset : ℕ) → length (string_at section offset) ≤ length section
string_short section offset = search (rules, length-take, length-drop)

pub text_short : (s : Sections) (place : TextPlace) → length (text_there s place) ≤ section_limit
text_short s place = search (rules, string_short)

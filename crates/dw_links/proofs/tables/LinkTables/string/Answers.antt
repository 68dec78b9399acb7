use Rattle.std.proofs.Common.{rules, ◌∙◌, sym, refl}
use Rattle.dw_forms.specs.Value.{line_str, str, str_index}
use Rattle.dw_entries.specs.Views.{sections_of}
use Rattle.dw_links.specs.AttributeTexts.{text_at}
use Rattle.dw_links.proofs.TableLemmas.{entry_unit, held, place_is, text_is}
use Rattle.dw_links.proofs.UnitToAll.{unit_below}
use Rattle.dw_links.proofs.HeldTexts.{begins_within}
use Rattle.dw_links.specs.declared.texts.TextPlace.TheVariants.{LineStr, Str}
use Rattle.dw_links.proofs.tables.LinkTables.string.Goals as goal

pub place_of_index-place-requires-clause-unit : goal.place_of_index-place-requires-clause-unit
place_of_index-place-requires-clause-unit c = search (rules, unit_below)

pub place_of_index-place-requires-clause-lies : goal.place_of_index-place-requires-clause-lies
place_of_index-place-requires-clause-lies c =
    rw c.unit_of.ensures (rw c.in-StrIndex.is at
    (held c.args.entries.now c.args.id c.args.attribute _ c.requires.id c.in_ok-value.ensures c.requires.strings))

pub returns-in-Text-clause-text : goal.returns-in-Text-clause-text
returns-in-Text-clause-text c =
    rw c.in-Text.is at
    (text_is c.args.entries.now c.args.id c.args.attribute _ c.requires.id c.in_ok-value.ensures)

pub returns-in-Str-clause-text : goal.returns-in-Str-clause-text
returns-in-Str-clause-text c =
    rw c.in-Str.is at
    (text_is c.args.entries.now c.args.id c.args.attribute _ c.requires.id c.in_ok-value.ensures)

pub returns-in-Str-clause-place : goal.returns-in-Str-clause-place
returns-in-Str-clause-place c =
    place_is c.args.entries.now c.args.id c.args.attribute (str c.in-Str.offset) c.requires.id
    (rw c.in-Str.is at c.in_ok-value.ensures) _ (λ end. refl)

pub returns-in-Str-clause-begins : goal.returns-in-Str-clause-begins
returns-in-Str-clause-begins c =
    rw c.in-Str.is at
    (held c.args.entries.now c.args.id c.args.attribute _ c.requires.id c.in_ok-value.ensures c.requires.strings)

pub returns-in-Str-clause-within : goal.returns-in-Str-clause-within
returns-in-Str-clause-within c =
    begins_within (sections_of c.args.entries.now) (Str c.in-Str.offset) (returns-in-Str-clause-begins c)

pub returns-in-LineStr-clause-text : goal.returns-in-LineStr-clause-text
returns-in-LineStr-clause-text c =
    rw c.in-LineStr.is at
    (text_is c.args.entries.now c.args.id c.args.attribute _ c.requires.id c.in_ok-value.ensures)

pub returns-in-LineStr-clause-place : goal.returns-in-LineStr-clause-place
returns-in-LineStr-clause-place c =
    place_is c.args.entries.now c.args.id c.args.attribute (line_str c.in-LineStr.offset) c.requires.id
    (rw c.in-LineStr.is at c.in_ok-value.ensures) _ (λ end. refl)

pub returns-in-LineStr-clause-begins : goal.returns-in-LineStr-clause-begins
returns-in-LineStr-clause-begins c =
    rw c.in-LineStr.is at
    (held c.args.entries.now c.args.id c.args.attribute _ c.requires.id c.in_ok-value.ensures c.requires.strings)

pub returns-in-LineStr-clause-within : goal.returns-in-LineStr-clause-within
returns-in-LineStr-clause-within c =
    begins_within (sections_of c.args.entries.now) (LineStr c.in-LineStr.offset) (returns-in-LineStr-clause-begins c)

pub returns-in-StrIndex-clause-text : goal.returns-in-StrIndex-clause-text
returns-in-StrIndex-clause-text c =
    sym (rw c.unit_of.ensures at c.place_of_index-place.ensures.text)
    ∙ (rw c.in-StrIndex.is at
    (text_is c.args.entries.now c.args.id c.args.attribute _ c.requires.id c.in_ok-value.ensures))

pub returns-in-StrIndex-clause-place : goal.returns-in-StrIndex-clause-place
returns-in-StrIndex-clause-place c =
    place_is c.args.entries.now c.args.id c.args.attribute (str_index c.in-StrIndex.index) c.requires.id
    (rw c.in-StrIndex.is at c.in_ok-value.ensures) _ (rw c.unit_of.ensures at c.place_of_index-place.ensures.place)

pub returns-in-StrIndex-clause-within : goal.returns-in-StrIndex-clause-within
returns-in-StrIndex-clause-within c =
    begins_within (sections_of c.args.entries.now) _ c.place_of_index-place.ensures.begins

pub returns-in_default-clause-text : goal.returns-in_default-clause-text
returns-in_default-clause-text c =
    search (rules, (text_is c.args.entries.now c.args.id c.args.attribute _ c.requires.id c.in_ok-value.ensures))

pub returns-in_err-value-clause-text : goal.returns-in_err-value-clause-text
unfolding text_at
returns-in_err-value-clause-text c = search (rules, entry_unit)

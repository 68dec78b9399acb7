-- Chapter: the answers for addresses, by what is known of a sound file, and of the functions of each of its units.
use Rattle.std.specs.Prelude.{◌≡◌, ℕ, Bool, List, [], ◌∷◌, ◌++◌, codes, map, Option, None, Some}
use Rattle.std.specs.Prelude.{if◌then◌else◌}
use Rattle.std.specs.List.{flat_map}
use Rattle.serde_json.specs.Data.{Data}
use Rattle.dw_entries.specs.Views.{all_entries}
use Rattle.dw_ranges.specs.Functions.{Known as KnownUnit}
use Rattle.dw_addresses.specs.Frames.{AreFramesAt}
use Rattle.dw_addresses.specs.declared.frame.Frame.{Frame}
use Rattle.dw_lookup.specs.Places.{column_at, entries_of, line_at, name_at, path_at}
use Rattle.dw_lookup.specs.declared.known.Known.{Known}
use Rattle.dw_report.specs.JsonObjects.{object_line}
use Rattle.dwv_addr.specs.Answers.{frame_lines, unknown_lines}
use Rattle.dwv_addr.specs.AnswerObjects.{answer_object, frame_object}

module _ (known : Known) (unit : ℕ) where
  -- the lines of a frame at an address of the unit
  abbrev pub lines_at : Frame → List ℕ
  lines_at frame = frame_lines (name_at known frame.function) (path_at known unit frame.place)
      (line_at frame.place) (column_at frame.place)

  -- the object of a frame at an address of the unit
  abbrev pub object_at : Frame → Data
  object_at frame = frame_object (name_at known frame.function) (path_at known unit frame.place)
      (line_at frame.place) (column_at frame.place)

  -- the lines of the frames at an address of the unit
  abbrev pub located_lines : List Frame → List ℕ
  located_lines frames = flat_map lines_at frames ++ codes "\n"

  -- an address of the unit with its frames, as an object on a line
  abbrev pub located_object : ℕ → List Frame → List ℕ
  located_object address frames = object_line (answer_object (Some address) (map object_at frames))

-- what is written for a word that is no address, and for an address that has no frames
abbrev pub unknown_text : (json : Bool) → Option ℕ → List ℕ
unknown_text json address = if json then object_line (answer_object address []) else unknown_lines

-- what is written for an address, by its unit and its frames
abbrev pub located_text : (json : Bool) → Known → ℕ → Option ℕ → List Frame → List ℕ
located_text json known address None frames = unknown_text json (Some address)
located_text json known address (Some unit) [] = unknown_text json (Some address)
located_text json known address (Some unit) (frame ∷ frames) =
    if json then located_object known unit address (frame ∷ frames) else located_lines known unit (frame ∷ frames)

module _ (json : Bool) (known : Known) (units : List KnownUnit) where
  -- the text is the answer for an address: by its frames
  pub record IsLocated (address : ℕ) (text : List ℕ) : Type 0 where
    pub unit : Option ℕ
    pub frames : List Frame
    pub are : AreFramesAt known.lines (all_entries (entries_of known)) units address unit frames
    pub is : text ≡ located_text json known address unit frames

  -- the text is the answer for an address, or for a word that is none
  abbrev pub IsAnswer : Option ℕ → List ℕ → Type 0
  IsAnswer None text = text ≡ unknown_text json None
  IsAnswer (Some address) text = IsLocated address text

  -- the text is the answers for addresses and for words that are none, one after another
  abbrev pub AreAnswers : List (Option ℕ) → List ℕ → Type 0
  AreAnswers [] text = text ≡ []
  AreAnswers (asked ∷ others) text = (first : List ℕ) × (rest : List ℕ) × IsAnswer asked first
      × AreAnswers others rest × (text ≡ first ++ rest)

-- Chapter: the frames at addresses as rows in arrays of the caller, and their texts.
use Rattle.std.specs.Prelude.{◌≡◌, ℕ, ◌+◌, ◌<◌, ◌≤◌, List, [], ◌∷◌, ◌++◌, length, drop, map, min}
use Rattle.std.specs.Prelude.{Option, Some, None, option_and_then}
use Rattle.std.specs.List.{AllZip, flat_map}
use Rattle.std.specs.Option.{unwrap_or}
use Rattle.dw_entries.specs.Lookups.{nth_of}
use Rattle.dw_entries.specs.Views.{all_entries}
use Rattle.dw_ranges.specs.Functions.{Known as KnownUnit}
use Rattle.dw_addresses.specs.Frames.{AreFramesAt}
use Rattle.dw_addresses.specs.declared.frame.Frame.{Frame}
use Rattle.dw_lookup.specs.Files.{FileFails, IsSound}
use Rattle.dw_lookup.specs.FirstFaults.{attribute_of, code_of, name_of, place_of, section_of}
use Rattle.dw_lookup.specs.Places.{column_at, entries_of, line_at, name_at, path_at}
use Rattle.dw_lookup.specs.declared.first_fault.FirstFault.{FirstFault}
use Rattle.dw_lookup.specs.declared.first_fault.FirstFault.TheVariants.{File}
use Rattle.dw_lookup.specs.declared.known.Known.{Known}
use Rattle.dw_report.specs.Reports.{file_limit, too_large}
use Rattle.dwv_c.specs.Tables.{greatest, row_of}
use Rattle.dwv_c.specs.Verdicts.{FAULT, NO_MEMORY, SOUND, TOO_SHORT, fault_verdict, of_image}
use Rattle.dwv_c.specs.declared.frame_rows.FrameCounts.{FrameCounts}
use Rattle.dwv_c.specs.declared.frame_rows.FrameRow.{FrameRow}
use Rattle.dwv_c.specs.declared.frame_rows.Located.{Located}
use Rattle.dwv_c.specs.declared.verdict.Verdict.{Verdict}

-- a frame at an address of a unit
pub record LocatedFrame : Type 0 where
  pub unit : ℕ
  pub frame : Frame

-- a frame of a unit
abbrev pub of_unit : ℕ → Frame → LocatedFrame
of_unit unit frame = record { unit = unit; frame = frame }

-- the frames at an address with their unit. There are none if no unit has the address
abbrev pub with_unit : Option ℕ → List Frame → List LocatedFrame
with_unit None frames = []
with_unit (Some unit) frames = map (of_unit unit) frames

-- these are the frames at an address, the innermost first
pub record AreAt (known : Known) (units : List KnownUnit) (address : ℕ) (found : List LocatedFrame) : Type 0 where
  pub unit : Option ℕ
  pub frames : List Frame
  pub are : AreFramesAt known.lines (all_entries (entries_of known)) units address unit frames
  pub is : found ≡ with_unit unit frames

-- these are the frames at each of some addresses
abbrev pub AreAtAll : Known → List KnownUnit → List ℕ → List (List LocatedFrame) → Type 0
AreAtAll known units = AllZip (AreAt known units)

-- the frames at some addresses, one after another
abbrev pub joined : List (List LocatedFrame) → List LocatedFrame
joined = flat_map (λ found. found)

module _ (known : Known) where
  -- the entry of the function of a frame, if it has one
  abbrev pub function_of : LocatedFrame → Option ℕ
  function_of f = option_and_then (nth_of (all_entries (entries_of known))) f.frame.function

  -- the name of the function, empty if it is not known
  abbrev pub name_in : LocatedFrame → List ℕ
  name_in f = unwrap_or (name_at known f.frame.function) []

  -- the path of the source file, empty if it is not known
  abbrev pub path_in : LocatedFrame → List ℕ
  path_in f = unwrap_or (path_at known f.unit f.frame.place) []

  -- the text of a frame: its name and its path
  abbrev pub frame_text : LocatedFrame → List ℕ
  frame_text f = name_in f ++ path_in f

  -- the texts of frames, one after another
  abbrev pub texts_of : List LocatedFrame → List ℕ
  texts_of = flat_map frame_text

  -- the row of a frame whose text has this place among the texts. A unit that does not fit is the greatest number
  abbrev pub frame_row : (place : ℕ) → LocatedFrame → FrameRow
  frame_row place f = record {
    line = line_at f.frame.place;
    column = column_at f.frame.place;
    name = place;
    name_length = length (name_in f);
    path = place + length (name_in f);
    path_length = length (path_in f);
    function = row_of (function_of f);
    unit = min f.unit greatest;
  }

  -- the rows of frames, the first of which has this place among the texts
  abbrev pub frame_rows : (place : ℕ) → List LocatedFrame → List FrameRow
  frame_rows place [] = []
  frame_rows place (f ∷ others) = frame_row place f ∷ frame_rows (place + length (frame_text f)) others

-- for each address, which rows its frames have: they start at this one
abbrev pub located_rows : (first : ℕ) → List (List LocatedFrame) → List Located
located_rows first [] = []
located_rows first (found ∷ others) =
    record { first = first; frames = length found } ∷ located_rows (first + length found) others

-- the three arrays, as they are before or after a call, or what is to be written
pub record FrameArrays : Type 0 where
  pub located : List Located
  pub frames : List FrameRow
  pub text : List ℕ

-- the arrays of these rows and this text
abbrev pub frame_arrays : List Located → List FrameRow → List ℕ → FrameArrays
frame_arrays located frames text = record { located = located; frames = frames; text = text }

-- what is to be written of the frames at addresses
abbrev pub arrays_of : Known → List (List LocatedFrame) → FrameArrays
arrays_of known all =
    frame_arrays (located_rows 0 all) (frame_rows known 0 (joined all)) (texts_of known (joined all))

-- how much there is of it
abbrev pub frame_counts : FrameArrays → FrameCounts
frame_counts it = record { frames = length it.frames; text = length it.text }

-- there is room for all of it
pub record HasRoomFor (it old : FrameArrays) : Type 0 where
  pub located : length it.located ≤ length old.located
  pub frames : length it.frames ≤ length old.frames
  pub text : length it.text ≤ length old.text

-- items over the first ones of an array: the rest is as it was
abbrev pub over : {X : Type 0} → List X → List X → List X
over items old = items ++ drop (length items) old

-- all of it over the arrays
abbrev pub written_over : (it old : FrameArrays) → FrameArrays
written_over it old =
    frame_arrays (over it.located old.located) (over it.frames old.frames) (over it.text old.text)

-- what is returned for a sound file, and the arrays then
pub data FillsFrames (it old : FrameArrays) : ℕ → FrameArrays → Type 0 where
  whole : HasRoomFor it old → FillsFrames it old SOUND (written_over it old)
  short : ¬ HasRoomFor it old → FillsFrames it old TOO_SHORT old

-- the first rule that a file violates. A file past the limit is too large, whatever else it violates
pub data Violates (bytes : List ℕ) : FirstFault → Type 0 where
  past_limit : file_limit < length bytes → Violates bytes (File too_large)
  within_limit : (f : FirstFault) → length bytes ≤ file_limit → FileFails bytes f → Violates bytes f

-- the verdict of the first rule that a file violates
abbrev pub of_first_fault : FirstFault → Verdict
of_first_fault f = fault_verdict (place_of f) (attribute_of f) (code_of f) (section_of f) (name_of f)

-- what is returned, and the arrays, the counts and the verdict then. If an allocation failed, they are as they were
pub data PutsFrames (bytes addresses : List ℕ) (old : FrameArrays) (counts : FrameCounts) (v : Verdict)
    : ℕ → FrameArrays → FrameCounts → Verdict → Type 0 where
  sound : (known : Known) (all : List (List LocatedFrame)) (status : ℕ) (new : FrameArrays)
      → length bytes ≤ file_limit → (is : IsSound bytes known)
      → AreAtAll known is.functions_are.units addresses all → FillsFrames (arrays_of known all) old status new
      → PutsFrames bytes addresses old counts v status new (frame_counts (arrays_of known all))
      (of_image known.image.now)
  fault : (f : FirstFault) → Violates bytes f
      → PutsFrames bytes addresses old counts v FAULT old counts (of_first_fault f)
  memory : PutsFrames bytes addresses old counts v NO_MEMORY old counts v

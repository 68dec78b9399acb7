-- The rows of frames, one after another, and what is returned and written of them.
use Rattle.std.proofs.Common.{◌≡◌, ℕ, ◌+◌, ◌-◌, ◌<◌, ◌≤◌, List, [], ◌∷◌, ◌++◌, length, drop, map, take, get_or, refl, sym, ap, ◌∙◌, subst, append_assoc, arith}
use Rattle.std.proofs.lemmas.List.{append-nil, length-append, map-append, take_more}
use Rattle.std.proofs.lemmas.List.Concat.{flat_map-append}
use Rattle.dw_forms.specs.Stops.{IfFault}
use Rattle.dw_forms.specs.declared.fault.Stop.{Stop}
use Rattle.dw_forms.specs.declared.fault.Stop.TheVariants.{Fault, Memory}
use Rattle.dw_ranges.specs.Files.{IsIndexOf}
use Rattle.dw_ranges.specs.Functions.{Known as KnownUnit}
use Rattle.dw_addresses.specs.declared.frame.Frame.{Frame}
use Rattle.dw_lookup.specs.Files.{FileFails, IsSound}
use Rattle.dw_lookup.specs.declared.first_fault.FirstFault.{FirstFault}
use Rattle.dw_lookup.specs.declared.known.Known.{Known}
use Rattle.dw_report.specs.Reports.{file_limit}
use Rattle.dwv_c.specs.Frames.{AreAt, AreAtAll, FillsFrames, FrameArrays, LocatedFrame, PutsFrames}
use Rattle.dwv_c.specs.Frames.{fault, frame_arrays, frame_counts, frame_row, frame_rows, frame_text, joined, located_rows}
use Rattle.dwv_c.specs.Frames.{HasRoomFor, memory, of_unit, over, sound, texts_of, whole, within_limit}
use Rattle.dwv_c.specs.FrameState.{HasMore, IsAllOf, stop_status, stop_verdict}
use Rattle.dwv_c.specs.Verdicts.{SOUND, of_image}
use Rattle.dwv_c.specs.declared.frame_rows.FrameCounts.{FrameCounts}
use Rattle.dwv_c.specs.declared.frame_rows.FrameRow.{FrameRow}
use Rattle.dwv_c.specs.declared.frame_rows.Located.{Located}
use Rattle.dwv_c.specs.declared.frames.Gathered.{Gathered}
use Rattle.dwv_c.specs.declared.verdict.Verdict.{Verdict}

from_zero : (n : ℕ) → n ≡ 0 + n
from_zero n = omega arith

module _ (known : Known) where
  rows_append : (place : ℕ) (xs ys : List LocatedFrame) → frame_rows known place (xs ++ ys)
      ≡ frame_rows known place xs ++ frame_rows known (place + length (texts_of known xs)) ys
  rows_append place [] ys = ap (λ (p : ℕ). frame_rows known p ys) (omega arith)
  rows_append place (f ∷ xs) ys =
      let long = length-append (frame_text known f) (texts_of known xs) in
      let after : (place + length (frame_text known f)) + length (texts_of known xs)
      ≡ place + length (texts_of known (f ∷ xs)) = omega (arith, long) in
      ap (λ (rows : List FrameRow). frame_row known place f ∷ rows)
      (rows_append (place + length (frame_text known f)) xs ys
      ∙ ap (λ (p : ℕ). frame_rows known (place + length (frame_text known f)) xs ++ frame_rows known p ys) after)

  -- a frame has a row
  pub rows_length : (place : ℕ) (xs : List LocatedFrame) → length (frame_rows known place xs) ≡ length xs
  rows_length place [] = refl
  rows_length place (f ∷ xs) =
      let rest = rows_length (place + length (frame_text known f)) xs in
      omega (arith, rest)

  -- the row and the text of one frame more
  pub row_more : (rows before : List FrameRow) (text first : List ℕ) (xs : List LocatedFrame) (f : LocatedFrame)
      → rows ≡ before ++ frame_rows known (length first) xs → text ≡ first ++ texts_of known xs
      → rows ++ frame_row known (length text) f ∷ [] ≡ before ++ frame_rows known (length first) (xs ++ f ∷ [])
  row_more rows before text first xs f rows_are text_is =
      let place : length text ≡ length first + length (texts_of known xs) =
      ap length text_is ∙ length-append first (texts_of known xs) in
      ap (λ (rs : List FrameRow). rs ++ frame_row known (length text) f ∷ []) rows_are
      ∙ append_assoc before (frame_rows known (length first) xs) (frame_row known (length text) f ∷ [])
      ∙ ap (λ (p : ℕ). before ++ (frame_rows known (length first) xs ++ frame_row known p f ∷ [])) place
      ∙ ap (λ (rs : List FrameRow). before ++ rs) (sym (rows_append (length first) xs (f ∷ [])))

  pub text_more : (text first more : List ℕ) (xs : List LocatedFrame) (f : LocatedFrame)
      → text ≡ first ++ texts_of known xs → more ≡ text ++ frame_text known f
      → more ≡ first ++ texts_of known (xs ++ f ∷ [])
  text_more text first more xs f text_is is =
      is ∙ ap (λ (t : List ℕ). t ++ frame_text known f) text_is
      ∙ append_assoc first (texts_of known xs) (frame_text known f)
      ∙ ap (λ (t : List ℕ). first ++ (texts_of known xs ++ t)) (sym (append-nil (frame_text known f)))
      ∙ ap (λ (t : List ℕ). first ++ t) (sym (flat_map-append (frame_text known) xs (f ∷ [])))

-- the first frames of a unit, and one more
pub unit_more : (unit : ℕ) (frames : List Frame) (k : ℕ) (d : Frame) → k < length frames
    → map (of_unit unit) (take (k + 1) frames)
    ≡ map (of_unit unit) (take k frames) ++ of_unit unit (get_or frames k d) ∷ []
unit_more unit frames k d below =
    ap (map (of_unit unit)) (take_more frames k d below)
    ∙ map-append (of_unit unit) (take k frames) (get_or frames k d ∷ [])

-- the row of an address, alone
abbrev pub one_row : (first frames : ℕ) → List Located
one_row first frames = record { first = first; frames = frames } ∷ []

located_append : (first : ℕ) (all : List (List LocatedFrame)) (found : List LocatedFrame)
    → located_rows first (all ++ found ∷ [])
    ≡ located_rows first all ++ one_row (first + length (joined all)) (length found)
located_append first [] found =
    let same : first ≡ first + 0 = omega arith in
    ap (λ (n : ℕ). one_row n (length found)) same
located_append first (one ∷ all) found =
    let long = length-append one (joined all) in
    let after : (first + length one) + length (joined all) ≡ first + length (joined (one ∷ all)) =
    omega (arith, long) in
    ap (λ (rows : List Located). record { first = first; frames = length one } ∷ rows)
    (located_append (first + length one) all found
    ∙ ap (λ (n : ℕ). located_rows (first + length one) all ++ one_row n (length found)) after)

all_more : (known : Known) (units : List KnownUnit) (addresses : List ℕ) (address : ℕ)
    (all : List (List LocatedFrame)) (found : List LocatedFrame) → AreAtAll known units addresses all
    → AreAt known units address found → AreAtAll known units (addresses ++ address ∷ []) (all ++ found ∷ [])
all_more known units [] address [] found are is = (is, tt)
all_more known units [] address (one ∷ all) found are is = absurd are
all_more known units (a ∷ addresses) address [] found are is = absurd are
all_more known units (a ∷ addresses) address (one ∷ all) found are is =
    (are.0, all_more known units addresses address all found are.1 is)

-- which rows the frames at an address have, by how many rows there were before them and are after them
pub located_more : (known : Known) (found : List LocatedFrame) (old new : Gathered) → HasMore known found old new
    → (first count : ℕ) → first ≡ length old.frames.items → count ≡ length new.frames.items
    → (located : List Located)
    → located ≡ new.located.items ++ record { first = first; frames = count - first } ∷ []
    → located ≡ old.located.items ++ record { first = length old.frames.items; frames = length found } ∷ []
located_more known found old new more first count first_is count_is located is =
    let place = length old.text.items in
    let long = ap length more.frames ∙ length-append old.frames.items (frame_rows known place found) in
    let rows = rows_length known place found in
    let many : count - first ≡ length found = omega (arith, long, rows, first_is, count_is) in
    is
    ∙ ap (λ (rs : List Located). rs ++ record { first = first; frames = count - first } ∷ []) more.located
    ∙ ap (λ (n : ℕ). old.located.items ++ record { first = n; frames = count - first } ∷ []) first_is
    ∙ ap (λ (n : ℕ). old.located.items ++ record { first = length old.frames.items; frames = n } ∷ []) many

-- what is gathered at no address
pub gathered_none : (known : Known) (located : List Located) (frames : List FrameRow) (text : List ℕ) → located ≡ []
    → frames ≡ [] → text ≡ [] → IsAllOf known [] (frame_arrays located frames text)
gathered_none known located frames text no_located no_frames no_text =
    record { all = []; is = rw (no_located, no_frames, no_text) refl; are = λ units index. tt }

-- what is gathered at some addresses, and at one more
pub gathered_more : (known : Known) (addresses : List ℕ) (address : ℕ) (found : List LocatedFrame)
    (located more : List Located) (frames more_frames : List FrameRow) (text more_text : List ℕ)
    → IsAllOf known addresses (frame_arrays located frames text)
    → more ≡ located ++ record { first = length frames; frames = length found } ∷ []
    → more_frames ≡ frames ++ frame_rows known (length text) found
    → more_text ≡ text ++ texts_of known found
    → ((units : List KnownUnit) → IsIndexOf units known.functions → AreAt known units address found)
    → IsAllOf known (addresses ++ address ∷ []) (frame_arrays more more_frames more_text)
gathered_more known addresses address found located more frames more_frames text more_text it located_is frames_are
    text_is are =
    let all = it.all in
    let old_located : located ≡ located_rows 0 all = ap (λ (a : FrameArrays). a.located) it.is in
    let old_frames : frames ≡ frame_rows known 0 (joined all) = ap (λ (a : FrameArrays). a.frames) it.is in
    let old_text : text ≡ texts_of known (joined all) = ap (λ (a : FrameArrays). a.text) it.is in
    let all_joined : joined (all ++ found ∷ []) ≡ joined all ++ found =
    flat_map-append (λ (xs : List LocatedFrame). xs) all (found ∷ [])
    ∙ ap (λ (xs : List LocatedFrame). joined all ++ xs) (append-nil found) in
    let count : length frames ≡ length (joined all) = ap length old_frames ∙ rows_length known 0 (joined all) in
    let is_located : more ≡ located_rows 0 (all ++ found ∷ []) =
    located_is
    ∙ ap (λ (n : ℕ). located ++ one_row n (length found)) count
    ∙ ap (λ (rows : List Located). rows ++ one_row (length (joined all)) (length found)) old_located
    ∙ ap (λ (n : ℕ). located_rows 0 all ++ one_row n (length found)) (from_zero (length (joined all)))
    ∙ sym (located_append 0 all found) in
    let are_frames : more_frames ≡ frame_rows known 0 (joined (all ++ found ∷ [])) =
    frames_are ∙ ap (λ (rows : List FrameRow). rows ++ frame_rows known (length text) found) old_frames
    ∙ ap (λ (t : List ℕ). frame_rows known 0 (joined all) ++ frame_rows known (length t) found) old_text
    ∙ ap (λ (n : ℕ). frame_rows known 0 (joined all) ++ frame_rows known n found)
    (from_zero (length (texts_of known (joined all))))
    ∙ sym (rows_append known 0 (joined all) found) ∙ ap (frame_rows known 0) (sym all_joined) in
    let is_text : more_text ≡ texts_of known (joined (all ++ found ∷ [])) =
    text_is ∙ ap (λ (t : List ℕ). t ++ texts_of known found) old_text
    ∙ sym (flat_map-append (frame_text known) (joined all) found) ∙ ap (texts_of known) (sym all_joined) in
    record {
      all = all ++ found ∷ [];
      is = rw (is_located, are_frames, is_text) refl;
      are = λ units index. all_more known units addresses address all found (it.are units index) (are units index);
    }

-- items over the first ones of an array, by the slice that they are copied from
put_is : {X : Type 0} (items slice old new : List X) → slice ≡ items → new ≡ slice ++ drop (length slice) old
    → new ≡ over items old
put_is items slice old new same is = is ∙ ap (λ xs. over xs old) same

-- all of it was written
pub fills_whole : (it : FrameArrays) (located new_located from_located : List Located)
    (frames new_frames from_frames : List FrameRow) (text new_text from_text : List ℕ)
    → HasRoomFor it (frame_arrays located frames text)
    → from_located ≡ it.located → new_located ≡ over from_located located
    → from_frames ≡ it.frames → new_frames ≡ over from_frames frames
    → from_text ≡ it.text → new_text ≡ over from_text text
    → FillsFrames it (frame_arrays located frames text) SOUND (frame_arrays new_located new_frames new_text)
fills_whole it located new_located from_located frames new_frames from_frames text new_text from_text room same_located
    located_is same_frames frames_is same_text text_is =
    rw (
      put_is it.located from_located located new_located same_located located_is,
      put_is it.frames from_frames frames new_frames same_frames frames_is,
      put_is it.text from_text text new_text same_text text_is,
    ) (whole room)

-- what is returned and written of a sound file
pub puts_known : (bytes addresses : List ℕ) (known : Known) (it old new : FrameArrays) (counts told : FrameCounts)
    (v verdict : Verdict) (status : ℕ) → length bytes ≤ file_limit → IsSound bytes known
    → IsAllOf known addresses it → FillsFrames it old status new → told ≡ frame_counts it
    → verdict ≡ of_image known.image.now → PutsFrames bytes addresses old counts v status new told verdict
puts_known bytes addresses known it old new counts told v verdict status within is all fills told_is verdict_is =
    let units = is.functions_are.units in
    rw (told_is, verdict_is, all.is)
    (sound known all.all status new within is (all.are units is.functions_are.index)
    (subst (λ (a : FrameArrays). FillsFrames a old status new) all.is fills))

-- what is returned and written of the first rule that a file violates, unless an allocation failed
pub puts_stop : (bytes addresses : List ℕ) (old : FrameArrays) (counts : FrameCounts) (v verdict : Verdict)
    (stop : Stop FirstFault) (status : ℕ) → length bytes ≤ file_limit → IfFault (FileFails bytes) stop
    → status ≡ stop_status stop → verdict ≡ stop_verdict stop v
    → PutsFrames bytes addresses old counts v status old counts verdict
puts_stop bytes addresses old counts v verdict (Fault f) status within fails status_is verdict_is =
    rw (status_is, verdict_is) (fault f (within_limit f within fails))
puts_stop bytes addresses old counts v verdict Memory status within fails status_is verdict_is =
    rw (status_is, verdict_is) memory

-- The bytes of a value are the last of its spelling, and where they are in .debug_info.
use Rattle.std.proofs.Common.{rules, ◌≡◌, ℕ, ◌-◌, List, [], ◌++◌, ◌≤◌, length, take, drop, refl, sym, ap, ◌∙◌, append_assoc, append-nil, length-append, length-drop, length-take, drop_at, take-append-drop, ◌∷◌, Some, Ok, slice_get}
use Rattle.dw_forms.specs.declared.form.Form.{Form}
use Rattle.dw_forms.specs.declared.form.Form.TheVariants as form
use Rattle.dw_forms.specs.FormTable.{layout_of}
use Rattle.dw_forms.specs.ValueFormats.{Val, laid_out, counted_bytes, leb_counted_bytes}
use Rattle.dw_forms.specs.ValueLaws.{named_plain}
use Rattle.dw_entries.specs.Grammar.{Datum, Attribute}
use Rattle.dw_entries.specs.ItemFormats.{code}
use Rattle.dw_entries.specs.Entries.{Entry}
use Rattle.dw_entries.proofs.KeptLaws.{KeptEntry, found_entry, values_are, Tables, UnitRecord, Record, Scanned, found_units, stands_within}
use Rattle.dw_entries.proofs.ScanLaws.{rest_of}
use Rattle.dw_entries.specs.OwnBytes.{bytes_of, EndsAt, HasNoZero, IsRest, Leaves}
use Rattle.dw_entries.specs.ValuePlaces.{FollowCode, placed_value, placed_values_from}
use Rattle.dw_entries.specs.ValuesLeft.{BeginWith}

-- bytes that end with those of a value
record EndWithBytes (bytes : List ℕ) (v : Datum) : Type 0 where
  pub before : List ℕ
  pub parts : bytes ≡ before ++ bytes_of v
  pub no_zero : HasNoZero v

-- a value that has these bytes after some others
after_count : (count content bytes : List ℕ) (v w : Datum) → bytes ≡ count ++ content → v ≡ w → content ≡ bytes_of w
    → HasNoZero w → EndWithBytes bytes v
after_count count content bytes v w parts is same no_zero = search (rules)

-- a value that has no bytes itself
no_bytes : (bytes : List ℕ) (v w : Datum) → v ≡ w → bytes_of w ≡ [] → HasNoZero w → EndWithBytes bytes v
no_bytes bytes v w is none = after_count bytes [] bytes v w (sym (append-nil bytes)) is (sym none)

plain_bytes : (size : ℕ) (f : Form) (bytes : List ℕ) (v : Datum) → (laid_out (layout_of size f)).Spells bytes v
    → EndWithBytes bytes v
unfolding laid_out counted_bytes leb_counted_bytes
plain_bytes size form.Block1 bytes v (content, counted, is) = search (rules, after_count)
plain_bytes size form.Block2 bytes v (content, counted, is) = search (rules, after_count)
plain_bytes size form.Block4 bytes v (content, counted, is) = search (rules, after_count)
plain_bytes size form.Block bytes v (content, counted, is) = search (rules, after_count)
plain_bytes size form.Exprloc bytes v (content, counted, is) = search (rules, after_count)
plain_bytes size form.Text bytes v (content, ended, is) = search (rules, after_count)
plain_bytes size form.Data16 bytes v (content, exactly, is) = search (rules, after_count)
plain_bytes size form.Indirect bytes v p = absurd p
plain_bytes size form.FlagPresent bytes v p = no_bytes bytes v _ p.1 refl tt
plain_bytes size (form.ImplicitConst number) bytes v p = no_bytes bytes v _ p.1 refl tt
plain_bytes size _ bytes v p = no_bytes bytes v _ p.2 refl tt

after_code : (code content bytes : List ℕ) (v : Datum) → bytes ≡ code ++ content → EndWithBytes content v
    → EndWithBytes bytes v
after_code code content bytes v parts end = record {
  before = code ++ end.before;
  parts = search (rules, append_assoc);
  no_zero = end.no_zero;
}

-- the spelling of a value ends with its bytes
spelled_bytes : (version size : ℕ) (f : Form) (bytes : List ℕ) (v : Datum) → Val version f size bytes v
    → EndWithBytes bytes v
unfolding laid_out
spelled_bytes version size form.Indirect bytes v p = search (rules, named_plain, after_code, plain_bytes)
spelled_bytes version size form.Block1 bytes v p = search (rules, plain_bytes)
spelled_bytes version size form.Block2 bytes v p = search (rules, plain_bytes)
spelled_bytes version size form.Block4 bytes v p = search (rules, plain_bytes)
spelled_bytes version size form.Block bytes v p = search (rules, plain_bytes)
spelled_bytes version size form.Exprloc bytes v p = search (rules, plain_bytes)
spelled_bytes version size form.Text bytes v p = search (rules, plain_bytes)
spelled_bytes version size form.Data16 bytes v p = search (rules, plain_bytes)
spelled_bytes version size form.FlagPresent bytes v p = no_bytes bytes v _ p.1 refl tt
spelled_bytes version size (form.ImplicitConst number) bytes v p = no_bytes bytes v _ p.1 refl tt
spelled_bytes version size _ bytes v p = no_bytes bytes v _ p.2 refl tt

-- the bytes of a value that was read, and those that follow
pub leaves : (version size len : ℕ) (f : Form) (bytes rest : List ℕ) (v : Datum) → Val version f size (take len bytes) v
    → rest ≡ drop len bytes → Leaves v bytes rest
leaves version size len f bytes rest v spelled rest_is = search (rules, spelled_bytes, take-append-drop, append_assoc)

-- what a section ends with
pub rest_after : (section before bytes : List ℕ) → section ≡ before ++ bytes → IsRest section bytes
rest_after section before bytes parts = search (rules, length-append, drop_at)

-- and without the first of these bytes
pub rest_on : (section bytes before rest : List ℕ) → IsRest section bytes → bytes ≡ before ++ rest
    → IsRest section rest
rest_on section bytes before rest is parts =
    let front : List ℕ = take (length section - length bytes) section in
    rest_after section (front ++ before) rest
    (sym (take-append-drop (length section - length bytes) section) ∙ ap (λ (b : List ℕ). front ++ b) (is ∙ parts)
    ∙ sym (append_assoc front before rest))

-- as a slice has them
pub rest_of_slice : (section bytes : List ℕ) (n : ℕ) → IsRest section bytes → n ≤ length bytes
    → IsRest section (take (length bytes - n) (drop n bytes))
rest_of_slice section bytes n is within =
    rest_on section bytes (take n bytes) _ is
    (sym (take-append-drop n bytes) ∙ ap (λ (b : List ℕ). take n bytes ++ b) (sym (rest_of n bytes within)))

-- where a value ends
pub ends_at : (section bytes rest : List ℕ) (v : Datum) → IsRest section bytes → Leaves v bytes rest
    → EndsAt section v (length section - length rest)
ends_at section bytes rest v is l =
    let front : List ℕ = take (length section - length bytes) section in
    let whole : section ≡ (front ++ l.before) ++ (bytes_of v ++ rest) =
    search (rules, take-append-drop, append_assoc) in
    record {
      before = front ++ l.before;
      rest = rest;
      parts = whole;
      end_is = search (rules, length-append);
      no_zero = l.no_zero;
    }

-- ---- attributes with their places

-- the attribute that is taken ends where the bytes that are left start
pub place_taken : (section bytes rest : List ℕ) (old new : List Attribute) (attribute : ℕ) (v : Datum)
    → IsRest section bytes → BeginWith old new bytes rest (attribute, v)
    → placed_values_from (length section - length bytes) old
    ≡ placed_value attribute v (length section - length rest) ∷ placed_values_from (length section - length rest) new
place_taken section bytes rest old new attribute v is first = search (rules, length-drop, length-append)

-- .debug_info ends with what follows the code of an entry
pub follow_code : {base : ℕ} {a info : List ℕ} {tables : Tables} {rs : List UnitRecord} {records : List Record}
    {s : Scanned base a info tables rs records} {id : ℕ} (k : KeptEntry s id) (r : Record)
    → slice_get records id ≡ Some r → (n : ℕ) (rest : List ℕ)
    → code.read (take (length info - r.at) (drop r.at info)) ≡ Ok (n, rest) → FollowCode info (found_entry s id) rest
follow_code {info = info} {s = s} {id = id} k r read n rest got =
    let e : Entry = found_entry s id in
    let front : List ℕ = take e.at info in
    let values = values_are k r read n rest got in
    let within = stands_within (found_units s) info e k.stands in
    record {
      before = front ++ e.head.code;
      rest = k.stands.after;
      parts = search (rules, take-append-drop, append_assoc);
      start = search (rules, length-append, length-take);
      spelled = values;
    }

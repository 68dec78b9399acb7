-- Laws: the sizes of a unit that is spelled, and what is known of the fields of its header.
use Rattle.std.proofs.Common.{◌≡◌, ℕ, ◌+◌, ◌<◌, inl, inr, Bool, true, false, eqb, ltb, List, ◌++◌, length, take, Result}
use Rattle.std.proofs.Common.{refl, sym, ap, subst, ◌∙◌, append_assoc, append-nil, arith, length-append, take_at}
use Rattle.std.proofs.Common.{ltb-true, eqb-true, ◌||◌}
use Rattle.std.proofs.Props.{props}
use mathlib.Core.Logic.{∥∥₁_elim}
use Rattle.byteorder.specs.Endian.{little_number}
use Rattle.dw_forms.specs.Formats.{Format, tested_is, apart}
use Rattle.dw_forms.specs.declared.rule.Rule.TheVariants.{Not32Bit, BadVersion, BadUnitType, BadAddressSize}
use Rattle.dw_forms.specs.declared.rule.Rule.TheVariants.{BadAbbrevOffset}
use Rattle.dw_entries.specs.declared.header.HeaderKind.TheVariants.{CompileUnit, PartialUnit, TypeUnit}
use Rattle.dw_entries.specs.Choices.{size_unique}
use Rattle.dw_entries.specs.Header.{unit_header_size, IsSize, field, address_size, abbrev_offset, version4, kind_fields}
use Rattle.dw_entries.specs.Header.{UnitHeader, HeaderKind, version5, header_fields, header_and_body, Rule}
use Rattle.dw_forms.specs.Spans.{Spans, spans_then, spans_mapped, spans_end, spans_nothing, spans_choose, spans_tested}
use Rattle.dw_forms.specs.Spans.{spans_failing}
use Rattle.dw_forms.specs.WithBytes.{squashed}

-- nothing is known of the value
abbrev Any : ℕ → Type 0
Any n = Unit {0}

field_spans : (size : ℕ) → Spans (field size) 0 (λ n. size) Any
field_spans size = record { of = λ text n s. (omega (arith, ap length s.1.same, s.1.wide), tt) }

size_spans : Spans address_size 0 (λ n. 1) IsSize
unfolding address_size
size_spans = spans_tested BadAddressSize (field_spans 1) (λ n good. from n (eqb n 4) refl good)
  where
    from : (n : ℕ) (b : Bool) → eqb n 4 ≡ b → (b || eqb n 8) ≡ true → IsSize n
    from n true four good = inl (eqb-true _ _ four)
    from n false four good = inr (eqb-true _ _ good)

offset_spans : (abbrev_size : ℕ) → Spans (abbrev_offset abbrev_size) 0 (λ n. 4) (λ n. n < abbrev_size)
unfolding abbrev_offset
offset_spans abbrev_size = spans_tested BadAbbrevOffset (field_spans 4) (λ n low. ltb-true _ _ low)

-- what is known of the fields of a header with this unit_length
record AreFields (abbrev_size unit_length : ℕ) (h : UnitHeader) : Type 0 where
  pub length_is : h.unit_length ≡ unit_length
  pub size : IsSize h.address_size
  pub table : h.abbrev_offset < abbrev_size

-- the fields of a type unit alone
kind_spans : (code : ℕ) {Q : HeaderKind → Type 0} → ((kind : HeaderKind) → Q kind)
    → Spans (kind_fields code) 12 unit_header_size Q
unfolding kind_fields
kind_spans code q =
    spans_choose (eqb code 1) (spans_nothing refl (q CompileUnit)) (
    spans_choose (eqb code 3) (spans_nothing refl (q PartialUnit)) (
    spans_then (field_spans 8) (λ signature any. spans_mapped (spans_end (field_spans 4) (λ offset any.
    (refl, q (TypeUnit signature offset)))))))

module _ (abbrev_size unit_length : ℕ) where
  -- so many bytes of a header come before these fields, and this is known of it after them
  abbrev SpansFields : Format UnitHeader Rule → ℕ → Type 0
  SpansFields f before = Spans f before (λ h. unit_header_size h.kind) (AreFields abbrev_size unit_length)

  version4_spans : SpansFields (version4 abbrev_size unit_length) 6
  unfolding version4
  version4_spans =
      spans_then (offset_spans abbrev_size) (λ offset low. spans_mapped (spans_end size_spans
      (λ size good. (refl, record { length_is = refl; size = good; table = low }))))

  version5_spans : SpansFields (version5 abbrev_size unit_length) 6
  unfolding version5
  version5_spans =
      spans_then (spans_tested BadUnitType {Q = Any} (field_spans 1) (λ code known. tt)) (λ code any.
      spans_then size_spans (λ size good. spans_then (offset_spans abbrev_size) (λ offset low.
      spans_mapped (kind_spans code (λ kind. record { length_is = refl; size = good; table = low })))))

  fields_span : SpansFields (header_fields abbrev_size unit_length) 4
  unfolding header_fields
  fields_span =
      spans_then (field_spans 2) (λ version any. spans_choose (eqb version 4) version4_spans
      (spans_choose (eqb version 5) version5_spans (spans_failing {wrong = BadVersion})))

-- a unit whose header and body are spelled: its sizes, and its header's fields
pub record IsSized (abbrev_size : ℕ) (text : List ℕ) (h : UnitHeader) (body : List ℕ) : Type 0 where
  pub unit_length : little_number 4 (take 4 text) ≡ h.unit_length
  pub format : h.unit_length < 0xfffffff0
  pub whole : length text ≡ 4 + h.unit_length
  pub header : length text ≡ unit_header_size h.kind + length body
  pub ends : take (unit_header_size h.kind) text ++ body ≡ text
  pub size : IsSize h.address_size
  pub table : h.abbrev_offset < abbrev_size

pub is_sized : (abbrev_size : ℕ) (text : List ℕ) (h : UnitHeader) (body : List ℕ)
    → (header_and_body abbrev_size).Spells text (h, body) → IsSized abbrev_size text h body
unfolding header_and_body
is_sized abbrev_size text h body s =
    let counted = s.is_first in
    let content = counted.is_second in
    let (nothing_more, inside) = s.is_second in
    let (number, low) = tested_is (λ len. ltb len 0xfffffff0) Not32Bit (field 4) counted.first counted.value
    counted.is_first in
    let (long, f) = (fields_span abbrev_size s.value.0).of inside.text h inside.spelled in
    let len_is : counted.value ≡ s.value.0 = ap (λ (v : ℕ × List ℕ). v.0) (sym content.2) in
    let content_is : counted.second ≡ s.value.1 =
    content.1.same ∙ ap (λ (v : ℕ × List ℕ). v.1) (sym content.2) in
    let four : length counted.first ≡ 4 = ap length number.1.same ∙ number.1.wide in
    let parts : text ≡ counted.first ++ counted.second =
    s.parts ∙ ap (λ (t : List ℕ). s.first ++ t) nothing_more ∙ append-nil s.first ∙ counted.parts in
    let split : text ≡ (counted.first ++ inside.text) ++ body =
    parts ∙ ap (λ (t : List ℕ). counted.first ++ t) (content_is ∙ inside.parts)
    ∙ sym (append_assoc counted.first inside.text body) in
    let front : take 4 text ≡ counted.first =
    ap (take 4) parts ∙ take_at counted.first counted.second 4 four in
    let size : length (counted.first ++ inside.text) ≡ unit_header_size h.kind =
    omega (arith, length-append counted.first inside.text, four, long) in
    let header : take (unit_header_size h.kind) text ≡ counted.first ++ inside.text =
    ap (take (unit_header_size h.kind)) split
    ∙ take_at (counted.first ++ inside.text) body (unit_header_size h.kind) size in
    record {
      unit_length =
          ap (little_number 4) (front ∙ number.1.same) ∙ sym number.2 ∙ len_is ∙ sym f.length_is;
      format = subst (λ (n : ℕ). n < 0xfffffff0) (len_is ∙ sym f.length_is) (ltb-true _ _ low);
      whole =
          omega (
            arith,
            ap length parts,
            length-append counted.first counted.second,
            four,
            ap length content.1.same,
            content.1.wide,
            len_is,
            f.length_is,
          );
      header = ap length split ∙ length-append (counted.first ++ inside.text) body
          ∙ ap (λ (n : ℕ). n + length body) size;
      ends = ap (λ (t : List ℕ). t ++ body) header ∙ sym split;
      size = f.size;
      table = f.table;
    }

-- ---- one header at most

module _ (abbrev_size : ℕ) where
  -- what is read of a unit
  abbrev pub Read : Type 0
  Read = UnitHeader × List ℕ

  pub read_set : IsSet (Result (Read × List ℕ) Rule)
  read_set = hlevel props

  -- a unit's header and body, where nothing tells how they are spelled
  abbrev pub unit_format : Format Read Rule
  unit_format = squashed (header_and_body abbrev_size) read_set

  pub sized : (text : List ℕ) (h : UnitHeader) (body : List ℕ) → unit_format.Spells text (h, body)
      → IsSized abbrev_size text h body
  sized text h body s = ∥∥₁_elim s (hlevel (props, size_unique)) (is_sized abbrev_size text h body)

  -- no unit's bytes begin another's
  pub headers_apart : (a b x y : List ℕ) (v w : Read) → unit_format.Spells a v → unit_format.Spells b w
      → a ++ x ≡ b ++ y → (a ≡ b) × (v ≡ w)
  headers_apart = apart unit_format

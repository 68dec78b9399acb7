-- Whole units, and then bytes at which a rule of trees fails: it fails there in the sections.
use Rattle.std.proofs.Common.{rules, ◌≡◌, ℕ, ◌+◌, ◌≤◌, List, [], ◌++◌, length, take, drop, Result, Ok, Err, refl, sym, ap, subst, ◌∙◌, arith, append_assoc, append-nil, Bool, true, false, length-append, ltb, nat_lt, le-ltb, ltb-false}
use Rattle.std.proofs.lemmas.Grind.{flat_map-append}
use Rattle.dw_entries.specs.declared.fault.PlainFault.{PlainFault}
use Rattle.dw_entries.specs.declared.header.UnitHeader.{UnitHeader}
use Rattle.dw_entries.specs.Header.{header_at, unit_at, Rule}
use Rattle.dw_forms.specs.BaseFormats.{so_many, taken_at}
use Rattle.dw_forms.specs.Formats.{choose, failing, mapped, nothing}
use Rattle.dw_forms.specs.Steps.{◌>>=◌}
use Rattle.dw_forms.specs.declared.rule.Rule.TheVariants.{UnitCut, Not32Bit}
use Rattle.byteorder.specs.Endian.{little_number}
use Rattle.std.proofs.lemmas.List.{take-append-le, drop-append-le, nil_from_length}
use Rattle.dw_entries.specs.Units.{unit_bytes, units_bytes}
use Rattle.dw_entries.specs.Faults.{FailsAs, Fails}
use Rattle.dw_entries.proofs.HeadLaws.{all-append}
use Rattle.dw_units.specs.ByUnit.{TreesOfUnits}

pub trees_first : TreesOfUnits
trees_first s before rest broken are parts fails =
    let joined = flat_map-append unit_bytes before fails.units in
    let long : s.base + length (units_bytes before) + length (units_bytes fails.units)
    ≡ s.base + length (units_bytes (before ++ fails.units)) =
    omega (arith, ap length joined, length-append (units_bytes before) (units_bytes fails.units)) in
    search (rules, joined, long, all-append, append_assoc)

-- ---- what fails in some bytes, with more behind them

taken_before : (n : ℕ) (bytes more : List ℕ) → n ≤ length bytes
    → taken_at UnitCut n (bytes ++ more) ≡ Ok (take n bytes, drop n bytes ++ more)
unfolding taken_at
taken_before n bytes more long = search (rules, le-ltb, length-append, take-append-le, drop-append-le)

taken_short : (n : ℕ) (bytes : List ℕ) → ltb (length bytes) n ≡ true → taken_at UnitCut n bytes ≡ Err UnitCut
unfolding taken_at
taken_short n bytes short = rw short refl

-- a unit after its unit_length n, by whether n is below the numbers that mark other formats
abbrev after_length : ℕ → Bool → List ℕ → Result (ℕ × List ℕ) Rule
after_length n b rest =
    ((choose b (nothing {A = ℕ} {E = Rule} n) (failing {A = ℕ} Not32Bit)).read rest
    >>= λ len. (mapped (λ (content : List ℕ). (len.0, content)) (so_many UnitCut len.0)).read len.1)
    >>= λ unit. Ok unit.0

unit_front : (bytes more : List ℕ) → 4 ≤ length bytes
    → unit_at (bytes ++ more) ≡ after_length (little_number 4 (take 4 bytes))
    (nat_lt (little_number 4 (take 4 bytes)) 0xfffffff0) (drop 4 bytes ++ more)
unfolding unit_at
unit_front bytes more four = rw (taken_before 4 bytes more four) refl

unit_short : (bytes : List ℕ) → ltb (length bytes) 4 ≡ true → unit_at bytes ≡ Err UnitCut
unfolding unit_at
unit_short bytes short = rw (taken_short 4 bytes short) refl

after_more : (n : ℕ) (b : Bool) (content more : List ℕ) → (after_length n b content ≡ Err UnitCut → ⊥)
    → after_length n b (content ++ more) ≡ after_length n b (content ++ [])
after_more n false content more long = refl
after_more n true content more long = go (ltb (length content) n) refl
  where
    go : (short : Bool) → ltb (length content) n ≡ short
        → after_length n true (content ++ more) ≡ after_length n true (content ++ [])
    go true short = search (rules, taken_short)
    go false fits = search (rules, ltb-false, taken_before)

-- a unit that is not cut is read from its own bytes alone
unit_more : (bytes more : List ℕ) → (unit_at bytes ≡ Err UnitCut → ⊥) → unit_at (bytes ++ more) ≡ unit_at bytes
unit_more bytes more whole = go (ltb (length bytes) 4) refl
  where
    n : ℕ
    n = little_number 4 (take 4 bytes)

    go : (short : Bool) → ltb (length bytes) 4 ≡ short → unit_at (bytes ++ more) ≡ unit_at bytes
    go true short = absurd (whole (unit_short bytes short))
    go false fits =
        let four = ltb-false (length bytes) 4 fits in
        let alone : unit_at bytes ≡ after_length n (nat_lt n 0xfffffff0) (drop 4 bytes ++ []) =
        ap unit_at (sym (append-nil bytes)) ∙ unit_front bytes [] four in
        let content = append-nil (drop 4 bytes) in
        unit_front bytes more four ∙ after_more n (nat_lt n 0xfffffff0) (drop 4 bytes) more (λ cut.
        whole (alone ∙ ap (after_length n (nat_lt n 0xfffffff0)) content ∙ cut)) ∙ sym alone

header_more : (size : ℕ) (bytes more : List ℕ) → (header_at size bytes ≡ Err UnitCut → ⊥)
    → header_at size (bytes ++ more) ≡ header_at size bytes
unfolding header_at
header_more size bytes more whole = search (rules, unit_more)

-- a rule of trees that fails in some bytes fails with more behind them, unless the bytes end inside a unit
pub fails_with_more : («abbrev» : List ℕ) (at : ℕ) (bytes more : List ℕ) (broken : PlainFault)
    → (broken.rule ≡ UnitCut → ⊥) → Fails «abbrev» at bytes broken → Fails «abbrev» at (bytes ++ more) broken
fails_with_more «abbrev» at bytes more broken whole fails = record {
  units = fails.units;
  rest = fails.rest ++ more;
  are = fails.are;
  parts = ap (λ (xs : List ℕ). xs ++ more) fails.parts ∙ append_assoc (units_bytes fails.units) fails.rest more;
  more = λ none. fails.more (nil_from_length fails.rest
      (omega (arith, ap length none, length-append fails.rest more)));
  fails = subst (λ (r : Result (UnitHeader × List ℕ) Rule). FailsAs «abbrev» header r broken)
      (sym (header_more (length «abbrev») fails.rest more (λ cut. whole
      (ap (λ (b : PlainFault). b.rule)
      (subst (λ (r : Result (UnitHeader × List ℕ) Rule). FailsAs «abbrev» header r broken) cut fails.fails)))))
      fails.fails;
}
  where
    header : ℕ
    header = at + length (units_bytes fails.units)

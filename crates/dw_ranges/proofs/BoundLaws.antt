-- The ranges of a list do not end before they start, and do not pass the greatest address.
use Rattle.std.proofs.Common.{◌≡◌, ℕ, zero, suc, ◌+◌, Bool, true, false, List, Option, Some, Result, Ok, Err}
use Rattle.std.proofs.Common.{All, refl, sym, subst, arith}
use Rattle.std.specs.Prelude.{IfOk, nat_le, nat_lt, ◌&&◌, if◌then◌else◌}
use Rattle.std.proofs.lemmas.Bool.Decides.{nat_tests}
use Rattle.std.proofs.lemmas.List.Elements.{All-nil, All-cons}
use Rattle.dw_forms.specs.Formats.{Format, choose, failing}
use Rattle.dw_forms.specs.Steps.{◌>>=◌}
use Rattle.dw_ranges.specs.Addresses.{IsBounded, greatest_address, based, bounded}
use Rattle.dw_ranges.specs.RangeLists.{range, meaning, indexed_in, known, meant, ranges_from, ranges_with, SpellsList}
use Rattle.dw_ranges.specs.declared.addresses.UnitAddresses.{UnitAddresses}
use Rattle.dw_ranges.specs.declared.fault.ListFault.{ListFault}
use Rattle.dw_ranges.specs.declared.list.Meaning.{Meaning}
use Rattle.dw_ranges.specs.declared.list.Meaning.TheVariants.{End, Base, Bounded}
use Rattle.dw_ranges.specs.declared.list_entry.ListEntry.{ListEntry}
use Rattle.dw_ranges.specs.declared.list_entry.ListEntry.TheVariants.{EndOfList, BaseAddressx, StartxEndx, StartxLength}
use Rattle.dw_ranges.specs.declared.list_entry.ListEntry.TheVariants.{OffsetPair, BaseAddress, StartEnd, StartLength}
use Rattle.dw_ranges.specs.declared.range.Range.{Range}
use Rattle.dw_ranges.specs.declared.rule.RangeRule.{RangeRule}
use Rattle.dw_ranges.specs.declared.rule.RangeRule.TheVariants.{BadRange}

bind_ok : {A B E : Type 0} (r : Result A E) (f : A → Result B E) (P : B → Type 0) → ((a : A) → IfOk (f a) P)
    → IfOk (r >>= f) P
bind_ok (Ok a) f P h = h a
bind_ok (Err e) f P h = tt

-- two tests that pass
passed : (size low high : ℕ) (b : Bool) → (nat_le low high && nat_le high (greatest_address size)) ≡ b
    → IfOk (let r : Result Range RangeRule = if b then Ok (record { low = low; high = high }) else Err BadRange in r)
    (IsBounded size)
passed size low high true e = grind (arith, nat_tests)
passed size low high false e = tt

-- what an entry means, if it is a range, is bounded
abbrev IsGood : ℕ → Meaning → Type 0
IsGood size End = Unit {0}
IsGood size (Base address) = Unit {0}
IsGood size (Bounded r) = IsBounded size r

as_meaning : (size : ℕ) (r : Result Range RangeRule) → IfOk r (IsBounded size)
    → IfOk (r >>= λ r. (let m : Result Meaning RangeRule = Ok (Bounded r) in m)) (IsGood size)
as_meaning size (Ok r) h = h
as_meaning size (Err e) h = tt

module _ (unit : UnitAddresses) where
  range_good : (low high : ℕ) → IfOk (range unit low high) (IsGood unit.address_size)
  range_good low high =
      as_meaning unit.address_size (bounded unit.address_size low high) (passed unit.address_size low high _ refl)

  meaning_good : (base : Option ℕ) (e : ListEntry) → IfOk (meaning unit base e) (IsGood unit.address_size)
  unfolding meaning
  meaning_good base EndOfList = tt
  meaning_good base (BaseAddressx index) = bind_ok (indexed_in unit index) _ (IsGood unit.address_size) (λ a. tt)
  meaning_good base (StartxEndx start end) =
      bind_ok (indexed_in unit start) _ (IsGood unit.address_size)
      (λ low. bind_ok (indexed_in unit end) _ (IsGood unit.address_size) (λ high. range_good low high))
  meaning_good base (StartxLength start len) =
      bind_ok (indexed_in unit start) _ (IsGood unit.address_size) (λ low. range_good low (low + len))
  meaning_good base (OffsetPair start end) =
      bind_ok (based base) _ (IsGood unit.address_size) (λ b. range_good (b + start) (b + end))
  meaning_good base (BaseAddress address) = tt
  meaning_good base (StartEnd low high) = range_good low high
  meaning_good base (StartLength low len) = range_good low (low + len)

  known_good : (r : Result Meaning RangeRule) (text : List ℕ) (m : Meaning) → IfOk r (IsGood unit.address_size)
      → (known r).Spells text m → IsGood unit.address_size m
  known_good (Ok a) text m h s = subst (IsGood unit.address_size) (sym s.1) h
  known_good (Err e) text m h s = absurd s

  meant_good : (base : Option ℕ) (text : List ℕ) (m : Meaning) → (meant unit base).Spells text m
      → IsGood unit.address_size m
  unfolding meant
  meant_good base text m s = known_good (meaning unit base s.value) s.second m (meaning_good base s.value) s.is_second

  with_meaning : (after : Option ℕ → Format (List Range) ListFault)
      → ((base : Option ℕ) (text : List ℕ) (rs : List Range) → (after base).Spells text rs
      → All (IsBounded unit.address_size) rs) → (base : Option ℕ) (m : Meaning) → IsGood unit.address_size m
      → (text : List ℕ) (rs : List Range) → (ranges_with after base m).Spells text rs
      → All (IsBounded unit.address_size) rs
  with_meaning after all base End good text rs s =
      subst (All (IsBounded unit.address_size)) (sym s.1) (All-nil (IsBounded unit.address_size))
  with_meaning after all base (Base address) good text rs s = all (Some address) text rs s
  with_meaning after all base (Bounded r) good text rs s =
      subst (All (IsBounded unit.address_size)) (sym s.2)
      (All-cons (IsBounded unit.address_size) r s.0 good (all base text s.0 s.1))

  all_bounded : (end bound : ℕ) (base : Option ℕ) (text : List ℕ) (rs : List Range)
      → (ranges_from unit end bound base).Spells text rs → All (IsBounded unit.address_size) rs
  unfolding ranges_from
  all_bounded end zero base text rs s = absurd s
  all_bounded end (suc bound) base text rs s =
      with_meaning (ranges_from unit end bound) (all_bounded end bound) base s.value
      (meant_good base s.first s.value s.is_first) s.second rs s.is_second

  chosen : (end offset : ℕ) (b : Bool) (fault : ListFault) (text : List ℕ) (rs : List Range)
      → (choose b (ranges_from unit end (suc end) unit.base) (failing fault)).Spells text rs
      → All (IsBounded unit.address_size) rs
  chosen end offset true fault text rs s = all_bounded end (suc end) unit.base text rs s
  chosen end offset false fault text rs s = absurd s

  pub list_bounded : (end offset : ℕ) (text : List ℕ) (rs : List Range) → SpellsList unit end offset text rs
      → All (IsBounded unit.address_size) rs
  list_bounded end offset text rs s = chosen end offset (nat_lt offset end) _ text rs s

-- The first item of a list that passes a test, and the entry that a value reaches.
use Rattle.std.proofs.Common.{rules, ltb, get_or, ◌≤◌, ◌≡◌, ℕ, ◌+◌, ◌<◌, Bool, true, false, cond, List, Option, Some, None, IfSome, IfNone, refl, sym, ap, ◌∙◌, arith, ◌==◌, ◌&&◌, length, option_and_then, subst, eq-eqb, slice_get, All, ◌≢◌}
use Rattle.std.specs.List.{position_from, position_or_len}
use Rattle.std.proofs.lemmas.Option.{slice_get_within, slice_get-get_or, get_or_from_slice_get, option_and_then_some, cond_some}
use Rattle.std.proofs.lemmas.Bool.{and_parts, false_from_ne_true as false_unless, eqb-true, ltb-true, ltb-false, lt-ltb}
use Rattle.std.proofs.lemmas.Iterator.Adapters.{position_from-zero}
use Rattle.std.proofs.lemmas.List.Sums.{position_or_len_is, passes_at_first, fails_before_first}
use Rattle.dw_forms.specs.Value.{Datum, ref_info, ref_unit, ref_sig}
use Rattle.dw_entries.specs.EntryRules.{OffsetsRise}
pub use Rattle.dw_entries.specs.ByNumber.{no_entry, no_placed, entry_of, placed_of, Entry, PlacedUnit}
use Rattle.dw_entries.specs.EntriesAt.{IsEntryAt, IsEntryIn, ReachesInUnit}
use Rattle.dw_links.proofs.ListLookups.{there}
use Rattle.dw_links.specs.LinkLaws.{ReachesBySignature}
pub use Rattle.dw_links.specs.Signatures.{type_unit_of, HasSignature, is_signature_of, first_signed, HaveDistinctSignatures}
use Rattle.dw_links.specs.SignedTypes.{IsSignedType}
use Rattle.dw_links.specs.Targets.{entry_at, entry_number_at, reach_in_unit, type_of_unit, signed_type, reach_of}

past : (b : Bool) (p n : ℕ) → ltb p n ≡ b → cond b (Some p) None ≡ None → n ≤ p
past true p n q e = absurd cc
past false p n q e = ltb-false p n q

-- the place of the first item that passes the test is the position
module _ {X : Type 0} (test : X → Bool) (xs : List X) where
  pub position_is : (i : ℕ) (x : X) → slice_get xs i ≡ Some x → test x ≡ true
      → ((j : ℕ) (y : X) → j < i → slice_get xs j ≡ Some y → test y ≡ false) → position_from test 0 xs ≡ Some i
  position_is i x is passes before =
      let within = slice_get_within xs i x is in
      let is_i : position_or_len test xs ≡ i = position_or_len_is test xs i x (omega (arith, within))
      (λ k lt. before k (get_or xs k x) lt (slice_get-get_or xs k x (omega (arith, within, lt))))
      (λ _. ap test (get_or_from_slice_get xs i x x is) ∙ passes) in
      sym (position_from-zero test xs) ∙ rw (is_i, lt-ltb i (length xs) within) refl

  -- at the position is such an item
  pub place_is : (k : ℕ) → position_from test 0 xs ≡ Some k → (x : X) × (slice_get xs k ≡ Some x) × (test x ≡ true)
  place_is k is =
      let (less, same) = cond_some (ltb (position_or_len test xs) (length xs)) (position_or_len test xs) k
      (position_from-zero test xs ∙ is) in
      let within = ltb-true (position_or_len test xs) (length xs) less in
      let (x, is_x) = there xs k (omega (arith, same, within)) in (
        x,
        is_x,
        ap test (sym (get_or_from_slice_get xs k x x is_x) ∙ ap (λ (n : ℕ). get_or xs n x) (sym same))
            ∙ passes_at_first test xs x within,
      )

  -- where there is no position, no item passes
  pub none_passes : position_from test 0 xs ≡ None → (j : ℕ) (y : X) → slice_get xs j ≡ Some y → test y ≡ false
  none_passes none j y at =
      let all = past (ltb (position_or_len test xs) (length xs)) (position_or_len test xs) (length xs) refl
      (position_from-zero test xs ∙ none) in
      ap test (sym (get_or_from_slice_get xs j y y at))
      ∙ fails_before_first test xs j y (omega (arith, all, slice_get_within xs j y at))

-- an answer that is exact both ways is the one that a function gives
pub answer_is : (Is : ℕ → Type 0) (given answer : Option ℕ) → ((i : ℕ) → given ≡ Some i → Is i)
    → ((i : ℕ) → Is i → given ≡ Some i) → IfSome answer Is → IfNone answer ((i : ℕ) → Is i → ⊥) → answer ≡ given
answer_is Is given (Some i) back over some none = sym (over i some)
answer_is Is None None back over some none = refl
answer_is Is (Some k) None back over some none = absurd (none k (back k refl))

-- ---- entries by their offsets

-- an entry that passes a test on its offset is the first that does
at_offset : (test : Entry → Bool) (entries : List Entry) (offset id : ℕ) → OffsetsRise entries
    → ((e : Entry) → test e ≡ true → e.at ≡ offset) → id < length entries → test (entry_of entries id) ≡ true
    → position_from test 0 entries ≡ Some id
at_offset test entries offset id rise at within passes =
    let e = entry_of entries id in
    let is = slice_get-get_or entries id no_entry within in
    position_is test entries id e is passes
    (λ j d lt is_d. false_unless (test d) (λ also. omega (arith, rise j id d e lt is_d is, at d also, at e passes)))

found_entry : (test : Entry → Bool) (entries : List Entry) (id : ℕ) → position_from test 0 entries ≡ Some id
    → (id < length entries) × (test (entry_of entries id) ≡ true)
found_entry test entries id is =
    let (e, is_e, passes) = place_is test entries id is in
    (slice_get_within entries id e is_e, ap test (get_or_from_slice_get entries id e no_entry is_e) ∙ passes)

module _ (entries : List Entry) where
  pub entry_at_is : (offset id : ℕ) → OffsetsRise entries → IsEntryAt entries offset id
      → entry_at entries offset ≡ Some id
  unfolding entry_at
  entry_at_is offset id rise found =
      at_offset (λ (e : Entry). e.at == offset) entries offset id rise (λ e. eqb-true e.at offset) found.within
      (eq-eqb (entry_of entries id).at offset found.begins)

  pub there_is : (offset id : ℕ) → entry_at entries offset ≡ Some id → IsEntryAt entries offset id
  unfolding entry_at
  there_is offset id is =
      let found = found_entry (λ (e : Entry). e.at == offset) entries id is in
      record { within = found.0; begins = eqb-true (entry_of entries id).at offset found.1 }

  pub entry_number_is : (unit offset id : ℕ) → OffsetsRise entries → IsEntryIn entries unit offset id
      → entry_number_at entries unit offset ≡ Some id
  unfolding entry_number_at
  entry_number_is unit offset id rise found =
      let e = entry_of entries id in
      at_offset (λ (e : Entry). e.unit == unit && e.at == offset) entries offset id rise
      (λ e is. eqb-true e.at offset (and_parts (e.unit == unit) (e.at == offset) is).1) found.within
      (rw (eq-eqb e.unit unit found.in_unit, eq-eqb e.at offset found.begins) refl)

  pub at_entry_number : (unit offset id : ℕ) → entry_number_at entries unit offset ≡ Some id
      → IsEntryIn entries unit offset id
  unfolding entry_number_at
  at_entry_number unit offset id is =
      let e = entry_of entries id in
      let found = found_entry (λ (e : Entry). e.unit == unit && e.at == offset) entries id is in
      let both = and_parts (e.unit == unit) (e.at == offset) found.1 in
      record {
        within = found.0;
        begins = eqb-true e.at offset both.1;
        in_unit = eqb-true e.unit unit both.0;
      }

  -- what a search by offset answers
  pub entry_found : (offset : ℕ) (answer : Option ℕ) → OffsetsRise entries
      → IfSome answer (λ id. (entry_of entries id).at ≡ offset) → IfSome answer (λ id. id < length entries)
      → IfNone answer (All (λ e. e.at ≢ offset) entries) → answer ≡ entry_at entries offset
  entry_found offset None rise found within none =
      answer_is (IsEntryAt entries offset) (entry_at entries offset) None (there_is offset)
      (λ id. entry_at_is offset id rise) tt (λ id found. none id no_entry found.within found.begins)
  entry_found offset (Some id) rise found within none =
      sym (entry_at_is offset id rise (record { within = within; begins = found }))

-- ---- entries by their offsets from a header

module _ (entries : List Entry) (units : List PlacedUnit) where
  pub reach_in_unit_is : (unit offset id : ℕ) → OffsetsRise entries → ReachesInUnit entries units unit offset id
      → reach_in_unit entries units unit offset ≡ Some id
  reach_in_unit_is unit offset id rise reached =
      rw (slice_get-get_or units unit no_placed reached.unit_within)
      (entry_number_is entries unit ((placed_of units unit).at + offset) id rise reached.target)

  pub at_reach_in_unit : (unit offset id : ℕ) → reach_in_unit entries units unit offset ≡ Some id
      → ReachesInUnit entries units unit offset id
  at_reach_in_unit unit offset id is =
      option_and_then_some (λ (u : PlacedUnit). entry_number_at entries unit (u.at + offset)) (slice_get units unit) id
      is
      (λ u is_u found.
      let same = get_or_from_slice_get units unit u no_placed is_u in
      record {
        unit_within = slice_get_within units unit u is_u;
        target =
            at_entry_number entries unit ((placed_of units unit).at + offset) id
            (ap (λ (x : PlacedUnit). entry_number_at entries unit (x.at + offset)) same ∙ found);
      })

  pub reach_in_unit_answer : (unit offset : ℕ) (answer : Option ℕ) → OffsetsRise entries
      → IfSome answer (ReachesInUnit entries units unit offset)
      → IfNone answer ((id : ℕ) → ReachesInUnit entries units unit offset id → ⊥)
      → answer ≡ reach_in_unit entries units unit offset
  reach_in_unit_answer unit offset answer rise =
      search (rules, answer_is, at_reach_in_unit, reach_in_unit_is)

-- ---- type units by their signatures

is_signed : (signature type_offset : ℕ) (o : Option (ℕ × ℕ)) → o ≡ Some (signature, type_offset)
    → is_signature_of signature o ≡ true
is_signed signature type_offset o is = rw is (eq-eqb signature signature refl)

signed_with : (signature : ℕ) (o : Option (ℕ × ℕ)) → is_signature_of signature o ≡ true
    → (type_offset : ℕ) × (o ≡ Some (signature, type_offset))
signed_with signature None is = absurd cc
signed_with signature (Some (other, type_offset)) is =
    let same : other ≡ signature = eqb-true other signature is in (type_offset, rw same refl)

abbrev signs : ℕ → PlacedUnit → Bool
signs signature u = is_signature_of signature (type_unit_of u.unit.header.kind)

module _ (units : List PlacedUnit) (signature : ℕ) where
  signature_here : (number : ℕ) (u : PlacedUnit) → slice_get units number ≡ Some u → signs signature u ≡ true
      → HasSignature units signature number
  signature_here number u is passes = search (rules, signed_with)

  -- the first unit that is found has the signature
  pub at_first_signed : (number : ℕ) → first_signed units signature ≡ Some number → HasSignature units signature number
  unfolding first_signed
  at_first_signed number is =
      let (u, is_u, passes) = place_is (signs signature) units number is in
      signature_here number u is_u passes

  -- a unit that has it, and none before it has, is found first
  pub first_signed_is : (number : ℕ) → HasSignature units signature number
      → ((j : ℕ) → j < number → HasSignature units signature j → ⊥) → first_signed units signature ≡ Some number
  unfolding first_signed
  first_signed_is number has none =
      search (rules, position_is, is_signed, false_unless, signature_here)

  -- where none is found, none has the signature
  pub none_signed : first_signed units signature ≡ None → (number : ℕ) → HasSignature units signature number → ⊥
  unfolding first_signed
  none_signed none number has = search (rules, is_signed, none_passes)

-- ---- types by signatures

module _ (entries : List Entry) (units : List PlacedUnit) where
  pub type_of_unit_is : (unit signature type_offset : ℕ) (u : PlacedUnit) (target : Option ℕ)
      → slice_get units unit ≡ Some u → type_unit_of u.unit.header.kind ≡ Some (signature, type_offset)
      → reach_in_unit entries units unit type_offset ≡ target → type_of_unit entries units unit ≡ target
  type_of_unit_is unit signature type_offset u target is kind reached = search (rules)

  -- at the type offset of the first type unit that has the signature
  pub at_type : (signature id : ℕ)
      → option_and_then (type_of_unit entries units) (first_signed units signature) ≡ Some id
      → ReachesBySignature entries units signature id
  at_type signature id is =
      option_and_then_some (type_of_unit entries units) (first_signed units signature) id is
      (λ number found typed.
      let has = at_first_signed units signature number found in
      let reached = at_reach_in_unit entries units number has.type_offset id
      (sym (type_of_unit_is number signature has.type_offset has.unit
      (reach_in_unit entries units number has.type_offset) has.is_unit has.signed refl) ∙ typed) in
      let same = get_or_from_slice_get units number has.unit no_placed has.is_unit in
      record {
        number = number;
        has = has;
        target = subst (λ (u : PlacedUnit). IsEntryIn entries number (u.at + has.type_offset) id) same reached.target;
      })

  pub type_is : (signature id : ℕ) → OffsetsRise entries → HaveDistinctSignatures units
      → ReachesBySignature entries units signature id
      → option_and_then (type_of_unit entries units) (first_signed units signature) ≡ Some id
  type_is signature id rise distinct reached =
      let within = slice_get_within units reached.number reached.has.unit reached.has.is_unit in
      let same = get_or_from_slice_get units reached.number reached.has.unit no_placed reached.has.is_unit in
      rw (first_signed_is units signature reached.number reached.has
      (λ j less has. let one = distinct signature j reached.number has reached.has in omega (arith, one, less)))
      (type_of_unit_is reached.number signature reached.has.type_offset reached.has.unit (Some id)
      reached.has.is_unit reached.has.signed
      (reach_in_unit_is entries units reached.number reached.has.type_offset id rise
      (record {
        unit_within = within;
        target =
            subst (λ (u : PlacedUnit). IsEntryIn entries reached.number (u.at + reached.has.type_offset) id) (sym same)
            reached.target;
      })))

  -- what is read of all units is the type of a signature
  pub signed_type_is : (signature : ℕ) (o : Option ℕ) → IsSignedType entries units signature (length units) o
      → o ≡ signed_type entries units signature
  signed_type_is signature None none =
      ap (option_and_then (type_of_unit entries units))
      (answer_is (λ i. first_signed units signature ≡ Some i) (first_signed units signature) None (λ i is. is)
      (λ i is. is) tt (λ i is. let has = at_first_signed units signature i is in
      none i (slice_get_within units i has.unit has.is_unit) has))
  signed_type_is signature (Some id) found =
      sym (rw found.2 found.3)

  -- ---- what a value reaches

  -- what is reached is an entry
  pub reached_within : (unit : ℕ) (v : Datum) (id : ℕ) → reach_of entries units unit v ≡ Some id → id < length entries
  reached_within unit (ref_info offset) id is =
      (there_is entries offset id is).within
  reached_within unit (ref_unit offset) id is =
      (at_reach_in_unit entries units unit offset id is).target.within
  reached_within unit (ref_sig signature) id is = (at_type signature id is).target.within
  reached_within unit _ id is = absurd cc

  -- so its number is below their count
  pub reach_within : (unit : ℕ) (v : Datum) (answer : Option ℕ) → answer ≡ reach_of entries units unit v
      → IfSome answer (λ t. t < length entries)
  reach_within unit v None is = tt
  reach_within unit v (Some t) is = search (rules, reached_within)

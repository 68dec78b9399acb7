use Rattle.std.proofs.Common.{rules, ◌≡◌, ◌≤◌, ℕ, List, length, refl, sym, ap, subst, ◌∙◌, arith}
use Rattle.dw_forms.specs.Value.{view}
use Rattle.dw_entries.specs.ValuePlaces.{PlacedValue}
use Rattle.dw_entries.specs.OwnBytes.{EndsAt}
use Rattle.dw_entries.specs.ValuesLeft.{placed_left}
use Rattle.dw_image.specs.Images.{entries_in, units_in, sections_in}
use Rattle.dw_entries.specs.ByNumber.{entry_of}
use Rattle.dw_entries.specs.Entries.{Entry}
use Rattle.dw_image.specs.declared.image.Image.{Image}
use Rattle.dwv_c.specs.declared.meaning.Meaning.{Meaning}
use Rattle.dwv_c.specs.Meanings.{named_after}
use Rattle.dwv_c.specs.declared.places.Holders.{Holders}
use Rattle.dwv_c.specs.ValueRows.{IsMeaning}
use Rattle.dw_forms.specs.declared.value.Value.{Value}
use Rattle.dwv_c.specs.Tables.{value_count}
use Rattle.dwv_c.proofs.TableLemmas.{IsAtValue, at_entry, at_last, at_next, name_at_last, rest_more, value_of_entry, values_more}
use Rattle.dwv_c.proofs.values.Resolver.put_values.Goals as goal

pub items-init : goal.items-init
unfolding units_in sections_in
items-init c = record {
  here =
      at_entry c.args.self.now.holders c.args.self.now.image.now c.args.id c.args.from
      (placed_left c.placed-left.result) c.requires.unit.within
      c.requires.from
      (rw c.scanned.ensures at c.placed-left.ensures.left);
  info = rw c.scanned.ensures at c.placed-left.ensures.info;
  rows = c.requires.before;
  rest = refl;
}

pub meaning-meaning-requires-clause-value : goal.meaning-meaning-requires-clause-value
meaning-meaning-requires-clause-value c =
    let h = c.args.self.now.holders in
    let i = c.args.self.now.image.now in
    let w = subst (λ (l : List PlacedValue). IsAtValue h i c.args.id c.items.at l c.items.named) c.in-Some.ensures.steps
    c.items.invariant.here in
    let own = value_of_entry h i c.args.id c.items.at _ (placed_left c.next_placed.new.self) c.items.named w
    c.args.unit c.requires.unit.in_unit in
    search (rules, own)

pub meaning-meaning-requires-clause-place : goal.meaning-meaning-requires-clause-place
meaning-meaning-requires-clause-place c =
    let place = subst (λ (s : List ℕ). EndsAt s (view c.in-Some.value) c.in-Some.end) c.items.invariant.info
    c.in-Some.ensures.place in
    search (rules, place)

means_same : (h : Holders) (i : Image) (e : Entry) (n m : ℕ) (v w : Value) (meaning : Meaning) → n ≡ m → v ≡ w
    → IsMeaning h i e n (view v) meaning → IsMeaning h i e m (view w) meaning
means_same h i e n m v w meaning same_end same means =
    subst (λ (k : ℕ). IsMeaning h i e k (view w) meaning) same_end
    (subst (λ (x : Value). IsMeaning h i e n (view x) meaning) same means)

-- what the value that was taken means
means_there : (c : goal.After-named_after-named)
    → IsMeaning c.args.self.now.holders c.args.self.now.image.now
    (entry_of (entries_in c.args.self.now.image.now) c.args.id) c.in-Some.end (view c.in-Some.value)
    c.meaning-meaning.result
means_there c =
    means_same c.args.self.now.holders c.args.self.now.image.now
    (entry_of (entries_in c.args.self.now.image.now) c.args.id) _ c.in-Some.end _ c.in-Some.value _
    (search (rules, c.in-Some.end-is))
    (search (rules, c.in-Some.value-is))
    (c.meaning-meaning.ensures (entry_of (entries_in c.args.self.now.image.now) c.args.id)
    (sym c.requires.unit.in_unit))

pub items-preserved : goal.items-preserved
items-preserved c =
    let h = c.args.self.now.holders in
    let i = c.args.self.now.image.now in
    let w = subst (λ (l : List PlacedValue). IsAtValue h i c.args.id c.items.at l c.items.named) c.in-Some.ensures.steps
    c.items.invariant.here in
    let row = c.value_row.result in
    let attribute : row.attribute ≡ c.in-Some.attribute = search rules in
    let named : c.named_after-named.result ≡ named_after c.items.named c.in-Some.attribute c.meaning-meaning.result =
    search rules in
    let means = means_there c in
    let room : value_count i ≤ length c.items.values = search rules in
    record {
      here =
          rw named
          (at_next h i c.args.id c.items.at _ (placed_left c.next_placed.new.self) c.items.named w
          c.meaning-meaning.result means);
      info = c.next_placed.ensures.info ∙ c.items.invariant.info;
      rows =
          values_more h i c.args.id c.items.at _ (placed_left c.next_placed.new.self) c.items.named w _ row
          c.meaning-meaning.result room c.items.invariant.rows (c.value_row.ensures.entry ∙ c.number.ensures)
          attribute c.value_row.ensures.meaning c.value_row.ensures.zero means;
      rest = rest_more c.items.values c.args.values.now c.items.at row c.items.invariant.rest;
    }

pub items-smaller : goal.items-smaller
items-smaller c = omega (arith, ap length c.in-Some.ensures.steps)

pub returns-clause-next : goal.returns-clause-next
returns-clause-next c =
    at_last c.args.self.now.holders c.args.self.now.image.now c.args.id c.items.at
    (placed_left c.items.left) c.items.named c.in_default.ensures.steps.0 c.items.invariant.here

pub returns-clause-name : goal.returns-clause-name
returns-clause-name c =
    rw c.flatten.ensures (name_at_last c.args.self.now.holders c.args.self.now.image.now c.args.id
    c.items.at (placed_left c.items.left) c.items.named c.in_default.ensures.steps.0 c.items.invariant.here)

use Rattle.std.proofs.Common.{rules, ◌≡◌, ℕ, ◌+◌, ◌<◌, ◌≤◌, drop, ap, subst, ◌∙◌, arith}
use Rattle.dw_image.specs.Images.{entry_count}
use Rattle.dwv_c.specs.Tables.{HaveEntries, HaveValues, value_count, values_before}
use Rattle.dwv_c.proofs.TableLemmas.{all_before, rest_on, values_rise}
use Rattle.dwv_c.proofs.values.Resolver.put_entries.Goals as goal

pub loop-number-preserved : goal.loop-number-preserved
loop-number-preserved c =
    let i = c.args.self.now.image.now in
    let n = c.loop-number.number in
    let so_far = c.loop-number.invariant in
    let put = c.put_entry-at.ensures in
    let below : n < entry_count i = search rules in
    let more : c.loop-number.at ≤ c.put_entry-at.result = omega (arith, values_rise i n below, so_far.at, put.next) in
    record {
      cursor = put.cursor;
      at = put.next;
      rows = put.rows;
      other_entries =
          rest_on c.loop-number.entries c.args.entries.now c.put_entry-at.new.entries n (n + 1) (omega arith)
          put.rest.0 so_far.other_entries;
      other_values =
          rest_on c.loop-number.values c.args.values.now c.put_entry-at.new.values c.loop-number.at
          c.put_entry-at.result more put.rest.1 so_far.other_values;
      within = omega (arith, below);
    }

pub returns-clause-rows : goal.returns-clause-rows
returns-clause-rows c =
    let i = c.args.self.now.image.now in
    let end : c.loop-number.number ≡ entry_count i = search rules in
    let all : c.loop-number.at ≡ value_count i = c.loop-number.invariant.at ∙ ap (values_before i) end ∙ all_before i in
    record {
      entries =
          subst (λ (n : ℕ). HaveEntries c.args.self.now.holders i n c.loop-number.entries) end
          c.loop-number.invariant.rows.entries;
      values =
          subst (λ (n : ℕ). HaveValues c.args.self.now.holders i n c.loop-number.values) all
          c.loop-number.invariant.rows.values;
    }

pub returns-clause-rest : goal.returns-clause-rest
returns-clause-rest c =
    let i = c.args.self.now.image.now in
    let end : c.loop-number.number ≡ entry_count i = search rules in
    let all : c.loop-number.at ≡ value_count i = c.loop-number.invariant.at ∙ ap (values_before i) end ∙ all_before i
    in (
      subst (λ (n : ℕ). drop n c.loop-number.entries ≡ drop n c.args.entries.now) end
          c.loop-number.invariant.other_entries,
      subst (λ (n : ℕ). drop n c.loop-number.values ≡ drop n c.args.values.now) all
          c.loop-number.invariant.other_values,
    )

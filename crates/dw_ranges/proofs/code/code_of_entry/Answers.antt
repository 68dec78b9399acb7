use Rattle.std.proofs.Common.{◌≡◌, ℕ, length, ◌<◌, ◌↔◌, List, inr, sym, ap, ◌∙◌, subst, arith}
use Rattle.std.specs.Prelude.{All}
use Rattle.std.proofs.lemmas.Bool.{iff_false}
use Rattle.dw_ranges.specs.Areas.{Has}
use Rattle.dw_ranges.specs.EntryRanges.{entry_ranges}
use Rattle.dw_ranges.specs.Live.{AreApart}
use Rattle.dw_ranges.specs.declared.fault.RangeFault.{RangeFault}
use Rattle.dw_ranges.specs.declared.range.Range.{Range}
use Rattle.dw_ranges.specs.declared.rule.RangeRule.TheVariants.{RangesMeet}
use Rattle.dw_ranges.proofs.CodeLemmas.{after_none, live_some}
use Rattle.dw_ranges.proofs.code.code_of_entry.Goals as goal

pub are_apart-requires : goal.are_apart-requires
are_apart-requires c =
    let all = c.ranges_of_entry.new.ranges.items in
    subst (All (λ (r : Range). r.low < r.high)) (sym (c.deref.ensures.value ∙ c.keep_live-dead.ensures.kept))
    (live_some c.args.code.now all)

pub returns-then-not-branch-clause-fault : goal.returns-then-not-branch-clause-fault
returns-then-not-branch-clause-fault c =
    let all = c.ranges_of_entry.new.ranges.items in
    let bytes = c.in_ok-bytes.bytes in
    let same = c.deref.ensures.value ∙ c.keep_live-dead.ensures.kept in
    inr (inr (record {
      ranges = all;
      bytes = bytes;
      are = after_none c.clear.new.self.items c.clear.ensures.items
          (entry_ranges c.args.sections.now c.args.unit.now c.args.entry.now) all bytes
          c.in_ok-bytes.ensures.exact;
      within = omega arith;
      meet = subst (λ (l : List Range). ¬ (AreApart l)) same (iff_false c.in_ok-are_apart.ensures c.if-not-branch.true);
      is =
          ap (λ (at : ℕ). (let f : RangeFault = record { rule = RangesMeet; at = at } in f))
          c.offset-then-not-branch.ensures;
    }))

pub returns-clause-found : goal.returns-clause-found
returns-clause-found c =
    let all = c.ranges_of_entry.new.ranges.items in
    let long : c.len-count.result ≡ length all = omega (arith, c.ranges_of_entry.new.ranges.ok.0) in
    let bytes = c.in_ok-bytes.bytes in
    let same = c.deref.ensures.value ∙ c.keep_live-dead.ensures.kept in
    record {
      ranges = all;
      bytes = bytes;
      are = after_none c.clear.new.self.items c.clear.ensures.items
          (entry_ranges c.args.sections.now c.args.unit.now c.args.entry.now) all bytes
          c.in_ok-bytes.ensures.exact;
      budgeted = omega arith;
      count = λ t. record { ranges = long t; dead = c.keep_live-dead.ensures.dead t };
      apart = subst AreApart same (c.in_ok-are_apart.ensures.0 c.if-not-branch.false);
      are_areas = c.join.ensures.areas;
      same = subst (λ (l : List Range). (a : ℕ) → Has c.join.new.ranges.items a ↔ Has l a) c.keep_live-dead.ensures.kept
          c.join.ensures.same;
    }

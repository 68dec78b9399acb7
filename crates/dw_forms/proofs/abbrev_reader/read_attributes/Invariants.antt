use Rattle.std.proofs.Common.{◌≤◌, length}
use Rattle.dw_forms.specs.AttributeBits.{AreSeen}
use Rattle.dw_forms.specs.declared.rule.Rule.TheVariants.{AbbrevCut}
use Rattle.dw_forms.specs.Abbrev.{broken}
use Rattle.dw_forms.specs.AbbrevReading.{pair_at, attributes_of}
use Rattle.dw_forms.proofs.SpelledLists.{ReadsOn}
use Rattle.dw_forms.proofs.abbrev_reader.read_attributes.Given as goal

abbrev pub invariant-loop-seen : goal.invariant-loop-seen
invariant-loop-seen l = record {
  within : length l.bytes.now ≤ length l.initial.bytes.now;
  seen : AreSeen l.attributes.items l.seen;
  goes_on : ReadsOn pair_at (broken AbbrevCut 0) l.attributes.items l.bytes.now (attributes_of l.initial.bytes.now);
}

abbrev pub decreases-loop-seen : goal.decreases-loop-seen
decreases-loop-seen l = length l.bytes.now

use Rattle.std.proofs.Common.{length, refl, arith}
use Rattle.dw_forms.proofs.OffsetLaws.{apart_none}
use Rattle.dw_forms.proofs.list_reader.KeptLists.new.Goals as goal

pub returns-clause-lists : goal.returns-clause-lists
returns-clause-lists c = λ section. rw (c.new.ensures, c.new-2.ensures, c.new-3.ensures.items) (record {
  starts_long = refl;
  rise = λ i j d le less. absurd (omega arith);
  first = λ some. absurd (omega arith);
  below = λ k d less. absurd (omega arith);
  lists = λ k count e less. absurd (omega arith);
  apart = apart_none (length section);
})

use Rattle.std.proofs.Common.{rules}
use Rattle.dw_forms.proofs.SuffixLaws.{found_within}
use Rattle.dw_forms.proofs.attributes.Attributes.find.Goals as goal

pub new-requires : goal.new-requires
new-requires c = search (rules, found_within)

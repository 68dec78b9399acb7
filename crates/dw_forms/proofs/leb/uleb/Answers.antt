use Rattle.std.proofs.Common.{rules}
use Rattle.dw_forms.proofs.SpellingSteps.{uleb_one, uleb_two}
use Rattle.dw_forms.proofs.leb.uleb.Goals as goal

pub returns-in-len1-up : goal.returns-in-len1-up
returns-in-len1-up c =
    uleb_one c.args.bytes.now c.from.result c.in-len1-up.len_at_least c.from.ensures c.if-byte-lt128.true

pub returns-in-len2-up : goal.returns-in-len2-up
returns-in-len2-up c = search (rules, uleb_two)

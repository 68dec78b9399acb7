use Rattle.std.proofs.Common.{rules, ◌≡◌, Some, false}
use Rattle.dw_image.specs.References.{is_declared}
use Rattle.dw_cprint.specs.EntryShapes.{tag_word}
use Rattle.dw_cprint.specs.LookUps.{entry_by, tag_at}
use Rattle.dw_cprint.proofs.NamedLemmas.{defined_named}
use Rattle.dw_cprint.proofs.named.kind_at.Goals as goal

pub returns-else-flag_at-clause-named : goal.returns-else-flag_at-clause-named
returns-else-flag_at-clause-named c =
    let image = c.args.image.now in
    let word = c.in_ok-word-in_default.word in
    let kind : tag_word (tag_at image c.args.id) ≡ Some word = search rules in
    let declared : is_declared (entry_by image c.args.id) ≡ false = search rules in
    defined_named image c.args.id word kind declared

use Rattle.std.proofs.Common.{◌+◌, ap, sym, ◌∙◌, ◌∷◌, take}
use Rattle.std.proofs.lemmas.List.{take_rest}
use Rattle.dwv_addr.specs.Addresses.{lines_of}
use Rattle.dwv_addr.proofs.AddressLemmas.{line_cut, line_whole}
use Rattle.dwv_addr.proofs.addresses.first_line.Goals as goal

pub returns-in-Some-clause-line : goal.returns-in-Some-clause-line
returns-in-Some-clause-line c =
    let text = c.args.text.now in
    let at = c.in-Some.at in
    line_cut text at c.in-Some.ensures.0.high c.in-Some.ensures.0.before c.in-Some.ensures.1
    ∙ ap (λ rest. take at text ∷ lines_of rest) (sym (take_rest text (at + 1)))

pub returns-in-None-clause-line : goal.returns-in-None-clause-line
returns-in-None-clause-line c = line_whole c.args.text.now c.requires c.in-None.ensures

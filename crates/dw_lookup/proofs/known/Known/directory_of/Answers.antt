use Rattle.std.proofs.Common.{sym, subst}
use Rattle.dw_entries.specs.Failures.{HasNone}
use Rattle.dw_entries.specs.Views.{sections_of, units_of}
use Rattle.dw_entries.specs.declared.entries.Entries.{Entries}
use Rattle.dw_links.specs.Strings.{StringFailures}
use Rattle.dw_lookup.proofs.known.Known.directory_of.Goals as goal

pub directory_of_unit-requires-clause-strings : goal.directory_of_unit-requires-clause-strings
directory_of_unit-requires-clause-strings c =
    subst (λ (e : Entries). HasNone (StringFailures (sections_of e) (units_of e))) (sym c.scanned-entries.ensures)
    c.args.self.now.image.now.strings

use Rattle.std.proofs.Common.{sym, ap, ◌∙◌}
use Rattle.dw_forms.specs.Abbrev.{Declaration}
use Rattle.dw_forms.specs.Codes.{DW_AT_declaration}
use Rattle.dw_forms.specs.KnownValues.{flag_in}
use Rattle.dw_types.proofs.DeclaredLemmas.{told-declared}
use Rattle.dw_types.proofs.linked.LinkedEntries.is_declared.Goals as goal

pub returns-in-Some-clause-is : goal.returns-in-Some-clause-is
returns-in-Some-clause-is c =
    sym (told-declared c.args.self.now.cursor.entries.now c.args.id c.requires c.in-Some.declared
    (ap (λ (d : Declaration). flag_in DW_AT_declaration d.attributes) (sym c.decl.ensures)
    ∙ (sym c.declared.ensures ∙ c.in-Some.is)))

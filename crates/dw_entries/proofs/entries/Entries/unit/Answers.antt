use Rattle.std.proofs.Common.{ap, ◌∙◌, arith}
use Rattle.dw_entries.specs.Header.{type_of}
use Rattle.dw_entries.proofs.KeptLaws.{kept_unit, number_within, first_within, unit_told}
use Rattle.dw_entries.proofs.entries.Entries.unit.Goals as goal

pub index-unit-requires : goal.index-unit-requires
index-unit-requires c =
    omega (arith, number_within (kept_unit c.args.self.now.scanned c.args.number c.requires))

pub decl-requires : goal.decl-requires
decl-requires c =
    omega (arith, first_within (kept_unit c.args.self.now.scanned _ c.requires) _ c.index-unit.ensures)

pub returns : goal.returns
returns c =
    unit_told (kept_unit c.args.self.now.scanned _ c.requires) _ c.index-unit.ensures
    _ _ _ c.new-first.ensures c.decl.ensures
    (c.unit_type.ensures ∙ ap (type_of c.index-unit.result.now.header.kind) c.tag.ensures)

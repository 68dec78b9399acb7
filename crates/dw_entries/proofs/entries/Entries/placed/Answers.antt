use Rattle.std.proofs.Common.{rules, ap, ◌∙◌, arith}
use Rattle.std.proofs.lemmas.Option.{slice_get_within}
use Rattle.dw_forms.specs.Abbrev.{Declaration}
use Rattle.dw_forms.specs.KeptDecls.{decl_view}
use Rattle.dw_entries.proofs.KeptLaws.{kept_entry, decl_is, decl_kept, decl_numbered, header_is}
use Rattle.dw_entries.proofs.entries.Entries.placed.Goals as goal

pub decl-requires-clause-some : goal.decl-requires-clause-some
decl-requires-clause-some c = search (rules, decl_numbered, kept_entry)

pub decl-requires-clause-within : goal.decl-requires-clause-within
decl-requires-clause-within c = search (rules, decl_kept, kept_entry)

pub index-requires : goal.index-requires
index-requires c =
    let kept = kept_entry c.args.self.now.scanned c.args.id c.requires.id in
    omega (arith, slice_get_within c.args.self.now.units.items _ kept.unit_record kept.is_unit_record)

pub values_with-requires-clause-header : goal.values_with-requires-clause-header
values_with-requires-clause-header c = search (rules, header_is, kept_entry)

pub values_with-requires-clause-specs : goal.values_with-requires-clause-specs
values_with-requires-clause-specs c =
    let kept = kept_entry c.args.self.now.scanned c.args.id c.requires.id in
    c.attributes-attributes.ensures.specs
    ∙ ap (λ (d : Declaration). d.attributes)
    (decl_is c.args.self.now.decls kept c.record-kept.result c.record-kept.ensures (decl_view c.decl.result)
    c.decl.ensures)

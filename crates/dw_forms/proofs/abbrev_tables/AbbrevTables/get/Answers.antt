use Rattle.std.proofs.Common.{rules, Some, ◌∙◌, sym, ap, arith}
use Rattle.dw_forms.specs.declared.attribute_lists.AttributeLists.{AttributeLists}
use Rattle.dw_forms.specs.KeptDecls.{kept_view, decl_of, KeptDecl}
use Rattle.dw_forms.proofs.KeptLaws.{code_is, links_long, found_by, found_within, decl_read, tables_long}
use Rattle.dw_forms.proofs.abbrev_tables.AbbrevTables.get.Goals as goal

pub find-number-requires : goal.find-number-requires
find-number-requires c = search (rules, tables_long, links_long)

pub returns-then-number-eq0-clause-decl : goal.returns-then-number-eq0-clause-decl
returns-then-number-eq0-clause-decl c =
    let a = c.args.self.now in
    ap (decl_of a.lists.lists.nodes.items a.kept.items)
    (sym c.if-number-eq0.true ∙ rw c.find-label.ensures at c.find-number.ensures)
    ∙ found_by a.codes.links.items a.labels.long a.lists.lists.nodes.items a.kept.items c.args.table c.args.code
    a.labels.labels c.requires.searchable.labelled c.requires.searchable.coded

pub index-kept-requires : goal.index-kept-requires
index-kept-requires c = search (rules, found_within)

pub returns-clause-decl : goal.returns-clause-decl
returns-clause-decl c =
    let a = c.args.self.now in
    let nodes = a.lists.lists.nodes.items in
    let within = found_within a.codes.links.items a.labels.long a.kept.items c.args.table c.find-label.result
    c.requires.searchable.coded in
    let some = c.if-number-eq0.false in
    ap (λ (lists : AttributeLists). Some (kept_view lists.nodes.items c.new.result.kept.now)) c.new.ensures.lists
    ∙ ap (λ (k : KeptDecl). Some (kept_view nodes k)) c.new.ensures.kept
    ∙ sym (decl_read nodes a.kept.items c.find-number.result c.index-kept.result.now (omega arith)
    (omega (arith, c.find-number.ensures)) c.index-kept.ensures)
    ∙ ap (decl_of nodes a.kept.items) (rw c.find-label.ensures at c.find-number.ensures)
    ∙ found_by a.codes.links.items a.labels.long nodes a.kept.items c.args.table c.args.code a.labels.labels
    c.requires.searchable.labelled c.requires.searchable.coded

pub new-requires : goal.new-requires
new-requires c = search (rules, found_within)

pub returns-clause-number : goal.returns-clause-number
returns-clause-number c = search (rules, code_is)

use Rattle.std.proofs.Common.{length}
use Rattle.dw_forms.specs.AbbrevTables.{tables_in, AreTablesOf}
use Rattle.dw_forms.specs.Offsets.{AreNew}
use Rattle.dw_forms.specs.TableStarts.{Stay}
use Rattle.dw_forms.proofs.StartLaws.{Leads}
use Rattle.dw_forms.proofs.abbrev_tables.AbbrevTables.keep.Given as goal

abbrev pub invariant-loop-at : goal.invariant-loop-at
invariant-loop-at l = record {
  tables : AreTablesOf l.section l.self;
  stay : Stay (tables_in l.fn.self) (tables_in l.self);
  new : AreNew l.self.starts.starts.items l.decls.items;
  leads : Leads l.section l.self.lists.lists.nodes.items (tables_in l.self) l.decls.items l.offset l.table;
}

abbrev pub decreases-loop-at : goal.decreases-loop-at
decreases-loop-at l = length l.decls.items

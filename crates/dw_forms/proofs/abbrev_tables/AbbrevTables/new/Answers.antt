use Rattle.std.proofs.Common.{rules, [], length, sym, arith}
use Rattle.dw_forms.proofs.OffsetLaws.{apart_none}
use Rattle.dw_forms.proofs.KeptLaws.{tables_long}
use Rattle.dw_forms.proofs.abbrev_tables.AbbrevTables.new.Goals as goal

pub returns-clause-tables : goal.returns-clause-tables
returns-clause-tables c = λ section. record {
  searchable = search (rules);
  lists = c.new-4.ensures.lists section;
  starts =
      rw (c.new.ensures.items, c.new-6.ensures)
      (record {
        long = sym (tables_long c.new-4.result.lists.nodes.items []);
        each = λ k less. absurd (omega arith);
        apart = apart_none (length section);
      });
}

use Rattle.std.proofs.Common.{subst, sym}
use Rattle.dw_forms.specs.AbbrevTables.{tables_in}
use Rattle.dw_forms.specs.KeptDecls.{Tables}
use Rattle.dw_forms.specs.TableStarts.{AreStarts, Stay}
use Rattle.dw_forms.proofs.KeptLaws.{within_stays, tables_same}
use Rattle.dw_forms.proofs.PlaceTurns.{all_lists_stay}
use Rattle.dw_forms.proofs.StartLaws.{allowed_in, fewer_in}
use Rattle.dw_forms.proofs.abbrev_tables.AbbrevTables.read.Goals as goal

-- more attributes change no table
pub keep-requires-clause-tables : goal.keep-requires-clause-tables
keep-requires-clause-tables c =
    let a = c.args.self.now in
    let new = c.read_front-front.new.lists.lists.nodes.items in
    let same = tables_same a.lists.lists.nodes.items new a.kept.items c.in-Ok.ensures.more.stay
    c.requires.tables.searchable.within in
    record {
      searchable =
          record {
            coded = c.requires.tables.searchable.coded;
            labelled = c.requires.tables.searchable.labelled;
            placed =
                all_lists_stay a.lists.lists.nodes.items new a.kept.items a.places.items c.in-Ok.ensures.more.stay
                c.requires.tables.searchable.within c.requires.tables.searchable.placed;
            within = within_stays a.lists.lists.nodes.items new a.kept.items c.in-Ok.ensures.more.stay
                c.requires.tables.searchable.within;
          };
      lists = c.in-Ok.ensures.more.lists;
      starts =
          rw c.enter_from.ensures.same (subst
          (λ (tables : Tables). AreStarts c.args.section.now tables a.starts.starts.items) (sym same)
          c.requires.tables.starts);
    }

pub returns-in-Some-clause-stay : goal.returns-in-Some-clause-stay
returns-in-Some-clause-stay c =
    let a = c.args.self.now in
    let same = tables_same a.lists.lists.nodes.items c.read_front-front.new.lists.lists.nodes.items a.kept.items
    c.in-Ok.ensures.more.stay c.requires.tables.searchable.within in
    subst (λ (tables : Tables). Stay tables (tables_in c.keep.new.self)) same c.in_ok-table.ensures.stay

pub returns-in-Some-clause-allowed : goal.returns-in-Some-clause-allowed
returns-in-Some-clause-allowed c =
    allowed_in c.args.section.now (tables_in c.keep.new.self) c.args.offset c.in-Some.table
    (rw c.in-Some.is at c.in_ok-table.ensures.whole)

pub returns-in-Some-clause-fewer : goal.returns-in-Some-clause-fewer
returns-in-Some-clause-fewer c =
    fewer_in c.args.section.now (tables_in c.keep.new.self) c.args.offset c.in-Some.table
    (rw c.in-Some.is at c.in_ok-table.ensures.whole)

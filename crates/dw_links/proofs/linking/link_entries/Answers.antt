use Rattle.std.proofs.Common.{rules, ◌≡◌, ◌<◌, ◌≤◌, ◌∙◌, ℕ, Some, length, arith, sym, subst, slice_get, length-set, take_all}
use Rattle.std.proofs.lemmas.Option.{slice_get-get_or}
use Rattle.dw_entries.proofs.FirstPlaces.{none_by_both}
use Rattle.dw_links.specs.EntryLinks.{IsEntryLinked, IsFirstAtEntry}
use Rattle.dw_links.proofs.LeadSteps.{may_link, keeps_none}
use Rattle.dw_links.proofs.TableLemmas.{map_one_more, map_all, no_entry, entry_of, placed_of, all_entries, all_units, units_of, Entries, placed, unit_there}
use Rattle.dw_links.proofs.UnitToAll.{more_below, none_fails, failed_first, LinkedBelow, starts_first, starts_next, none_below, types_more, FailsByText, FailsByTarget, HeaderFailures, AttributeFailures, length-placed}
use Rattle.dw_links.proofs.linking.link_entries.Goals as goal

pub invariant_of-declared : goal.invariant_of-declared
invariant_of-declared c = search (rules, keeps_none)

pub loop-unit-init : goal.loop-unit-init
loop-unit-init c = search (rules, starts_first, none_below)

pub loop-number-init : goal.loop-number-init
loop-number-init c =
    let entries = c.args.entries.now in
    let us = units_of entries in
    let is = unit_there us c.loop-unit.unit (omega arith) in
    let (number, starts, linked) = c.loop-unit.invariant.linked in
    record {
      of = c.loop-unit.invariant.of;
      linked = subst (LinkedBelow entries c.loop-unit.types.items)
          (starts.begins (placed_of (placed us) c.loop-unit.unit) is ∙ sym c.of_unit-references.ensures.range.0) linked;
    }

pub link_entry-requires-clause-may : goal.link_entry-requires-clause-may
link_entry-requires-clause-may c = search (rules, may_link)

pub first_fault-requires : goal.first_fault-requires
first_fault-requires c =
    let entries = c.args.entries.now in
    let i = c.loop-number.invariant in
    let P : Entries → Type 0 = λ x. IsFirstAtEntry x (entry_of (all_entries x) c.id-id.result) c.in-Err.broken in
    failed_first entries c.loop-number.number c.id-id.result c.id-id.ensures c.in-Err.broken i.linked.strings
    i.linked.references c.requires.headers
    (omega (arith, c.id-id.ensures))
    (subst P c.of_unit-references.ensures.entries c.in-Err.ensures.err)

pub loop-number-preserved : goal.loop-number-preserved
loop-number-preserved c =
    let entries = c.args.entries.now in
    let i = c.loop-number.invariant in
    let same = c.of_unit-references.ensures.entries in
    let e = entry_of (all_entries entries) c.id-id.result in
    let P : Entries → Type 0 = λ x. IsEntryLinked x (entry_of (all_entries x) c.id-id.result) c.in-Ok.target in
    let linked : IsEntryLinked entries e c.in-Ok.target = subst P same c.in-Ok.ensures.ok in
    let below : c.id-id.result < length (all_entries entries) = omega (arith, c.id-id.ensures) in
    let is = slice_get-get_or (all_entries entries) c.id-id.result no_entry below in
    record {
      of = c.in-Ok.ensures.of ∙ same;
      linked = record {
        strings =
            more_below entries (FailsByText entries) _ c.id-id.result c.id-id.ensures i.linked.strings below
            linked.strings;
        references =
            more_below entries (FailsByTarget entries) _ c.id-id.result c.id-id.ensures i.linked.references below
            linked.references;
        long = length-set c.loop-number.types.items c.loop-number.number c.in-Ok.target ∙ i.linked.long;
        types_are =
            types_more entries c.loop-number.types.items c.loop-number.number e c.in-Ok.target
            (let P : ℕ → Type 0 = λ n. slice_get (all_entries entries) n ≡ Some e in subst P c.id-id.ensures is)
            i.linked.long i.linked.types_are linked.is_target;
      };
    }

pub loop-unit-preserved : goal.loop-unit-preserved
loop-unit-preserved c =
    let entries = c.args.entries.now in
    let us = units_of entries in
    let p = placed_of (placed us) c.loop-unit.unit in
    let is = unit_there us c.loop-unit.unit (omega arith) in
    let (first, end) = c.of_unit-references.ensures.range in
    let read = c.loop-unit.invariant.read in
    let texts = c.of_unit-references.ensures.linkable.texts in
    record {
      of = c.loop-number.invariant.of;
      read = record {
        str = rw c.in_ok-push.ensures.items (map_one_more _ _ _ _ p _ is read.str (search rules));
        addr = rw c.in_ok-push-2.ensures.items (map_one_more _ _ _ _ p _ is read.addr (search rules));
        language =
            rw c.in_ok-push-3.ensures.items (map_one_more _ _ _ _ p _ is read.language c.language_in_unit.ensures);
      };
      linked = (
        c.loop-number.number,
        starts_next us c.loop-unit.unit c.loop-number.number p is
            (omega (arith, first, end, c.loop-number.auto.number-end (omega (arith, first, end)))),
        c.loop-number.invariant.linked,
      );
    }

pub returns-clause-ok : goal.returns-clause-ok
returns-clause-ok c =
    let entries = c.args.entries.now in
    let (number, starts, linked) = c.loop-unit.invariant.linked in
    let all = starts.ends (omega arith) in
    let units : length (all_units entries)
    ≤ c.loop-unit.unit = omega (arith, length-placed (units_of entries)) in
    let read = c.loop-unit.invariant.read in
    record {
      strings = none_fails entries (FailsByText entries) number all linked.strings;
      references =
          none_by_both (HeaderFailures (all_entries entries) (all_units entries))
          (AttributeFailures (all_entries entries) (all_units entries)) c.requires.headers
          (none_fails entries (FailsByTarget entries) number all linked.references);
      tables_are = record {
        signatures = c.requires.types;
        str_bases = map_all _ _ _ _ units read.str;
        addr_bases = map_all _ _ _ _ units read.addr;
        languages = map_all _ _ _ _ units read.language;
        types =
            sym (take_all number c.loop-unit.types.items (omega (arith, all, linked.long)))
            ∙ map_all _ _ _ _ all linked.types_are;
      };
    }

use Rattle.std.proofs.Common.{◌≡◌, ℕ}
use Rattle.dw_links.proofs.UnitToAll.{StartsAt, LinkedBelow, ReadBelow, units_of}
use Rattle.dw_links.proofs.linking.link_entries.Given as goal

abbrev pub invariant-loop-unit : goal.invariant-loop-unit
invariant-loop-unit l = record {
  of : l.declared.entries.now ≡ l.entries;
  read : ReadBelow l.entries l.str_bases.items l.addr_bases.items l.languages.items l.unit;
  linked : (number : ℕ) × StartsAt (units_of l.entries) l.unit number × LinkedBelow l.entries l.types.items number;
}

abbrev pub invariant-loop-number : goal.invariant-loop-number
invariant-loop-number l = record {
  of : l.declared.entries.now ≡ l.entries;
  linked : LinkedBelow l.entries l.types.items l.number;
}

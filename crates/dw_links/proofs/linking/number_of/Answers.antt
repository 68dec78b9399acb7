use Rattle.std.proofs.Common.{arith, ℕ, ◌≡◌, ◌<◌, length}
use Rattle.dw_entries.specs.declared.entries.Entries.{Entries}
use Rattle.dw_entries.specs.Views.{all_entries}
use Rattle.dw_entries.proofs.FindLaws.{entries_counted, scanned_few}
use Rattle.dw_links.proofs.linking.number_of.Goals as goal

few : (entries : Entries) (id number : ℕ) → number ≡ id → id < length (all_entries entries) → number < 0xffffffff
few entries id number same below =
    omega (
      arith,
      entries_counted _ _ _ _ _ entries.scanned,
      scanned_few _ _ _ _ _ entries.scanned,
      entries.sections.info_fits,
    )

pub some-requires : goal.some-requires
some-requires c = few c.args.entries.now _ _ c.number.ensures (rw c.in-Some.is at c.requires)

pub overflow_cast-number : goal.overflow_cast-number
overflow_cast-number c =
    omega (arith, few c.args.entries.now _ _ c.number.ensures (rw c.in-Some.is at c.requires))

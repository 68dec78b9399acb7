use Rattle.std.proofs.Common.{◌≡◌, ◌++◌, length, map}
use Rattle.dwv_addr.specs.Addresses.{address_in, lines_of}
use Rattle.dwv_addr.proofs.addresses.addresses_in.Given as goal

abbrev pub invariant-lines : goal.invariant-lines
invariant-lines l =
    l.found.items ++ map address_in (lines_of l.rest) ≡ map address_in (lines_of l.text)

abbrev pub decreases-lines : goal.decreases-lines
decreases-lines l = length l.rest

use Rattle.std.proofs.Common.{◌≡◌, map, take}
use Rattle.dwv_addr.specs.Addresses.{address_in}
use Rattle.dwv_addr.proofs.words.addresses_of.Given as goal

abbrev pub invariant-loop-text : goal.invariant-loop-text
invariant-loop-text l =
    l.found.items ≡ map address_in (map (λ text. text.now) (take l.text-index l.texts))

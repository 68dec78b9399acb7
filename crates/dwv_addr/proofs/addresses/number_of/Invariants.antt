use Rattle.std.proofs.Common.{◌≡◌, ◌<◌, ◌^◌, true, take}
use Rattle.std.specs.Str.Parse.{digits_value}
use Rattle.dwv_addr.specs.Addresses.{are_digits}
use Rattle.dwv_addr.proofs.addresses.number_of.Given as goal

abbrev pub invariant-loop-digit : goal.invariant-loop-digit
invariant-loop-digit l =
    (l.number ≡ digits_value 16 (take l.digit-index l.digits))
    × (l.number < 16 ^ l.digit-index)
    × (are_digits (take l.digit-index l.digits) ≡ true)

-- One unit of those that are left.
use Rattle.std.proofs.Common.{rules, ◌≡◌, ℕ, ◌+◌, ◌<◌, ◌≤◌, List, [], ◌∷◌, length, map, drop, ap, arith, length-drop, add-one, drop-cons}
use Rattle.std.proofs.lemmas.List.{nil_from_length}
use Rattle.std.proofs.lemmas.Option.{slice_get-get_or}
use Rattle.dw_entries.specs.Entries.{placed, DebugUnit}
use Rattle.dw_entries.specs.Lookups.{unit_head, UnitHead}
use Rattle.dw_entries.proofs.EntryFacts.{length-placed, placed_of}

pub unit_turn : (us : List DebugUnit) (n : ℕ) (h : UnitHead) → n < length us
    → h ≡ unit_head (placed_of (placed us) n)
    → map unit_head (drop n (placed us)) ≡ h ∷ map unit_head (drop (n + 1) (placed us))
unit_turn us n h within told = search (rules, slice_get-get_or, length-placed, add-one, drop-cons)

pub fewer_units : (us : List DebugUnit) (n : ℕ) (h : UnitHead) → n < length us
    → h ≡ unit_head (placed_of (placed us) n)
    → length (map unit_head (drop (n + 1) (placed us))) < length (map unit_head (drop n (placed us)))
fewer_units us n h within told = search (rules, unit_turn)

pub no_units : (us : List DebugUnit) (n : ℕ) → length us ≤ n → map unit_head (drop n (placed us)) ≡ []
no_units us n past =
    ap (map unit_head) (nil_from_length (drop n (placed us))
    (omega (arith, length-drop n (placed us), length-placed us)))

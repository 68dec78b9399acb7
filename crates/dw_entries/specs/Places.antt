-- Chapter: places of .debug_info where a rule can fail, and their order.
use Rattle.std.specs.Prelude.{◌≡◌, ℕ, ◌<◌, ◌≤◌, ◌⊎◌}

-- at a unit's header, at an entry, or at an attribute of an entry, by its position among them from 0
pub data Place : Type 0 where
  at_header : (offset : ℕ) → Place
  at_entry : (offset : ℕ) → Place
  at_attribute : (offset : ℕ) → (position : ℕ) → Place

-- the offset of the header or of the entry
abbrev pub offset_of : Place → ℕ
offset_of (at_header offset) = offset
offset_of (at_entry offset) = offset
offset_of (at_attribute offset position) = offset

-- headers come first, then entries, each by offset; an entry comes before its attributes
abbrev pub IsBefore : Place → Place → Type 0
IsBefore (at_header a) (at_header b) = a < b
IsBefore (at_header a) (at_entry b) = Unit {0}
IsBefore (at_header a) (at_attribute b k) = Unit {0}
IsBefore (at_entry a) (at_header b) = ⊥
IsBefore (at_entry a) (at_entry b) = a < b
IsBefore (at_entry a) (at_attribute b k) = a ≤ b
IsBefore (at_attribute a j) (at_header b) = ⊥
IsBefore (at_attribute a j) (at_entry b) = a < b
IsBefore (at_attribute a j) (at_attribute b k) = (a < b) ⊎ ((a ≡ b) × (j < k))

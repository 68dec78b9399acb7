-- State: the labels of codes. A code below 2^16 is its own label, and others are labelled in the order in which they
-- are met, from 2^64 - 1 down. So the labels of few codes differ in few bits; and those of a table's new codes, whose
-- last one is met first, count up by one.
use Rattle.std.specs.Prelude.{◌≡◌, ℕ, ◌+◌, ◌≢◌, ◌^◌, ◌<◌, ◌≤◌, if◌then◌else◌, nat_lt, Option, Some, None}
use Rattle.std.specs.Ordering.{nat_cmp}
use Rattle.std.specs.BTreeMap.{BTreeMap, get, btree_map_len}

-- the label that is kept of a long code, or 2^16, which no code has
abbrev pub long_label : Option ℕ → ℕ
long_label None = 0x10000
long_label (Some found) = found

-- the label of the code
abbrev pub label : BTreeMap ℕ ℕ → ℕ → ℕ
label long code = if nat_lt code 0x10000 then code else long_label (get nat_cmp long code)

-- the code has a label: one is kept of a long code
abbrev pub HasLabel : BTreeMap ℕ ℕ → ℕ → Type 0
HasLabel long code = 0x10000 ≤ code → get nat_cmp long code ≢ None

-- the labels of long codes are the greatest numbers of 64 bits, as many as there are, and no two are the same
pub record AreLabels (long : BTreeMap ℕ ℕ) : Type 0 where
  pub after : (code found : ℕ) → get nat_cmp long code ≡ Some found → 0x10000 < found
  pub few : (code found : ℕ) → get nat_cmp long code ≡ Some found → 2 ^ 64 ≤ found + btree_map_len long
  pub apart : (code other found : ℕ) → get nat_cmp long code ≡ Some found → get nat_cmp long other ≡ Some found
      → code ≡ other

-- codes with labels keep them
abbrev pub LabelsStay : BTreeMap ℕ ℕ → BTreeMap ℕ ℕ → Type 0
LabelsStay old new = (code : ℕ) → HasLabel old code → (label new code ≡ label old code) × HasLabel new code

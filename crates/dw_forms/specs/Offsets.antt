-- State: what begins at which offset of a section. What begins there is numbered from 1.
use Rattle.std.specs.Prelude.{◌≡◌, ℕ, ◌<◌, ◌≤◌, ◌-◌, true, nat_eq, List, [], ◌∷◌, ◌++◌, length, get_or, slice_get}
use Rattle.std.specs.Prelude.{Some, All}
use Rattle.std.specs.List.{IsDistinct, list_any}
pub use Rattle.dw_forms.specs.declared.offsets.Placed.{Placed}

-- what has this number begins at this offset
abbrev pub BeginsAt : List ℕ → ℕ → ℕ → Type 0
BeginsAt starts number offset = slice_get starts (number - 1) ≡ Some offset

-- each offset is before this one
abbrev pub AreBefore : ℕ → List ℕ → Type 0
AreBefore end starts = All (λ start. start < end) starts

-- each number that is entered at an offset is that of what begins there, and the first so many offsets have theirs
pub record AreEntered (entered : ℕ) (starts numbers : List ℕ) : Type 0 where
  pub known : (offset : ℕ) → 0 < get_or numbers offset 0 → BeginsAt starts (get_or numbers offset 0) offset
  pub numbered : (k : ℕ) → k < entered → 0 < get_or numbers (get_or starts k 0) 0

-- the offsets from this one on have their numbers
abbrev pub AreKnownFrom : ℕ → List ℕ → List ℕ → Type 0
AreKnownFrom from starts numbers = (k : ℕ) → k < length starts → from ≤ get_or starts k 0
    → 0 < get_or numbers (get_or starts k 0) 0

-- nothing begins at this offset
abbrev pub NothingAt : List ℕ → ℕ → Type 0
NothingAt starts offset = (k : ℕ) → k < length starts → get_or starts k 0 ≡ offset → ⊥

-- each thing begins at an offset of its own, before this one
pub record AreApart (end : ℕ) (starts : List ℕ) : Type 0 where
  pub distinct : IsDistinct nat_eq starts
  pub before : (offset : ℕ) → list_any (nat_eq offset) starts ≡ true → offset < end

-- things one after another, from an offset up to the end of the last one. Is says what is between two offsets
abbrev pub AreAlong : {T : Type 0} → (ℕ → T → ℕ → Type 0) → List (Placed T) → ℕ → ℕ → Type 0
AreAlong Is [] offset end = offset ≡ end
AreAlong Is (x ∷ xs) offset end = (x.at ≡ offset) × (next : ℕ) × Is offset x.item next × AreAlong Is xs next end

-- nothing that is kept begins where one of these does
abbrev pub AreNew : {T : Type 0} → List ℕ → List (Placed T) → Type 0
AreNew starts [] = Unit {0}
AreNew starts (x ∷ xs) = NothingAt starts x.at × AreNew starts xs

-- an offset of a section whose offsets have four bytes
pub record IsOffset (section : List ℕ) (offset : ℕ) : Type 0 where
  pub within : offset ≤ length section
  pub fits : length section < 0xffffffff

-- the old ones stay, and others come after them
abbrev pub Stay : {X : Type 0} → List X → List X → Type 0
Stay {X} old new = (more : List X) × (new ≡ old ++ more)

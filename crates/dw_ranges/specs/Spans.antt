-- Chapter: the ranges of a unit's functions, and which function has an address (DWARF 5, 3.3.1 and 3.3.8.2).
use Rattle.std.specs.Prelude.{◌≡◌, ℕ, ◌+◌, ◌-◌, ◌<◌, ◌≤◌, ◌⊎◌, List, [], ◌∷◌, length, slice_index_or, All, Any}
use Rattle.std.specs.Prelude.{Contains, Bool, ◌&&◌, ◌||◌}
use Rattle.std.specs.Prelude.{◌==◌, nat_lt, nat_le}
use Rattle.dw_ranges.specs.declared.spans.Span.{Span}

-- a span has an address
abbrev pub IsInSpan : ℕ → Span → Type 0
IsInSpan a s = (s.low ≤ a) × (a < s.high)

-- two spans of one group share no address; but functions that are not inlined, which are group 0, may have the same
-- range
abbrev pub Agree : Span → Span → Type 0
Agree s t = s.group ≡ t.group → (a : ℕ) → IsInSpan a s → IsInSpan a t
    → (s.group ≡ 0) × (s.low ≡ t.low) × (s.high ≡ t.high)

-- the order of spans: by group, then by low address, then by function, then by high address
abbrev pub IsUpTo : Span → Span → Type 0
IsUpTo s t = (s.group < t.group) ⊎ ((s.group ≡ t.group) × ((s.low < t.low) ⊎ ((s.low ≡ t.low)
    × ((s.function < t.function) ⊎ ((s.function ≡ t.function) × (s.high ≤ t.high))))))

-- a span is before another one that it agrees with
abbrev pub IsBefore : Span → Span → Type 0
IsBefore s t = (s.group < t.group) ⊎ ((s.group ≡ t.group)
    × ((s.high ≤ t.low) ⊎ ((s.group ≡ 0) × (s.low ≡ t.low) × (s.high ≡ t.high) × (s.function ≤ t.function))))

-- a span has an address, and its function comes after the one that it is inlined in
pub record IsSpan (s : Span) : Type 0 where
  pub some : s.low < s.high
  pub after : s.group ≤ s.function

-- of the first spans, so many, each is before the later ones
abbrev pub AreBefore : List Span → ℕ → Type 0
AreBefore spans n =
    (i j : ℕ) (d : Span) → i < j → j < n → IsBefore (slice_index_or spans i d) (slice_index_or spans j d)

-- spans in order, each of which agrees with the others
pub record AreOrdered (spans : List Span) : Type 0 where
  pub each : All IsSpan spans
  pub before : AreBefore spans (length spans)

-- a span of spans in order is the first one that does not agree with the one before it
pub record IsFirstMeeting (spans : List Span) (k : ℕ) : Type 0 where
  pub after : 1 ≤ k
  pub within : k < length spans
  pub before : AreBefore spans k
  pub meets : (d : Span) → ¬ (Agree (slice_index_or spans (k - 1) d) (slice_index_or spans k d))

-- whether a span is of an earlier group, or of this one and starts at an address or below it
abbrev pub starts_up_to : ℕ → ℕ → Span → Bool
starts_up_to group a s = nat_lt s.group group || (s.group == group && nat_le s.low a)

-- a span of this group has an address
abbrev pub IsOf : ℕ → ℕ → Span → Type 0
IsOf group a s = (s.group ≡ group) × IsInSpan a s

-- these functions have an address, each inlined in the one before it, the first one in that of this group; and no
-- function that is inlined in the last one has it
abbrev pub IsChain : List Span → (group a : ℕ) → List ℕ → Type 0
IsChain spans group a [] = All (λ s. ¬ (IsOf group a s)) spans
IsChain spans group a (f ∷ fs) = Any (λ s. IsOf group a s × (s.function ≡ f)) spans × IsChain spans (f + 1) a fs

-- each address of an inlined function is one of the function that it is inlined in
abbrev pub AreNested : List Span → Type 0
AreNested spans = (s : Span) (a : ℕ) → Contains spans s → IsInSpan a s → 1 ≤ s.group
    → Any (λ t. (t.function + 1 ≡ s.group) × IsInSpan a t) spans

-- at most one function that is not inlined has an address
abbrev pub HasOne : List Span → ℕ → Type 0
HasOne spans a = (s t : Span) → Contains spans s → Contains spans t → IsOf 0 a s → IsOf 0 a t → s.function ≡ t.function

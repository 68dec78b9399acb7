-- State: what is known of the calls of a reader or a writer: the bytes that it returned or took, and how many failed.
use Rattle.std.specs.Prelude.{ℕ, ◌≡◌, ◌+◌, ◌≤◌, ◌==◌, ◌&&◌, nat_lt, Bool, true, false, if◌then◌else◌, Result, Ok, Err}
use Rattle.std.specs.Prelude.{Option, None, Some, List, length, take, IfSome}
use Rattle.std.specs.Io.KnownBytes.{Consumes}

-- the count after a read: one more at an error
abbrev pub after_read : {E : Type 0} → ℕ → Result ℕ E → ℕ
after_read count (Ok n) = count
after_read count (Err e) = count + 1

-- the count after a write: one more at an error, or if no byte of a text that has some was taken
abbrev pub after_write : {E : Type 0} → ℕ → Result ℕ E → List ℕ → ℕ
after_write count (Ok n) bytes = if n == 0 && nat_lt 0 (length bytes) then count + 1 else count
after_write count (Err e) bytes = count + 1

-- a reader whose known bytes were `old` and are `new` has returned them up to their end or one past the limit
abbrev pub TakesInput : ℕ → Option (List ℕ) → Option (List ℕ) → Type 0
TakesInput limit None new = Unit {0}
TakesInput limit (Some input) new = Consumes (Some input) new (take (limit + 1) input)

-- the bytes are all up to the end, if the last read returned none, or else all up to one byte past the limit
abbrev pub IsWhole : (limit : ℕ) → (ended : Bool) → (given : List ℕ) → Type 0
IsWhole limit true given = length given ≤ limit
IsWhole limit false given = length given ≡ limit + 1

-- a reader, whose bytes may be known, has given these, up to its end or up to one byte past the limit
abbrev pub HasGiven : (limit : ℕ) → (input : Option (List ℕ)) → (ended : Bool) → (given : List ℕ) → Type 0
HasGiven limit input ended given =
    IsWhole limit ended given × IfSome input (λ bytes. given ≡ take (limit + 1) bytes)

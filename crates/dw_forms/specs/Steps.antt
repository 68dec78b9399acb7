-- Chapter: steps one after another, each of which may fail, as with `?`.
use Rattle.std.specs.Prelude.{Option, Some, None, Result, Ok, Err}

-- the next step goes on from what the first one gave, unless that failed
infixl 10 ◌>>=◌
abbrev pub ◌>>=◌ : {A B E : Type 0} → Result A E → (A → Result B E) → Result B E
(Ok x) >>= f = f x
(Err e) >>= f = Err e

-- one answer for none, another for some
abbrev pub on_option : {A : Type 0} {B : Type 0} → Option A → B → (A → B) → B
on_option None none some = none
on_option (Some x) none some = some x

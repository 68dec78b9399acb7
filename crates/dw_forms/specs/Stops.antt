-- State: what a call returns, unless memory ran out.
use Rattle.std.specs.Prelude.{◌≡◌, Result, Ok, Err}
pub use Rattle.dw_forms.specs.declared.fault.Stop.{Stop}
use Rattle.dw_forms.specs.declared.fault.Stop.TheVariants as stops

-- this holds of the fault, unless memory ran out
abbrev pub IfFault : {F : Type 0} → (F → Type 0) → Stop F → Type 0
IfFault P stops.Memory = Unit {0}
IfFault P (stops.Fault f) = P f

-- reading gives this fault, unless memory ran out
abbrev pub FailsOrMemory : {Y F : Type 0} → Stop F → Result Y F → Type 0
FailsOrMemory stops.Memory read = Unit {0}
FailsOrMemory (stops.Fault f) read = read ≡ Err f

-- what a call returned, seen by view, is what reading gives, unless memory ran out
abbrev pub GivesOrMemory : {X Y F : Type 0} → (X → Y) → Result X (Stop F) → Result Y F → Type 0
GivesOrMemory view (Ok x) read = read ≡ Ok (view x)
GivesOrMemory view (Err e) read = FailsOrMemory e read

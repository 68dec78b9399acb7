-- What is said of the fault that a function stopped with.
use Rattle.dw_forms.specs.declared.fault.Stop.{Stop}
use Rattle.dw_forms.specs.declared.fault.Stop.TheVariants as stops
use Rattle.dw_forms.specs.Stops.{IfFault}

-- what follows from a fact of the fault holds too
pub faulty_weaker : {F : Type 0} {P Q : F → Type 0} (stop : Stop F) → ((fault : F) → P fault → Q fault) → IfFault P stop
    → IfFault Q stop
faulty_weaker stops.Memory weaker holds = tt
faulty_weaker (stops.Fault fault) weaker holds = weaker fault holds

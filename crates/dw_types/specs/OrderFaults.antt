-- Chapter: why a graph has no order.
use Rattle.dw_types.specs.declared.ordering.OrderFault.{OrderFault}
use Rattle.dw_types.specs.declared.ordering.OrderFault.TheVariants.{Cycle, Memory}
use Rattle.dw_types.specs.Graphs.{Graph, IsCycle}

-- a fault that names a cycle names one of the graph
abbrev pub IsOrderFault : Graph → OrderFault → Type 0
IsOrderFault graph (Cycle nodes) = IsCycle graph nodes.items
IsOrderFault graph Memory = Unit {0}

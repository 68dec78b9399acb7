-- Chapters, in reading order.
pub mod Entries
pub mod Children
pub mod Kinds
pub mod SizeTables
pub mod Counts
pub mod TypeFailures
pub mod Shapes
pub mod Graphs
pub mod Paths
pub mod Cycles
pub mod Steps
pub mod Orders
pub mod LongestRows
pub mod OrderFaults
pub mod Sizes
pub mod Extents
pub mod SizeFaults
-- Laws.
pub mod PackingLaws
-- State.
pub mod ChildrenLeft
pub mod Held
pub mod Packing
pub mod WalkStates
pub mod Walks
pub mod RanksListed
pub mod StoredFlags
pub mod StepFlags
pub mod StoredSizes

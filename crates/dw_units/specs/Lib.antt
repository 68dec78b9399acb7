-- Chapters, in reading order.
pub mod IndependentBatches
pub mod Counts
pub mod ByUnit
-- State.
pub mod BatchSections

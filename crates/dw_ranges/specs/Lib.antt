-- Chapters, in reading order.
pub mod RangeRules
pub mod Addresses
pub mod ListEntries
pub mod RangeLists
pub mod Contributions
pub mod Bounds
pub mod EntryRanges
pub mod Areas
pub mod Spans
pub mod Totals
pub mod Live
pub mod Functions
pub mod UnitRanges
pub mod Files

-- Chapters, in reading order.
pub mod Terms
pub mod LookUps
pub mod Enumerators
pub mod Shapes
pub mod EntryShapes
pub mod Steps
pub mod Legible
pub mod Digits
pub mod Tokens
pub mod Declarations
pub mod Writing
pub mod Wrong
pub mod Refusals
pub mod Reading
pub mod FaultTexts
pub mod Listings
-- State.
pub mod Children
pub mod Declarators
pub mod Reach
pub mod Lengths
pub mod Counted
pub mod Kept
pub mod Summaries
pub mod Judgements

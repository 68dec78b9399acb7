-- Chapters, in reading order.
pub mod RulesOfAttributes
pub mod Classes
pub mod Contributions
pub mod Bases
pub mod Constants
pub mod Strings
pub mod ValueTexts
pub mod AttributeTexts
pub mod Signatures
pub mod Targets
pub mod References
pub mod LinkFaults
pub mod LinkLaws
-- State.
pub mod UnitContributions
pub mod Slots
pub mod StringSpans
pub mod SignedTypes
pub mod UnitAtHand
pub mod DeclaredEntries
pub mod Tables
pub mod EntryLinks

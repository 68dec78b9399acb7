-- Chapters, in reading order.
pub mod Leb
pub mod Front
pub mod Codes
pub mod FormCodes
pub mod Faults
pub mod Rules
pub mod Steps
pub mod LebReading
-- Laws.
pub mod StepLaws
pub mod Readers
pub mod LebLaws
pub mod Keys
-- Chapters, in reading order.
pub mod Formats
pub mod BaseFormats
pub mod Elements
pub mod ListFormats
pub mod WithBytes
pub mod Value
pub mod FormTable
pub mod ValueFormats
pub mod ValueReading
pub mod Classes
pub mod Abbrev
pub mod AbbrevReading
-- Laws.
pub mod Spans
pub mod ValueLaws
pub mod TableGrammar
pub mod Datums
-- State.
pub mod Stops
pub mod Sizes
pub mod KnownValues
pub mod AttributeBits
pub mod Places
pub mod FirstPlaces
pub mod Chains
pub mod Labels
pub mod LeadingWalks
pub mod Offsets
pub mod AttributeLists
pub mod DeclaredLists
pub mod Suffixes
pub mod ListOffsets
pub mod KeptDecls
pub mod TableStarts
pub mod AbbrevTables

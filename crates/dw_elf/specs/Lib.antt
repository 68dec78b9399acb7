-- Chapters, in reading order.
pub mod Elf
pub mod Names
pub mod Limits
pub mod Checks
pub mod Rules
pub mod Sections
pub mod RuleTexts
-- State.
pub mod Reading

-- Chapters, in reading order.
pub mod Words
pub mod Reports

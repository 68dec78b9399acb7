-- Chapters, in reading order.
pub mod Lines
pub mod JsonObjects
pub mod Shown
pub mod Reports

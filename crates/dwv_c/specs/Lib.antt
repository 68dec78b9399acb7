-- Chapters, in reading order.
pub mod Verdicts
pub mod SectionPlaces
pub mod ValueRows
pub mod Tables
pub mod Texts
pub mod Frames
-- State.
pub mod Checked
pub mod FrameState
pub mod Meanings
pub mod TableState

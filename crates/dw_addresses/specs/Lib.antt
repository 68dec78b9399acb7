-- Chapters, in reading order.
pub mod Paths
pub mod Addresses
pub mod LinePrograms
pub mod Lines
pub mod Frames
pub mod Names
-- State.
pub mod Index
pub mod Reading

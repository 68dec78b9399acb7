-- Chapters, in reading order.
pub mod Parts
pub mod FirstFaults
pub mod Files
pub mod Places
-- State.
pub mod Reading

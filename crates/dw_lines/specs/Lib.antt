-- Chapters, in reading order.
pub mod LineRules
pub mod Repeats
pub mod Header
pub mod Files
pub mod Programs
pub mod Opcodes
pub mod Machine
pub mod Rows
pub mod Sequences
-- State.
pub mod Turns
pub mod RowsLeft

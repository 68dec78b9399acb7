pub mod RepeatLaws
pub mod FormatLaws
mod HeaderSteps
pub mod StringLaws
mod OpcodeSteps
mod RunSteps
pub mod RowLaws

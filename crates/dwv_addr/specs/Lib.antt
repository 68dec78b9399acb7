-- Chapters, in reading order.
pub mod Words
pub mod Addresses
pub mod Sound
pub mod Answers
pub mod AnswerObjects
pub mod Located
pub mod Faults
pub mod Requests
pub mod Reports
pub mod Endings
pub mod Streams
pub mod Runs

pub mod ReportLemmas
pub mod OffsetLemmas
pub mod WordLemmas

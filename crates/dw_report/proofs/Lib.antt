pub mod ObjectLemmas
pub mod ReportLemmas
pub mod ShownLemmas

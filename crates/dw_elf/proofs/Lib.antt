pub mod CheckLemmas
pub mod NameLemmas
pub mod PlaceLemmas
pub mod SlotLemmas

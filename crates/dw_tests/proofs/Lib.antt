pub mod PlainGraphLemmas

pub mod MeasureLemmas
pub mod RulesByNumber
pub mod GroupLemmas
pub mod JoinLemmas
pub mod LookupLemmas
pub mod TypeLemmas

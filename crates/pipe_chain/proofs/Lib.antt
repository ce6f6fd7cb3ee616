pub mod SumLemmas
pub mod FlagSteps
pub mod ClaimSteps
pub mod OnceLemmas
pub mod Weighing
pub mod FlowLemmas
pub mod PlainLemmas
pub mod PlainPays

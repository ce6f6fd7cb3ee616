pub mod Halves
pub mod WorkingLemmas

-- what is made of nodes
pub mod Made
-- a pipeline cut at its sinks into legs
pub mod Cuts
-- what the pipeline of a branch is made of
pub mod Parts
-- pipelines that stand for branches
pub mod Lines
-- what all pipelines of a plan are made of
pub mod Layouts
-- legs that are made of what a branch says
pub mod LegsMade
-- what pipelines that stand for the branches of a plan give
pub mod Running
-- a run that stands for a plan
pub mod Standing
-- the front part of branches that one call runs
pub mod Fronts
-- what the journal of a run is
pub mod Journals

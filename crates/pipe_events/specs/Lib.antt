pub mod Stages
pub mod Worlds
pub mod Schedules
pub mod PlanStages
pub mod Decided
pub mod EventValues
-- rounds of events, and their laws
pub mod Rounds
-- the rows of sources, and when all are taken
pub mod Sources
-- journals that grow round by round
pub mod Journals
-- the stages of sound plans
pub mod Sound
-- what a run that goes through a plan's nodes in order writes down
pub mod Runs
-- rows that fit a schema, and the laws
pub mod Fits
-- columns whose cells fit their type
pub mod Fitting

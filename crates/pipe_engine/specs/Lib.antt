-- when the operators and the sink of a leg are those of the plan
pub mod Stands
-- what the engine has
pub mod Engine
-- rows that are there as a frame besides
pub mod Wholes
-- a plan that is run
pub mod Known
-- the world after rows came to its places
pub mod Passed
-- a join's slot that is filled
pub mod Finished
-- what the stages of a leg read
pub mod Taken
-- rows that went through lanes
pub mod Carried
-- what is lent to a run before its first branch
pub mod Lent
-- what is left of a plan's branches
pub mod Left
-- what lets the engine's calls be made
pub mod Calls
-- what the driver's steps do
pub mod Drives
-- what a stop check was asked
pub mod Asked
-- how many rows are taken to a question
pub mod Paced
-- the journal of a run beside the driver's state
pub mod Noted
-- what the engine's calls write into its journal
pub mod Journals
-- what is known where a node has too many rows
pub mod Refused

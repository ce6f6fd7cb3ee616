-- the branches of a plan
pub mod Branches
-- the texts of branches
pub mod Texts
-- what a path becomes above, while a plan is cut
pub mod Climbing
-- what whoever runs the branches needs of them
pub mod BranchLaws
-- what a plan is to whoever cuts and runs it
pub mod Shape
-- chains, sources and joins of a plan
pub mod Chains
-- what a plan means to whoever runs its branches
pub mod Meaning
-- branches leg by leg
pub mod Legs
-- what is counted and expected of branches
pub mod Ways
-- the laws
pub mod LegLaws
-- the numbers of sinks
pub mod Numbers
-- branches that stand one behind the other
pub mod Blocks
-- what is known of a run between its steps
pub mod State
-- the steps of a run
pub mod Steps
-- what stands at a number
pub mod Tables
-- what is known of a runner of legs
pub mod Words
-- what a runner of legs does
pub mod Runner
-- pipelines as what is known of a run sees them
pub mod Lines
-- the driver's state and its steps
pub mod Runs
-- the front part of the branches that one call runs
pub mod Fronts
-- pipelines that stand for the branches of a plan
pub mod Plans
-- what came to a place is among what has to come there
pub mod Within
-- what a runner tells where it refuses to go on
pub mod Refusals
-- a plan as its events see it, and as its legs do
pub mod Boards
-- what a journal tells beside a run, leg by leg
pub mod Recorded
-- what the steps of a run write
pub mod Written
-- the laws
pub mod JournalLaws
pub mod Along
pub mod ChainLaws

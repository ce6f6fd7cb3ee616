-- what the operators of a plan's nodes have to be
pub mod Converted
-- the keys of a join's side
pub mod Keys
-- nodes of a checked plan
pub mod Nodes
-- how many legs of branches feed sinks and go through nodes
pub mod Counts
-- the sources of branches
pub mod Sources
-- where the rows of a node go
pub mod Steps
-- the joins of a plan, each with one spec
pub mod Joins
-- the laws
pub mod Laws

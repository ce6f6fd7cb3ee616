-- one walk over the nodes, from below
pub mod Walk
-- the numbers of a good run
pub mod Config
-- nodes, with formulas in place of expressions
pub mod Node
-- a plan: nodes and tables
pub mod Plan
-- the nodes under the root
pub mod Under
-- the output schema of a node
pub mod Schemas
-- the rows of a node
pub mod PlanRows
-- when a plan is well-formed, and which fault it has else
pub mod Faults
-- which side of a join is built
pub mod Swap

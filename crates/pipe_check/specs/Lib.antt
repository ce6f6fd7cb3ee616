-- things that have names
pub mod Named
-- the schemas that are kept for nodes
pub mod Kept
-- which right columns a join keeps
pub mod Sides
-- a plan that was checked, and why one is refused
pub mod Checked
-- what the check keeps while it goes upwards
pub mod Checking
-- what differs from the first of several
pub mod Differences

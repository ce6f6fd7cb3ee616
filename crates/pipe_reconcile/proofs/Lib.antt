-- the run of the join
pub mod Running
-- how a reconciliation ends, by how its join does
pub mod Ending
-- why there is no reconciliation, and that there is one else
pub mod Causes

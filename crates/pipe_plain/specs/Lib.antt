-- what differs from the first of several
pub mod Differences
-- the errors of a node that tell no name
pub mod Nameless
-- what stands at the numbers of the nodes, as lists
pub mod Tables

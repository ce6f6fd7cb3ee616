-- cells: their types, when two are the same, and the order of values
pub mod Cell
-- rows, and when two lists have the same rows
pub mod Rows
-- sums of weights over lists
pub mod Weights
-- schemas
pub mod Schema
-- the order of a schema's names
pub mod NameOrder
-- sizes of cells and rows
pub mod Sizes
-- counts that stand still at their last value
pub mod Counts

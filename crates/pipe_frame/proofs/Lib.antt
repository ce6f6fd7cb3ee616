pub mod Tables
pub mod RowOps
pub mod Sizes
pub mod Selects
pub mod Stacks
pub mod Queues

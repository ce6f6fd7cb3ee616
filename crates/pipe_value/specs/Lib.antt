-- the items of packed columns
pub mod Columns
-- the data that a value stands for
pub mod View
-- the items of an array
pub mod Items
-- what a failed read says
pub mod Errors
-- the items read so far
pub mod Read

-- values of fixed width: their bytes and ranges
pub mod Native
-- values in a vector of one owner, or shared
pub mod Buffer
-- for each value of a column whether it is there
pub mod Validity
-- a column of values of one type, some of them missing
pub mod Column
-- a column with a name and a type
pub mod Series
-- columns side by side, and column by column
pub mod Columns
-- sizes of columns
pub mod Sizes

pub mod Sums
pub mod Flags
pub mod FlagRule
pub mod Claims
pub mod ClaimRule
-- lists of keys that have the same keys
pub mod Keys
-- rows through operators that also mark keys
pub mod Flow
-- what an operator owes, and what an answer of it pays
pub mod Executed
-- operators in a row
pub mod Chain
-- a part of the way of some rows
pub mod Parts
-- how many rows each operator was given
pub mod Counts
-- operators that mark nothing
pub mod Unmarking
-- what operators that mark nothing owe by law
pub mod PlainLaws

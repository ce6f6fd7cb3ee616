-- the formula of an expression, without addresses
pub mod Formula
-- the type of an expression, and the columns that it names
pub mod Types
-- why an expression has no type
pub mod Typing
-- what operators give on nullable values
pub mod Nullables
-- the value of an expression at a row
pub mod Values
-- what filters, projections and functions make of a row
pub mod Projections
-- what a join makes of two lists of rows
pub mod Joins
-- what one probed row makes of the built rows of a join, and what the built side has of its own
pub mod Shares
-- what a subexpression gives
pub mod Operands
-- the operations on integers
pub mod Arithmetic
-- what the parts of an evaluation give
pub mod Evaluation
-- expressions that were made for a schema, and the columns that they give
pub mod Physical

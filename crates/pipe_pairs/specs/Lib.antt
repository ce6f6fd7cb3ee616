-- which comparison is meant
pub mod Comparisons
-- what formulas make of two operands
pub mod Operands
-- the settings of a join
pub mod Sides

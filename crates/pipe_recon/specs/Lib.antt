-- when rows meet, and each row's least partner
pub mod Reconciliation
-- why two tables can't be reconciled
pub mod Refusals
-- keys as bytes
pub mod Codes
-- the least row of each code
pub mod FirstRows
-- the plan of a reconciliation
pub mod JoinPlan
-- the full join of two tables, whose rows are counted
pub mod FullJoin
-- why there is no reconciliation
pub mod Ends
-- the least partners, one pass over pairs
pub mod Least
-- the spelling of reconciliations
pub mod ReconSpelling
-- whether a value spells one
pub mod ReconShape
-- what is read from bytes
pub mod ReconReading
-- the lines of a reconciliation
pub mod ReconLines
-- the texts of their pieces
pub mod LineTexts

-- the columns that are needed of a plan's nodes
pub mod Needed
-- narrowed plans
pub mod Narrow
-- lists of names
pub mod Lists
-- outputs and needs by names
pub mod Sides
pub mod Put
-- needs of all that a node gives
pub mod Whole
pub mod Full
-- names found by their first places
pub mod Noted
-- lists of names in runs
pub mod Runs
-- outputs in two parts
pub mod Fronts

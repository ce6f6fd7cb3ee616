-- the chunk of a scan
pub mod Planned
-- a join with the frames of its sides
pub mod Sides
-- what is known of tables with flags while cases are worked out
pub mod Working

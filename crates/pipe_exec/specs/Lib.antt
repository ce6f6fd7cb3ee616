-- which jobs may be run, and why others are refused
pub mod Sound
-- what a frame has to be, and what an error says
pub mod Evaluated
-- why a run gives no rows
pub mod Runs
-- what the journal of a run is
pub mod Journals
-- which side of a join is built, and runs of both
pub mod Sides

-- how a place of a value is written
pub mod Places
-- steps that are being written
pub mod Writing
-- what may stand at a place of a job
pub mod Wanted
-- the members of objects and the items of arrays
pub mod Members

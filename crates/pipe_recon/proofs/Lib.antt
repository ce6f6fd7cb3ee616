-- rows meet exactly where their codes are the same
pub mod Meeting
-- keys of a frame as columns of its own
pub mod KeyColumns
-- partners by codes
pub mod Partners
-- what a key that isn't refused has
pub mod Known
-- the least row of each code
pub mod FirstRows
-- the least partner of a row, one pair more
pub mod LeastSteps
-- frames of codes and row numbers
pub mod CodedFrames
-- the plan is well-formed
pub mod Formed
-- the rows of the join, by their numbers
pub mod JoinRows
-- the classes that the join tells
pub mod Classes
-- how many rows the join has
pub mod JoinCounts
pub mod Shapes
pub mod Again
pub mod OneReconJob
pub mod Texts

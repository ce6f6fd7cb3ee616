-- seats of lanes
pub mod LaneSeats
-- a probe for a lane
pub mod Opening
-- a leg that runs
pub mod Passages
-- lanes on whose way something was refused
pub mod Stopped

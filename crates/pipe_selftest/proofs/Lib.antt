-- the length of the same rows; counts over runs one after another
pub mod Counting
-- frames of drawn keys
pub mod Drawn
-- the plan is well-formed
pub mod Formed
-- why a self-test ends
pub mod Ending
-- digits
pub mod Digits

-- the keys and the frames
pub mod Frames
-- the plan: three joins of the two frames
pub mod Joins
-- what a self-test writes
pub mod Lines
-- why a self-test gives no numbers
pub mod Ends
-- numbers as words of decimal digits
pub mod Words

-- in which order members stand in a text
pub mod Order
-- the places of a value, and what may be wrong there
pub mod Places
-- what a walk through a value tells
pub mod Walks
-- what is written of a place
pub mod Telling

-- what a reader and a writer do
pub mod Outside
-- texts that are read and written whole
pub mod Whole
-- readers and writers in memory
pub mod Memory
-- what is left to read in memory
pub mod Shelves
-- what a writer in memory tells while there is room
pub mod Told
pub mod Blocks
pub mod Messages
pub mod Hands
pub mod Desk

-- frames as a schema and a list of rows
pub mod Frame
-- sizes of frames
pub mod Sizes
-- what a vertical stacker holds and gives out
pub mod Stacker
-- the rows of chunks
pub mod Chunks
-- the columns of chunks, taken one after another
pub mod Queues

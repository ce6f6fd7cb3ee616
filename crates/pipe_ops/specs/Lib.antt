-- what an operator gives of the rows that it owes
pub mod Pieces
-- what a sink ends as
pub mod Endings
-- what is left of a source, and the chunks that it gives
pub mod Batches
-- pieces of a chunk, from row to row
pub mod Offsets
-- how many rows a chunk should have
pub mod ChunkSizes
-- what becomes of one row, operator by operator
pub mod Each
-- what operators owe by law
pub mod Laws
-- expressions that several lanes share
pub mod Exprs

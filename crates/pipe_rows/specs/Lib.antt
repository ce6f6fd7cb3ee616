-- the order of rows under a sort
pub mod SortOrder
-- FNV-1a
pub mod Fnv
-- rows as bytes that tell them apart
pub mod Equality
-- rows with their bytes and marks
pub mod Encoded
-- rows as bytes that are ordered as the rows
pub mod Ordered
-- either encoding, column by column
pub mod Encodings
-- which partition a key belongs to
pub mod Partition
-- which bytes are ordered encodings
pub mod Decoding
-- a sort by the ordered encoding
pub mod SortBytes
-- rows that are filled column by column
pub mod Filling
-- the laws of the encodings and of sorted lists
pub mod Laws
-- byte strings of one width
pub mod EvenRows
-- byte strings of one width or of any
pub mod RowBytes
-- rows of fixed width without nulls, filled column by column
pub mod Dense

-- what a sort is told, and the rows that it ends with
pub mod SortKeys
-- the columns by which a frame is sorted
pub mod SortColumns
-- the front of a byte string as one number
pub mod Prefix
-- the places of encoded rows, in order
pub mod Entries
-- the bytes that tell rows apart
pub mod Digits
-- rows of whole numbers as one number each
pub mod Words
-- a sort ends alike, in whatever order its rows came
pub mod SortLaws

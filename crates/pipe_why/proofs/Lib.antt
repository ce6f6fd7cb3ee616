-- the columns of a key have one height
pub mod EvenColumns

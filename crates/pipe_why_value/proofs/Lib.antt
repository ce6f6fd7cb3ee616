-- parts of a walk one after another
pub mod Looks
-- the names of columns
pub mod Names
-- members in the order of a text
pub mod Orders
-- how values are written
pub mod Writing
-- places whose parts are good
pub mod Goods

-- what loads bring to nodes, as tables
pub mod Carried
-- what closing a side asks
pub mod Closing
-- tests of joins
pub mod Joins
-- tests of built rows
pub mod MetRows
-- positions of a source
pub mod Sources
-- the keys of built rows, and the built rows of keys
pub mod Marks
-- the answer of a replay
pub mod Replayed
-- lists of sorts that are kept
pub mod KeptLists
-- a world with what it keeps of its plan
pub mod KeptWorld
-- sinks that are filled
pub mod Sinks
-- what a world of a plan has at its root
pub mod Ends
-- the keys of a sort
pub mod Sorting

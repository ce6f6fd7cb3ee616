-- what is left of a source, and how deep sources stand in it
pub mod Supply
-- chunks on their way out of a source
pub mod Morsels
-- sources of sources
pub mod Supplies
-- a source within a source is less deep
pub mod SupplyFalls
-- the law of sources
pub mod Law
-- chunks in the order of their indexes
pub mod Ordered
-- chunks whose rows stand one behind the other
pub mod Runs
-- an ordered sink ends alike, in whatever order rows came
pub mod OrderedLaws
-- the rows and the schema of a source, and what a sink around a sink ends as
pub mod Endings
-- a sink around a sink ends alike, in whatever order rows came
pub mod EndingLaws
-- the columns of an unpivot
pub mod Unpivots
-- columns that are lent
pub mod Lent
-- columns by their parts
pub mod Parts
-- the columns of a renaming
pub mod Renamings
-- what a function makes of a frame
pub mod Applied
-- how a chunk is cut
pub mod Cutting
-- one call of the function operator
pub mod Turns
-- what a function operator has begun
pub mod Operators
-- what it owes by law
pub mod Laws

-- what a view keeps, and what an edit of a table does to it
pub mod Kept
-- the rows of an edited side beside those of the other
pub mod Sides
-- what one row more adds to a join, and what it takes away
pub mod Changes
-- the codes of keys, and the groups of rows by code
pub mod Codes
-- the rows of a join by groups
pub mod Joined
-- a list of rows in order
pub mod Merged
-- what a view keeps beside its rows
pub mod Held
-- edits before they are made
pub mod Edits
-- why a view isn't made or changed
pub mod Refusals
-- edits that are played one after another
pub mod Played
-- the spelling of edits whose cells have no type yet
pub mod RawSpelling
-- the members of a view and its edits
pub mod RawReplays
-- the lines of edits
pub mod EditLines
-- the spelling of edits whose cells have the types of their columns
pub mod EditSpelling
-- the spelling of a view and its edits
pub mod ReplaySpelling
-- how a view and its edits end
pub mod ReplayEnds

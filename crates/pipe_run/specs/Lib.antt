-- stages with counts, and why a lane stopped
pub mod Stages
-- what a lane is between two chunks, and what it did
pub mod Lanes
-- chunks that lanes claim
pub mod Claimed
-- lanes with a seat at the claims and without
pub mod Seats
-- all lanes together
pub mod Dealt
-- how often a stop check said yes
pub mod Halts
-- lanes at their start
pub mod Opens
-- lanes that flush
pub mod Flushes
-- how far sinks were combined
pub mod Gathered
-- what lanes noted in a round, and as events
pub mod Notes
-- a round whose lanes' notes went behind others
pub mod Noted
-- what a source gave, round by round
pub mod NotedRounds
-- how often workers take to a question
pub mod Paced
-- the laws
pub mod Laws
-- rounds one after another, until a source is out
pub mod Rounds

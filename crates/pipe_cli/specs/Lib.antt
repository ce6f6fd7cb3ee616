-- statuses and their lines
pub mod Status
-- where an input stands, and how it is read
pub mod Sources
-- what a command promises, and what that says by one rule for all commands
pub mod Contract
-- numbers of rows as a word
pub mod Heights
-- jobs
pub mod Jobs
-- reconciliations
pub mod Recons
-- views and their edits
pub mod Replays
-- jobs with low filters and needed columns
pub mod Optimized
-- commands that read nothing
pub mod NoInputs
-- the commands, each with its contract in a file of its own
pub mod Commands
-- what a refusal says of reading and writing
pub mod Refused
-- what a run says of its input, its output and its notes
pub mod Outcome
-- what a run on the text that `optimize` writes gives
pub mod OptimizedRuns
-- what a run says of a stream, and of other words
pub mod Streams
-- what a run says of `why`
pub mod Whys
-- the text of an answer
pub mod Answers
-- what an error is told as
pub mod FaultLine

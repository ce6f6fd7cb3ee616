mod Tests
mod Meeting
mod Changing
mod Placing
mod Weighing
mod Apart
mod Entries
mod Putting
mod Ordering
mod Local
mod Taking
mod Limits
pub mod Growing
mod Edited
mod Viewed
mod Told
mod Filling
mod Made
mod Framed
mod Checked
-- the order of codes
mod CodeOrder
-- views with the same tables, and edits played on them
pub mod Listed
pub mod Lists
pub mod Triples
pub mod Outlines
pub mod Replaying
pub mod Texts
pub mod Numbers
pub mod TypedEdits
pub mod Embedded
pub mod Again
pub mod OneReplay
pub mod Unread
pub mod Replayed
pub mod OneEnd

-- rows that are repeated
pub mod Repeats
-- rows one after another, so many times, are each row so many times
pub mod RepeatLaws

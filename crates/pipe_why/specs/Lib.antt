-- how the text of a fault begins
pub mod Heads

pub mod Unstopped
pub mod Complete
pub mod Hints
pub mod SideCauses
pub mod Frames

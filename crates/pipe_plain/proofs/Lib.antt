pub mod Walks
pub mod FrameRows
pub mod Ranges

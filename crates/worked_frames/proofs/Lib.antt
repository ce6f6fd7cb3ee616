pub mod NumberFrames

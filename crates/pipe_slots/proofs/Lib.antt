pub mod Kept
pub mod Copies
pub mod Places
pub mod Padded

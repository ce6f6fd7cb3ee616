pub mod Lengths
pub mod Copies
pub mod Toys

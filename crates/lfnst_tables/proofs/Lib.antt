pub mod Sizes
pub mod Stored
pub mod Lined

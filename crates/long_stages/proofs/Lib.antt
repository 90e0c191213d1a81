pub mod Edge
pub mod Summing
pub mod Ceil
pub mod Rails
pub mod Finds
pub mod Whole

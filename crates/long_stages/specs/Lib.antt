pub mod Sums
pub mod Work

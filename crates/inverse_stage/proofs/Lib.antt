pub mod Blocks
pub mod Railing
pub mod Work

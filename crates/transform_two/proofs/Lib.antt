pub mod Crossing
pub mod Both

pub mod Furthest
pub mod Bounds
pub mod Numbers
pub mod Unique

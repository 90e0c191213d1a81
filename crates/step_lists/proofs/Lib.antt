pub mod ByList
pub mod Unique

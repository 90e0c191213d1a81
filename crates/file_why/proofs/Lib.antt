mod Naming
pub mod Unique

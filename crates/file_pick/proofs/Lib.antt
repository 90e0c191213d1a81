pub mod Fuel
pub mod Unique

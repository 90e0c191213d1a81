mod Drawing
pub mod Unique

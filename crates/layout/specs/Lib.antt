pub mod Zip
pub mod Live
pub mod Part
